-- A test that decides a sentence. Assumes nothing.
use Rattle.std.specs.Prelude.{◌≡◌, ◌⊎◌, Bool, true, false, ℕ}
use Rattle.std.proofs.Common.{inl, inr, arith}
use Rattle.std.proofs.Math.Decide.{ℕ_discrete}

-- r is true where P holds, and false where it does not
abbrev pub Decides : Bool → Type 0 → Type 0
Decides r P = ((r ≡ true) × P) ⊎ ((r ≡ false) × (P → ⊥))

pub true_not_false : {r : Bool} → r ≡ true → r ≡ false → ⊥
true_not_false t f = let z : ◌≡◌ {A = ℕ} 0 1 = cc in omega arith

module _ {r : Bool} (P : Type 0) where
  pub decides_true : Decides r P → r ≡ true → P
  decides_true (inl d) e = d.1
  decides_true (inr d) e = absurd (true_not_false e d.0)

  pub decides_false : Decides r P → r ≡ false → P → ⊥
  decides_false (inl d) e = absurd (true_not_false d.0 e)
  decides_false (inr d) e = d.1

  -- the same test decides an equivalent sentence
  pub decides_same : (Q : Type 0) → (P → Q) → (Q → P) → Decides r P → Decides r Q
  decides_same Q f g (inl d) = inl (d.0, f d.1)
  decides_same Q f g (inr d) = inr (d.0, λ q. d.1 (g q))

-- numbers that are not different are equal
pub equal_stable : (x y : ℕ) → ((x ≡ y → ⊥) → ⊥) → x ≡ y
equal_stable x y f = by (ℕ_discrete x y)
  where
    by : Dec (x ≡ y) → x ≡ y
    by (yes e) = e
    by (no n) = absurd (f n)
