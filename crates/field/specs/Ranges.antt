-- Tests that a number, or every number of a list, is a symbol. Assumes nothing.
use Rattle.std.specs.Prelude.{◌≡◌, refl, ◌⊎◌, ◌↔◌, Bool, true, false, List, ◌∷◌, ℕ, ◌+◌, ◌/◌, ◌^◌, ◌≤◌, ◌<◌, eqb, length, drop, get_or}
use Rattle.std.proofs.Common.{sym, subst, inl, inr, div-lt_iff_lt-mul, one-mul, add-one, arith, eqb-true, drop-cons, pow_pos}
use Rattle.std.proofs.Math.Nat.{div-eq_of_lt}
use Rattle.std.proofs.lemmas.Bool.{eqb-false}
use Rattle.lists.specs.All.{Below}
use Rattle.lists.specs.Decides.{Decides}

-- a number has no bit from l on exactly where it is below 2^l
pub high-bits_test : (a l : ℕ) → Decides (eqb (a / 2 ^ l) 0) (a < 2 ^ l)
high-bits_test a l = go (eqb (a / 2 ^ l) 0) refl
  where
    go : (t : Bool) → eqb (a / 2 ^ l) 0 ≡ t → Decides t (a < 2 ^ l)
    go true e =
        let z = eqb-true (a / 2 ^ l) 0 e in
        inl (refl, subst (λ (x : ℕ). a < x) (one-mul (2 ^ l)) ((div-lt_iff_lt-mul (pow_pos l)).0 (omega arith)))
    go false e = inr (refl, λ h. eqb-false (a / 2 ^ l) 0 e (div-eq_of_lt h))

-- r is the largest entry of xs, and 0 where there is none: a positive number is above r exactly where it is above every entry
abbrev pub Largest : List ℕ → ℕ → Type 0
Largest xs r = (n : ℕ) → 0 < n → (r < n) ↔ Below n xs

-- the same while the entries from i on are left
abbrev pub LargestTo : List ℕ → ℕ → ℕ → Type 0
LargestTo xs i top = (n : ℕ) → 0 < n → ((top < n) × Below n (drop i xs)) ↔ Below n xs

-- one entry more
pub largest_next : (xs : List ℕ) (i top next : ℕ) → i < length xs → top ≤ next → get_or xs i 0 ≤ next
    → ((next ≡ top) ⊎ (next ≡ get_or xs i 0)) → LargestTo xs i top → LargestTo xs (i + 1) next
largest_next xs i top next h lt lx e inv n p = (
  λ b. (inv n p).0 (omega arith, subst (Below n) (sym split) (omega arith, b.1)),
  λ b. let w = (inv n p).1 b in let l = subst (Below n) split w.1 in (above e w.0 l.0, l.1),
)
  where
    split : drop i xs ≡ get_or xs i 0 ∷ drop (i + 1) xs
    split = rw (add-one i, drop-cons xs i 0 h)

    above : (next ≡ top) ⊎ (next ≡ get_or xs i 0) → top < n → get_or xs i 0 < n → next < n
    above (inl e) a b = omega arith
    above (inr e) a b = omega arith
