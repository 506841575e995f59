-- The polynomial with given roots, and what interpolation gives.
use Rattle.std.specs.Prelude.{◌≡◌, refl, List, [], ◌∷◌, ℕ, zero, suc, ◌<◌, length}
use Rattle.std.proofs.Common.{arith}
use Rattle.field.specs.Laws.{Ops, IsField}
use Rattle.lists.specs.All.{All}
use Rattle.poly.specs.Poly.{eval, mul_p, length_mul_p}

-- The polynomial with the roots f i, i below n
abbrev pub roots_p : Ops → ℕ → (ℕ → ℕ) → List ℕ
roots_p K zero f = 1 ∷ []
roots_p K (suc n) f = mul_p K (f n ∷ 1 ∷ []) (roots_p K n f)

pub length_roots_p : (K : Ops) (n : ℕ) (f : ℕ → ℕ) → length (roots_p K n f) ≡ suc n
length_roots_p K zero f = refl
length_roots_p K (suc n) f =
    let ih : length (roots_p K n f) ≡ suc n = length_roots_p K n f in
    omega (arith, length_mul_p K (f n ∷ 1 ∷ []) (roots_p K n f) (omega arith) (omega arith))

module _ {K : Ops} (F : IsField K) where
  infixl 60 ◌⊕◌
  infixl 70 ◌⊗◌
  open K use {◌⊕◌, ◌⊗◌, inv, Sym}

  -- What interpolation gives
  pub record Through (n : ℕ) (f g : ℕ → ℕ) : Type 0 where
    pub coeffs : List ℕ
    pub count : length coeffs ≡ n
    pub elements : All Sym coeffs
    pub values : (i : ℕ) → i < n → eval K coeffs (f i) ≡ g i
