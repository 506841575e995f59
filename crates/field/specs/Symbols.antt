-- The symbols of a modulus as a field. Assumes nothing.
use Rattle.std.specs.Prelude.{◌≡◌, ◌≢◌, Bool}
use Rattle.std.proofs.Math.Path.{refl, ap, subst}
use Rattle.std.proofs.Common.{sym, ◌∙◌, arith, pow_pos, pow_mono}
use Rattle.std.proofs.Math.Bool.{true, false, cond}
use Prim.Native.Nat.{ℕ, zero, suc, ◌^◌, ◌<◌}
use Rattle.std.proofs.Math.Nat.{le_refl}
use Rattle.std.proofs.Math.Decide.{ℕ_discrete}
use borrow.Author.Tests.{eqb-true, eqb-false}
use Rattle.std.proofs.Math.Dec.{eqb}
use Rattle.field.specs.Binary.{◌⊕◌, degree, product, inverse_below, inverse, Irreducible}
use Rattle.field.specs.Laws.{Ops, IsField}
use Rattle.field.specs.Xor.{xor_assoc, xor_comm, xor_self, xor_zero_left, xor_below}
use Rattle.field.specs.Degree.{degree-right, degree-positive}
use Rattle.field.specs.Product.{positive, product-below, product-zero-left, product_assoc, product_comm, product-one, product_xor, product-inverse}

-- sum, product and inverse modulo m, on the numbers below 2^(degree of m)
abbrev pub symbols : ℕ → Ops
symbols m = record { ◌⊕◌ = ◌⊕◌; ◌⊗◌ = product m; inv = inverse m; Sym = λ x. x < 2 ^ degree m }

-- ---- the inverse that is searched for is found

module _ (m x : ℕ) where
  inverse-found : (n : ℕ) (y : ℕ) → y < n → product m x y ≡ 1 → product m x (inverse_below m x n) ≡ 1
  unfolding inverse_below
  inverse-found zero y h e = absurd (omega arith)
  inverse-found (suc n) y h e = by (eqb (product m x n) 1) refl (ℕ_discrete y n) (λ l. inverse-found n y l e)
    where
      by : (t : Bool) → eqb (product m x n) 1 ≡ t → Dec (y ≡ n) → (y < n → product m x (inverse_below m x n) ≡ 1) → product m x (cond t n (inverse_below m x n)) ≡ 1
      by true q d ih = eqb-true (product m x n) 1 q
      by false q (yes s) ih = absurd (eqb-false (product m x n) 1 q (ap (product m x) (sym s) ∙ e))
      by false q (no s) ih = ih (omega arith)

  inverse-below-less : (n : ℕ) → 0 < n → inverse_below m x n < n
  unfolding inverse_below
  inverse-below-less zero h = h
  inverse-below-less (suc n) h = by (eqb (product m x n) 1) (ℕ_discrete n 0) (inverse-below-less n)
    where
      by : (t : Bool) → Dec (n ≡ 0) → (0 < n → inverse_below m x n < n) → cond t n (inverse_below m x n) < suc n
      by true d ih = le_refl (suc n)
      by false (yes z) ih = subst (λ (k : ℕ). inverse_below m x k < suc n) (sym z) (omega arith)
      by false (no z) ih = omega (arith, ih (omega arith))

module _ (m : ℕ) (irr : Irreducible m) where
  inverse-below-zero : (n : ℕ) → inverse_below m 0 n ≡ 0
  unfolding inverse_below
  inverse-below-zero zero = refl
  inverse-below-zero (suc n) = ap (λ (x : ℕ). cond (eqb x 1) n (inverse_below m 0 n)) (product-zero-left m (positive m irr) n) ∙ inverse-below-zero n

  -- 0 has none
  pub inverse-zero : inverse m 0 ≡ 0
  unfolding inverse
  inverse-zero = inverse-below-zero (2 ^ degree m)

  inverse-less : (x : ℕ) → inverse m x < 2 ^ degree m
  unfolding inverse
  inverse-less x = inverse-below-less m x (2 ^ degree m) (pow_pos (degree m))

  product_of_inverse : (x : ℕ) → x < 2 ^ degree m → x ≢ 0 → product m x (inverse m x) ≡ 1
  unfolding inverse
  product_of_inverse x h n = let i = product-inverse m irr {x = x} (omega arith) h in inverse-found m x (2 ^ degree m) i.0 i.1 i.2

  -- the symbols of an irreducible modulus are a field
  pub symbols-field : IsField (symbols m)
  symbols-field =
      let pos : 0 < m = positive m irr in
      record {
        sum_assoc = xor_assoc;
        sum_comm = xor_comm;
        zero-sum = xor_zero_left;
        sum_self = xor_self;
        prod_assoc = product_assoc m pos;
        prod_comm = product_comm m pos;
        distrib = product_xor m pos;
        zero_prod = product-zero-left m pos;
        sym_zero = pow_pos (degree m);
        sym_one = one_symbol;
        sym_sum = xor_below (degree m);
        sym_prod = λ {x} {y} h k. product-below m pos x y;
        one_prod = λ x h. product-one m pos h;
        sym_inv = λ {x} h. inverse-less x;
        prod_inv = product_of_inverse;
      }
    where
      one_symbol : 1 < 2 ^ degree m
      one_symbol = omega (arith, pow_mono {i = 1} {j = degree m} (degree-positive (degree-right m (positive m irr)) irr.not_constant))
