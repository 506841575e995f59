-- The product modulo m, and the field that it makes where m is irreducible. Assumes nothing.
use Rattle.std.specs.Prelude.{◌≡◌, ◌⊎◌, ℕ, zero, suc, ◌*◌, ◌/◌, ◌%◌, ◌^◌, ◌≤◌, ◌<◌}
use Rattle.std.proofs.Math.Path.{sym, ap, ap₂}
use Rattle.std.proofs.Common.{◌∙◌, inl, inr, lt_irrefl, lt_of_lt_of_le, lt_of_le_of_lt, le_refl, eq-zero-or-pos, le_of_eq, eq-or-lt_of_le, pow-suc, arith}
use Rattle.field.specs.Binary.{◌⊕◌, clmul, degree, reduce, rem, product, Irreducible}
use Rattle.field.specs.Xor.{xor_zero_left, xor_zero_right, xor_move}
use Rattle.field.specs.Clmul.{clmul-zero-left, clmul-step, clmul-two-right, clmul-one-left, clmul-one-right, clmul_comm, clmul_assoc, clmul-left_comm, clmul_xor_left, clmul_xor_right}
use Rattle.field.specs.Degree.{mul_bit_le, degree-right}
use Rattle.field.specs.Rem.{rem-zero, reduce-rem, rem_below, rem-small, rem_multiple, rem_xor, rem-clmul-left, rem-clmul-right, divide}

-- ---- the product modulo any m but 0

module _ (m : ℕ) (pos : 0 < m) where
  pub product-below : (x y : ℕ) → product m x y < 2 ^ degree m
  unfolding product
  product-below x y = rem_below m pos (clmul x y)

  pub product-zero-left : (x : ℕ) → product m 0 x ≡ 0
  unfolding product
  product-zero-left x = ap (rem m) (clmul-zero-left x) ∙ rem-zero m

  pub product_comm : (x y : ℕ) → product m x y ≡ product m y x
  unfolding product
  product_comm x y = ap (rem m) (clmul_comm x y)

  pub product-zero-right : (x : ℕ) → product m x 0 ≡ 0
  product-zero-right x = product_comm x 0 ∙ product-zero-left x

  pub product_assoc : (x y z : ℕ) → product m (product m x y) z ≡ product m x (product m y z)
  unfolding product
  product_assoc x y z = rem-clmul-left m pos (clmul x y) z ∙ ap (rem m) (clmul_assoc x y z) ∙ sym (rem-clmul-right m pos x (clmul y z))

  pub product_xor : (x y z : ℕ) → product m x (y ⊕ z) ≡ product m x y ⊕ product m x z
  unfolding product
  product_xor x y z = ap (rem m) (clmul_xor_right x y z) ∙ rem_xor m pos (clmul x y) (clmul x z)

  pub product-one : {x : ℕ} → x < 2 ^ degree m → product m 1 x ≡ x
  unfolding product
  product-one {x} h = ap (rem m) (clmul-one-left x) ∙ rem-small m pos h

  -- ---- by the digits of y, for a loop that shifts and adds

  rem_double : (v : ℕ) → rem m (v * 2) ≡ reduce m (rem m v * 2)
  rem_double v =
      ap (rem m) (sym (clmul-two-right v)) ∙ sym (rem-clmul-left m pos v 2) ∙ ap (rem m) (clmul-two-right (rem m v))
      ∙ sym (reduce-rem m pos (omega (arith, rem_below m pos v, pow-suc 2 (degree m))))

  rem_bit : {x : ℕ} (y : ℕ) → x < 2 ^ degree m → rem m (x * (y % 2)) ≡ x * (y % 2)
  rem_bit {x} y h = rem-small m pos (lt_of_le_of_lt (mul_bit_le x y) h)

  -- the highest digit first
  pub product-step : {x : ℕ} (y : ℕ) → x < 2 ^ degree m → product m x y ≡ reduce m (product m x (y / 2) * 2) ⊕ x * (y % 2)
  unfolding product
  product-step {x} y h =
      ap (rem m) (clmul-step x y) ∙ rem_xor m pos (clmul x (y / 2) * 2) (x * (y % 2)) ∙ ap₂ ◌⊕◌ (rem_double (clmul x (y / 2))) (rem_bit y h)

-- ---- inverses modulo an irreducible m

module _ (m : ℕ) (irr : Irreducible m) where
  pub positive : 0 < m
  positive = omega (arith, irr.not_constant)

  -- with m = q x + r, an inverse of r gives one of x
  inverse-step : (x q r y : ℕ) → m ≡ clmul q x ⊕ r → rem m (clmul r y) ≡ 1 → rem m (clmul x (clmul q y)) ≡ 1
  inverse-step x q r y e h =
      ap (rem m) (clmul-left_comm x q y ∙ sym (clmul_assoc q x y) ∙ ap (λ (w : ℕ). clmul w y) (xor_move (clmul q x) r (sym e)) ∙ clmul_xor_left m r y)
      ∙ rem_xor m positive (clmul m y) (clmul r y)
      ∙ ap₂ ◌⊕◌ (ap (rem m) (clmul_comm m y) ∙ rem_multiple m positive y) h
      ∙ xor_zero_left 1

  -- m leaves a remainder by every x above 1 of lower degree
  pub no_divisor : {x : ℕ} → 1 < x → x < 2 ^ degree m → (q : ℕ) → ¬ (clmul q x ≡ m)
  no_divisor {x} h b q e = go (irr.no-factors q x e)
    where
      go : (q ≡ 1) ⊎ (x ≡ 1) → ⊥
      go (inl o) = lt_irrefl m (lt_of_le_of_lt (le_of_eq (sym e ∙ ap (λ (w : ℕ). clmul w x) o ∙ clmul-one-left x)) (lt_of_lt_of_le b (degree-right m positive).low))
      go (inr o) = omega arith

  abbrev Invertible : ℕ → Type 0
  Invertible x = (y : ℕ) × (rem m (clmul x y) ≡ 1)

  -- from an inverse of the remainder of m by x
  inverse-from : (x : ℕ) → 1 < x → x < 2 ^ degree m → ((r : ℕ) → r < x → 0 < r → Invertible r) → Invertible x
  inverse-from x h b below = go (eq-zero-or-pos (rem x m))
    where
      p : 0 < x
      p = omega arith

      d : (q : ℕ) × (m ≡ clmul q x ⊕ rem x m)
      d = divide x p m

      go : (rem x m ≡ 0) ⊎ (0 < rem x m) → Invertible x
      go (inl z) = absurd (no_divisor h b d.0 (sym (d.1 ∙ ap (λ (w : ℕ). clmul d.0 x ⊕ w) z ∙ xor_zero_right (clmul d.0 x))))
      go (inr l) = (clmul d.0 i.0, inverse-step x d.0 (rem x m) i.0 d.1 i.1)
        where
          i : Invertible (rem x m)
          i = below (rem x m) (lt_of_lt_of_le (rem_below x p m) (degree-right x p).low) l

  -- by the remainders of m, as in Euclid's algorithm
  invertible : (k x : ℕ) → x ≤ k → 0 < x → x < 2 ^ degree m → Invertible x
  invertible zero x h p b = absurd (omega arith)
  invertible (suc k) x h p b = go (eq-or-lt_of_le p) (λ r l o. invertible k r (omega arith) o (omega arith))
    where
      go : (1 ≡ x) ⊎ (1 < x) → ((r : ℕ) → r < x → 0 < r → Invertible r) → Invertible x
      go (inl o) below = (1, ap (rem m) (clmul-one-right x) ∙ rem-small m positive b ∙ sym o)
      go (inr l) below = inverse-from x l b below

  pub product-inverse : {x : ℕ} → 0 < x → x < 2 ^ degree m → (y : ℕ) × (y < 2 ^ degree m) × (product m x y ≡ 1)
  unfolding product
  product-inverse {x} p b = (rem m i.0, rem_below m positive i.0, rem-clmul-right m positive x i.0 ∙ i.1)
    where
      i : Invertible x
      i = invertible x x (le_refl x) p b
