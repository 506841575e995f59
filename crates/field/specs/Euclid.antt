-- An inverse by the remainders of the modulus: with m = q y + r, the product of y and q is r. Assumes nothing.
use Rattle.std.specs.Prelude.{◌≡◌, ◌⊎◌, ℕ, ◌+◌, ◌^◌, ◌<◌}
use Rattle.std.proofs.Common.{sym, ◌∙◌, subst, inl, inr, eq-zero-or-pos, lt_of_lt_of_le, arith, pow_pos, pow_mono}
use Rattle.std.proofs.Math.Path.{ap, ap₂}
use Rattle.field.specs.Binary.{◌⊕◌, clmul, degree, rem, product, inverse, Irreducible}
use Rattle.field.specs.Laws.{IsField, ⊗_cancel}
use Rattle.field.specs.Xor.{xor_move, xor_zero_left, xor_zero_right}
use Rattle.field.specs.Clmul.{clmul_comm, clmul-one-left}
use Rattle.field.specs.Degree.{HasDegree, degree-right, degree_unique, degree-positive, clmul-degree, xor_degree}
use Rattle.field.specs.Rem.{rem_below, rem-small, rem_multiple, rem_xor}
use Rattle.field.specs.Product.{positive, no_divisor, product_assoc}
use Rattle.field.specs.Symbols.{symbols, symbols-field}
use Rattle.field.specs.Division.{Divided}

-- ---- the modulus m, divided by a symbol y above 1

module _ (m : ℕ) (irr : Irreducible m) (y q r : ℕ) (h : 1 < y) (b : y < 2 ^ degree m) (d : Divided m y q r) where
  pos : 0 < m
  pos = positive m irr

  small : r < 2 ^ degree y
  small = rw d.remainder (rem_below y (omega arith) m)

  pub remainder_less : r < y
  remainder_less = lt_of_lt_of_le small (degree-right y (omega arith)).low

  pub remainder_positive : 0 < r
  remainder_positive = go (eq-zero-or-pos r)
    where
      go : (r ≡ 0) ⊎ (0 < r) → 0 < r
      go (inl z) = absurd (no_divisor m irr h b q (sym (d.whole ∙ ap (λ (x : ℕ). clmul q y ⊕ x) z ∙ xor_zero_right (clmul q y))))
      go (inr p) = p

  pub quotient_below : q < 2 ^ degree m
  quotient_below = go (eq-zero-or-pos q)
    where
      go : (q ≡ 0) ⊎ (0 < q) → q < 2 ^ degree m
      go (inl z) = omega (arith, pow_pos (degree m))
      go (inr p) = lt_of_lt_of_le (degree-right q p).high (pow_mono (omega (arith, sum, degree-positive (degree-right y (omega arith)) h)))
        where
          whole : HasDegree m (degree q + degree y)
          whole =
              subst (λ (x : ℕ). HasDegree x (degree q + degree y)) (sym d.whole)
              (xor_degree (clmul-degree (degree y) (degree-right q p) (degree-right y (omega arith))) (lt_of_lt_of_le small (pow_mono (omega arith))))

          sum : degree m ≡ degree q + degree y
          sum = degree_unique (degree-right m pos) whole

  quotient_product : product m y q ≡ r
  unfolding product
  quotient_product =
      ap (rem m) (clmul_comm y q ∙ xor_move (clmul q y) r (sym d.whole))
      ∙ rem_xor m pos m r
      ∙ ap₂ ◌⊕◌ (ap (rem m) (sym (clmul-one-left m)) ∙ rem_multiple m pos 1) (rem-small m pos (omega (arith, remainder_less)))
      ∙ xor_zero_left r

  -- a turn: where a takes x to y, a q takes x to r
  pub turn : (x a : ℕ) → product m x a ≡ y → product m x (product m a q) ≡ r
  turn x a e = sym (product_assoc m pos x a q) ∙ ap (λ (z : ℕ). product m z q) e ∙ quotient_product

-- what takes x to 1 is its inverse
pub inverse_unique : (m : ℕ) → Irreducible m → (x a : ℕ) → 0 < x → x < 2 ^ degree m → a < 2 ^ degree m → product m x a ≡ 1 → a ≡ inverse m x
inverse_unique m irr x a p hx ha e =
    let F : IsField (symbols m) = symbols-field m irr in
    ⊗_cancel F x a (inverse m x) hx ha (F.sym_inv {x = x} hx) (λ z. omega arith) (e ∙ sym (F.prod_inv x hx (λ z. omega arith)))
