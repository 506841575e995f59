-- The laws of the carry-less product `clmul`, the product of polynomials over GF(2). Assumes nothing.
use Rattle.std.specs.Prelude.{◌≡◌}
use Rattle.std.proofs.Math.Path.{refl, sym, ap}
use Rattle.std.proofs.Common.{ap₂, ◌∙◌, not-suc-le-zero, le_refl, mul-zero, zero-mul, mul-one, one-mul, arith}
use Prim.Native.Nat.{ℕ, zero, suc, ◌*◌, ◌/◌, ◌%◌, ◌≤◌}
use Rattle.std.proofs.Math.Decide.{le_ind}
use Rattle.std.proofs.Math.Arith.{half_le, bin_ind}
use Rattle.field.specs.Binary.{◌⊕◌, horner_upto, horner, clmul}
use Rattle.field.specs.Xor.{xor_zero_left, xor_zero_right, xor_swap, xor_double, xor_digits, bit_ind, xor_mul_bit, mul_xor_bit, xor_half, halves_of_double}

-- ---- Horner's rule

module _ (f : ℕ → ℕ → ℕ) where
  more : (k n : ℕ) → n ≤ k → horner_upto (suc k) f n ≡ horner_upto k f n
  unfolding horner_upto
  more zero zero h = refl
  more zero (suc n) h = absurd (not-suc-le-zero h)
  more (suc k) zero h = refl
  more (suc k) (suc n) h = ap (λ (x : ℕ). f x (suc n % 2)) (more k (suc n / 2) (half_le h))

  enough : (k n : ℕ) → n ≤ k → horner_upto k f n ≡ horner f n
  unfolding horner
  enough k n h = le_ind (λ (j : ℕ). horner_upto j f n ≡ horner_upto n f n) refl (λ j l e. more j n l ∙ e) k h

  pub horner-step : f 0 0 ≡ 0 → (n : ℕ) → horner f n ≡ f (horner f (n / 2)) (n % 2)
  unfolding horner
  horner-step z zero = sym z
  horner-step z (suc n) = ap (λ (x : ℕ). f x (suc n % 2)) (enough n (suc n / 2) (half_le (le_refl (suc n))))

-- ---- the product

pub clmul-step : (a b : ℕ) → clmul a b ≡ clmul a (b / 2) * 2 ⊕ a * (b % 2)
unfolding clmul
clmul-step a b = horner-step (λ p d. p * 2 ⊕ a * d) (ap (λ (x : ℕ). 0 ⊕ x) (mul-zero a) ∙ xor_zero_left 0) b

pub clmul-zero-right : (a : ℕ) → clmul a 0 ≡ 0
unfolding clmul
clmul-zero-right a = refl

pub clmul-zero-left : (b : ℕ) → clmul 0 b ≡ 0
clmul-zero-left =
    bin_ind (λ (b : ℕ). clmul 0 b ≡ 0) (clmul-zero-right 0)
    (λ b ih. clmul-step 0 b ∙ ap₂ (λ (x y : ℕ). x * 2 ⊕ y) ih (zero-mul (b % 2)) ∙ xor_zero_left 0)

pub clmul-one-right : (a : ℕ) → clmul a 1 ≡ a
clmul-one-right a = clmul-step a 1 ∙ simp (clmul-zero-right, xor_zero_left, mul-one)

pub clmul-one-left : (b : ℕ) → clmul 1 b ≡ b
clmul-one-left =
    bin_ind (λ (b : ℕ). clmul 1 b ≡ b) (clmul-zero-right 1)
    (λ b ih. clmul-step 1 b ∙ ap₂ (λ (x y : ℕ). x * 2 ⊕ y) ih (one-mul (b % 2)) ∙ xor_digits b)

-- ---- a sum times a product

sum_of_steps : (p q r s : ℕ) → (p ⊕ q) * 2 ⊕ (r ⊕ s) ≡ p * 2 ⊕ r ⊕ (q * 2 ⊕ s)
sum_of_steps p q r s = ap (λ (x : ℕ). x ⊕ (r ⊕ s)) (sym (xor_double p q)) ∙ xor_swap (p * 2) (q * 2) r s

pub clmul_xor_left : (a b c : ℕ) → clmul (a ⊕ b) c ≡ clmul a c ⊕ clmul b c
clmul_xor_left a b =
    bin_ind (λ (c : ℕ). clmul (a ⊕ b) c ≡ clmul a c ⊕ clmul b c)
    (simp (clmul-zero-right, xor_zero_left))
    (λ c ih. clmul-step (a ⊕ b) c ∙ ap₂ (λ (x y : ℕ). x * 2 ⊕ y) ih (xor_mul_bit a b c)
    ∙ sum_of_steps (clmul a (c / 2)) (clmul b (c / 2)) (a * (c % 2)) (b * (c % 2))
    ∙ sym (ap₂ ◌⊕◌ (clmul-step a c) (clmul-step b c)))

pub clmul_xor_right : (a b c : ℕ) → clmul a (b ⊕ c) ≡ clmul a b ⊕ clmul a c
clmul_xor_right a =
    bin_ind (λ (b : ℕ). (c : ℕ) → clmul a (b ⊕ c) ≡ clmul a b ⊕ clmul a c)
    (λ c. simp (clmul-zero-right, xor_zero_left))
    (λ b ih c. clmul-step a (b ⊕ c)
    ∙ ap₂ (λ (x y : ℕ). x * 2 ⊕ y) (ap (clmul a) (xor_half b c) ∙ ih (c / 2)) (mul_xor_bit a b c)
    ∙ sum_of_steps (clmul a (b / 2)) (clmul a (c / 2)) (a * (b % 2)) (a * (c % 2))
    ∙ sym (ap₂ ◌⊕◌ (clmul-step a b) (clmul-step a c)))

pub clmul_double_right : (a b : ℕ) → clmul a (b * 2) ≡ clmul a b * 2
clmul_double_right a b =
    clmul-step a (b * 2) ∙ ap₂ (λ (x y : ℕ). clmul a x * 2 ⊕ a * y) (halves_of_double b) even ∙ simp (mul-zero, xor_zero_right)
  where
    even : b * 2 % 2 ≡ 0
    even = omega arith

pub clmul-two-right : (a : ℕ) → clmul a 2 ≡ a * 2
clmul-two-right a = clmul_double_right a 1 ∙ ap (λ (x : ℕ). x * 2) (clmul-one-right a)

-- ---- commutative

pub clmul_double_left : (a b : ℕ) → clmul (a * 2) b ≡ clmul a b * 2
clmul_double_left a =
    bin_ind (λ (b : ℕ). clmul (a * 2) b ≡ clmul a b * 2)
    (simp (clmul-zero-right, zero-mul))
    (λ b ih. clmul-step (a * 2) b ∙ ap₂ (λ (x y : ℕ). x * 2 ⊕ y) ih (double_bit b)
    ∙ xor_double (clmul a (b / 2) * 2) (a * (b % 2)) ∙ ap (λ (x : ℕ). x * 2) (sym (clmul-step a b)))
  where
    double_bit : (b : ℕ) → a * 2 * (b % 2) ≡ a * (b % 2) * 2
    double_bit = bit_ind (λ (d : ℕ). a * 2 * d ≡ a * d * 2) (simp (mul-zero, zero-mul)) (simp mul-one)

clmul_bit_left : (a b : ℕ) → clmul (b % 2) a ≡ a * (b % 2)
clmul_bit_left a =
    bit_ind (λ (d : ℕ). clmul d a ≡ a * d) (clmul-zero-left a ∙ sym (mul-zero a)) (clmul-one-left a ∙ sym (mul-one a))

pub clmul_comm : (a b : ℕ) → clmul a b ≡ clmul b a
clmul_comm =
    bin_ind (λ (a : ℕ). (b : ℕ) → clmul a b ≡ clmul b a)
    (λ b. clmul-zero-left b ∙ sym (clmul-zero-right b))
    (λ a ih b. ap (λ (x : ℕ). clmul x b) (sym (xor_digits a)) ∙ clmul_xor_left (a / 2 * 2) (a % 2) b
    ∙ ap₂ ◌⊕◌ (clmul_double_left (a / 2) b ∙ ap (λ (x : ℕ). x * 2) (ih b)) (clmul_bit_left b a)
    ∙ sym (clmul-step b a))

-- ---- associative

pub clmul_assoc : (a b c : ℕ) → clmul (clmul a b) c ≡ clmul a (clmul b c)
clmul_assoc a b =
    bin_ind (λ (c : ℕ). clmul (clmul a b) c ≡ clmul a (clmul b c))
    (simp clmul-zero-right)
    (λ c ih. clmul-step (clmul a b) c
    ∙ ap₂ (λ (x y : ℕ). x * 2 ⊕ y) ih (times_bit c)
    ∙ ap (λ (x : ℕ). x ⊕ clmul a (b * (c % 2))) (sym (clmul_double_right a (clmul b (c / 2))))
    ∙ sym (clmul_xor_right a (clmul b (c / 2) * 2) (b * (c % 2)))
    ∙ ap (clmul a) (sym (clmul-step b c)))
  where
    times_bit : (c : ℕ) → clmul a b * (c % 2) ≡ clmul a (b * (c % 2))
    times_bit = bit_ind (λ (d : ℕ). clmul a b * d ≡ clmul a (b * d)) (simp (mul-zero, clmul-zero-right)) (simp mul-one)

pub clmul-left_comm : (a b c : ℕ) → clmul a (clmul b c) ≡ clmul b (clmul a c)
clmul-left_comm a b c = sym (clmul_assoc a b c) ∙ ap (λ (x : ℕ). clmul x c) (clmul_comm a b) ∙ clmul_assoc b a c
