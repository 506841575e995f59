-- The degree of a polynomial over GF(2), of a sum and of a product. Assumes nothing.
use Rattle.std.specs.Prelude.{◌≡◌, refl, ℕ, zero, suc, ◌+◌, ◌*◌, ◌/◌, ◌%◌, ◌^◌, ◌≤◌, ◌<◌}
use Rattle.std.proofs.Common.{sym, ap, ap₂, ◌∙◌, subst, le_refl, le_trans, lt_of_lt_of_le, lt_of_le_of_lt, lt_irrefl, pow-suc, add-suc, add-zero, one-mul, div-lt_iff_lt-mul, arith, pow_pos, pow_mono}
use Rattle.std.proofs.Math.Nat.{div-eq_of_lt-le}
use Rattle.std.proofs.Math.Arith.{half_le}
use Rattle.field.specs.Binary.{◌⊕◌, clmul, degree_upto, degree}
use Rattle.field.specs.Xor.{xor_below, xor_shift_right, xor_self, xor_move, bit_ind}
use Rattle.field.specs.Clmul.{clmul-step, clmul-one-right}

-- the highest one bit of a stands at position i
pub record HasDegree (a i : ℕ) : Type 0 where
  pub low : 2 ^ i ≤ a
  pub high : a < 2 ^ suc i

-- ---- every positive number has one degree

degree_upto_right : (k n : ℕ) → n ≤ k → 0 < n → HasDegree n (degree_upto k n)
unfolding degree_upto
degree_upto_right zero n h p = absurd (omega arith)
degree_upto_right (suc k) zero h p = absurd (omega arith)
degree_upto_right (suc k) (suc zero) h p = record { low = le_refl 1; high = le_refl 2 }
degree_upto_right (suc k) (suc (suc n)) h p = from-half (degree_upto_right k (suc (suc n) / 2) (half_le h) (omega arith))
  where
    from-half : {i : ℕ} → HasDegree (suc (suc n) / 2) i → HasDegree (suc (suc n)) (suc i)
    from-half {i} d = record { low = omega (arith, d.low, pow-suc 2 i); high = omega (arith, d.high, pow-suc 2 (suc i)) }

pub degree-right : (n : ℕ) → 0 < n → HasDegree n (degree n)
unfolding degree
degree-right n p = degree_upto_right n n (le_refl n) p

pub degree-positive : {a i : ℕ} → HasDegree a i → 2 ≤ a → 0 < i
degree-positive {i = zero} d h = absurd (omega (arith, d.high))
degree-positive {i = suc i} d h = omega arith

-- a number whose degree is not 0 is not 0
pub degree-positive-number : (n : ℕ) → 0 < degree n → 0 < n
unfolding degree
degree-positive-number zero h = h
degree-positive-number (suc n) h = omega arith

pub half-degree : {a i : ℕ} → HasDegree a (suc i) → HasDegree (a / 2) i
half-degree {a} {i} d = record { low = omega (arith, d.low, pow-suc 2 i); high = omega (arith, d.high, pow-suc 2 (suc i)) }

pub double_degree : {a i : ℕ} → HasDegree a i → HasDegree (a * 2) (suc i)
double_degree {a} {i} d = record { low = omega (arith, d.low, pow-suc 2 i); high = omega (arith, d.high, pow-suc 2 (suc i)) }

-- a number below 2^j has a degree below j
pub degree-below : {a i : ℕ} (j : ℕ) → HasDegree a i → a < 2 ^ j → i < j
degree-below {a} {i} j d h = omega (arith, not_above)
  where
    not_above : ¬ (j ≤ i)
    not_above l = lt_irrefl a (lt_of_lt_of_le h (le_trans (pow_mono l) d.low))

-- a number from 2^j on has a degree of at least j
pub degree-above : {a i : ℕ} (j : ℕ) → HasDegree a i → 2 ^ j ≤ a → j ≤ i
degree-above {a} {i} j d h = omega (arith, not-below)
  where
    not-below : ¬ (suc i ≤ j)
    not-below l = lt_irrefl a (lt_of_lt_of_le d.high (le_trans (pow_mono l) h))

pub degree_unique : {a i j : ℕ} → HasDegree a i → HasDegree a j → i ≡ j
degree_unique {a} {i} {j} d e = omega (arith, degree-below (suc j) d e.high, degree-below (suc i) e d.high)

-- ---- sums

-- a summand of lower degree does not change the degree
pub xor_degree : {a b i : ℕ} → HasDegree a i → b < 2 ^ i → HasDegree (a ⊕ b) i
xor_degree {a} {b} {i} d h =
    record { low = omega (arith, not-below); high = xor_below (suc i) d.high (lt_of_lt_of_le h (pow_mono (omega arith))) }
  where
    not-below : ¬ (a ⊕ b < 2 ^ i)
    not-below l = lt_irrefl a (lt_of_lt_of_le (subst (λ (x : ℕ). x < 2 ^ i) (sym (xor_move a b refl)) (xor_below i l h)) d.low)

pub top_bit : {a i : ℕ} → HasDegree a i → a / 2 ^ i ≡ 1
top_bit {a} {i} d = div-eq_of_lt-le (2 ^ i) (omega (arith, d.low)) (omega (arith, d.high, pow-suc 2 i))

-- two summands of the same degree leave a lower one
pub xor_same-degree : {a b i : ℕ} → HasDegree a i → HasDegree b i → a ⊕ b < 2 ^ i
xor_same-degree {a} {b} {i} d e = subst (λ (x : ℕ). a ⊕ b < x) (one-mul (2 ^ i)) ((div-lt_iff_lt-mul (pow_pos i)).0 (omega (arith, none)))
  where
    none : (a ⊕ b) / 2 ^ i ≡ 0
    none = xor_shift_right i a b ∙ ap₂ ◌⊕◌ (top_bit d) (top_bit e) ∙ xor_self 1

-- ---- products

pub mul_bit_le : (a b : ℕ) → a * (b % 2) ≤ a
mul_bit_le a = bit_ind (λ (d : ℕ). a * d ≤ a) (omega arith) (omega arith)

degree-zero : {a : ℕ} → HasDegree a 0 → a ≡ 1
degree-zero {a} d = omega (arith, d.low, d.high)

pub clmul-degree : (j : ℕ) {a b i : ℕ} → HasDegree a i → HasDegree b j → HasDegree (clmul a b) (i + j)
clmul-degree zero {a} {b} {i} d e =
    subst (λ (k : ℕ). HasDegree (clmul a b) k) (sym (add-zero i))
    (subst (λ (x : ℕ). HasDegree x i) (sym (ap (clmul a) (degree-zero e) ∙ clmul-one-right a)) d)
clmul-degree (suc j) {a} {b} {i} d e =
    subst (λ (k : ℕ). HasDegree (clmul a b) k) (sym (add-suc i j))
    (subst (λ (x : ℕ). HasDegree x (suc (i + j))) (sym (clmul-step a b))
    (xor_degree (double_degree (clmul-degree j d (half-degree e)))
    (lt_of_le_of_lt (mul_bit_le a b) (lt_of_lt_of_le d.high (pow_mono (omega arith))))))
