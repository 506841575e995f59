-- The laws of `◌⊕◌`, the addition of polynomials over GF(2). Assumes nothing.
use Rattle.std.specs.Prelude.{◌≡◌, refl, ℕ, zero, suc, ◌+◌, ◌*◌, ◌/◌, ◌%◌, ◌^◌, ◌<◌}
use Rattle.std.proofs.Common.{sym, ap, ap₂, ◌∙◌, mul-zero, mul-one, mod-lt, zero-lt-suc, arith}
use Rattle.std.proofs.Math.Arith.{bin_ind}
use Rattle.field.specs.Binary.{◌⊕◌}
use lib.Bits.{xor_zero_r, xor_add_and, xor_shr, xor_lt}

-- ---- from the bitwise laws of the library

pub xor_zero_left : (a : ℕ) → 0 ⊕ a ≡ a
unfolding ◌⊕◌
xor_zero_left a = refl

pub xor_zero_right : (a : ℕ) → a ⊕ 0 ≡ a
unfolding ◌⊕◌
xor_zero_right a = xor_zero_r a

pub xor_comm : (a b : ℕ) → a ⊕ b ≡ b ⊕ a
unfolding ◌⊕◌
xor_comm a b = lib.Bits.xor_comm a b

pub xor_self : (a : ℕ) → a ⊕ a ≡ 0
unfolding ◌⊕◌
xor_self a = lib.Bits.xor_self a

pub xor_below : (k : ℕ) {a b : ℕ} → a < 2 ^ k → b < 2 ^ k → a ⊕ b < 2 ^ k
unfolding ◌⊕◌
xor_below k {a} {b} ha hb = xor_lt k a b ha hb

pub xor_shift_right : (k a b : ℕ) → (a ⊕ b) / 2 ^ k ≡ (a / 2 ^ k) ⊕ (b / 2 ^ k)
unfolding ◌⊕◌
xor_shift_right k a b = xor_shr a b k

pub xor_half : (a b : ℕ) → (a ⊕ b) / 2 ≡ (a / 2) ⊕ (b / 2)
xor_half a b = xor_shift_right 1 a b

pub xor_bit : (a b : ℕ) → (a ⊕ b) % 2 ≡ (a + b) % 2
unfolding ◌⊕◌
xor_bit a b = omega (arith, xor_add_and a b)

-- ---- by digits

-- two numbers are equal when their halves and their lowest bits are
pub by_digits : {a b : ℕ} → a / 2 ≡ b / 2 → a % 2 ≡ b % 2 → a ≡ b
by_digits {a} {b} h l = omega arith

pub halves_of_double : (a : ℕ) → a * 2 / 2 ≡ a
halves_of_double a = omega arith

pub xor_assoc : (a b c : ℕ) → a ⊕ b ⊕ c ≡ a ⊕ (b ⊕ c)
xor_assoc =
    bin_ind (λ (a : ℕ). (b c : ℕ) → a ⊕ b ⊕ c ≡ a ⊕ (b ⊕ c))
    (λ b c. simp xor_zero_left)
    (λ a ih b c. by_digits (simp xor_half (ih (b / 2) (c / 2))) (left a b c ∙ omega arith ∙ sym (right a b c)))
  where
    parity : (x y z : ℕ) → x % 2 ≡ y % 2 → (x + z) % 2 ≡ (y + z) % 2
    parity x y z e = omega arith

    left : (a b c : ℕ) → (a ⊕ b ⊕ c) % 2 ≡ (a + b + c) % 2
    left a b c = xor_bit (a ⊕ b) c ∙ parity (a ⊕ b) (a + b) c (xor_bit a b)

    right : (a b c : ℕ) → (a ⊕ (b ⊕ c)) % 2 ≡ (b + c + a) % 2
    right a b c = ap (λ (x : ℕ). x % 2) (xor_comm a (b ⊕ c)) ∙ left b c a

pub xor_left_comm : (a b c : ℕ) → a ⊕ (b ⊕ c) ≡ b ⊕ (a ⊕ c)
xor_left_comm a b c = sym (xor_assoc a b c) ∙ ap (λ (x : ℕ). x ⊕ c) (xor_comm a b) ∙ xor_assoc b a c

pub xor_cancel_left : (a b : ℕ) → a ⊕ (a ⊕ b) ≡ b
xor_cancel_left a b = sym (xor_assoc a a b) ∙ ap (λ (x : ℕ). x ⊕ b) (xor_self a) ∙ xor_zero_left b

-- `simp xor-laws` proves an equation of sums by the laws of an abelian group of exponent 2
pub ruleset xor-laws = (xor_assoc, xor_comm, xor_left_comm, xor_self, xor_cancel_left, xor_zero_left, xor_zero_right)

pub xor_zero→eq : (a b : ℕ) → a ⊕ b ≡ 0 → a ≡ b
xor_zero→eq a b e = sym (xor_zero_right a) ∙ ap (λ (x : ℕ). a ⊕ x) (sym e) ∙ xor_cancel_left a b

-- a summand moves to the other side
pub xor_move : (a b : ℕ) {c : ℕ} → a ⊕ b ≡ c → a ≡ c ⊕ b
xor_move a b {c} e = simp xor-laws (simp xor-laws at (ap (λ (x : ℕ). x ⊕ b) e))

pub xor_swap : (a b c d : ℕ) → a ⊕ b ⊕ (c ⊕ d) ≡ a ⊕ c ⊕ (b ⊕ d)
xor_swap a b c d = simp xor-laws

pub xor_double : (a b : ℕ) → a * 2 ⊕ b * 2 ≡ (a ⊕ b) * 2
xor_double a b =
    by_digits (xor_half (a * 2) (b * 2) ∙ ap₂ ◌⊕◌ (halves_of_double a) (halves_of_double b) ∙ sym (halves_of_double (a ⊕ b)))
    (omega (arith, xor_bit (a * 2) (b * 2)))

-- a bit below an even number
pub xor_low : (a b : ℕ) → b < 2 → a * 2 ⊕ b ≡ a * 2 + b
xor_low a b h =
    by_digits (xor_half (a * 2) b ∙ ap₂ ◌⊕◌ (halves_of_double a) zero-half ∙ xor_zero_right a ∙ sum-half) (xor_bit (a * 2) b)
  where
    zero-half : b / 2 ≡ 0
    zero-half = omega arith

    sum-half : a ≡ (a * 2 + b) / 2
    sum-half = omega arith

pub xor_digits : (a : ℕ) → a / 2 * 2 ⊕ a % 2 ≡ a
xor_digits a = xor_low (a / 2) (a % 2) (mod-lt a (zero-lt-suc 1)) ∙ omega arith

-- ---- a bit is 0 or 1

pub bit_ind : (P : ℕ → Type 0) → P 0 → P 1 → (b : ℕ) → P (b % 2)
bit_ind P p₀ p₁ b = go (b % 2) (mod-lt b (zero-lt-suc 1))
  where
    go : (d : ℕ) → d < 2 → P d
    go zero h = p₀
    go (suc zero) h = p₁
    go (suc (suc d)) h = absurd (omega arith)

-- a number times a bit
pub xor_mul_bit : (a b d : ℕ) → (a ⊕ b) * (d % 2) ≡ a * (d % 2) ⊕ b * (d % 2)
xor_mul_bit a b =
    bit_ind (λ (e : ℕ). (a ⊕ b) * e ≡ a * e ⊕ b * e) (simp (mul-zero, xor_zero_left)) (simp mul-one)

pub mul_xor_bit : (a b d : ℕ) → a * ((b ⊕ d) % 2) ≡ a * (b % 2) ⊕ a * (d % 2)
mul_xor_bit a b d = ap (λ (x : ℕ). a * x) (xor_bit b d ∙ sum_bit) ∙ two b d
  where
    sum_bit : (b + d) % 2 ≡ (b % 2 + d % 2) % 2
    sum_bit = omega arith

    one : (d : ℕ) → a * ((1 + d % 2) % 2) ≡ a * 1 ⊕ a * (d % 2)
    one = bit_ind (λ (e : ℕ). a * ((1 + e) % 2) ≡ a * 1 ⊕ a * e) (simp (mul-zero, mul-one, xor_zero_right)) (simp (mul-zero, mul-one, xor_self))

    none : (d : ℕ) → a * ((0 + d % 2) % 2) ≡ a * 0 ⊕ a * (d % 2)
    none = bit_ind (λ (e : ℕ). a * ((0 + e) % 2) ≡ a * 0 ⊕ a * e) (simp (mul-zero, xor_zero_left)) (simp (mul-zero, mul-one, xor_zero_left))

    two : (b d : ℕ) → a * ((b % 2 + d % 2) % 2) ≡ a * (b % 2) ⊕ a * (d % 2)
    two b d = bit_ind (λ (e : ℕ). a * ((e + d % 2) % 2) ≡ a * e ⊕ a * (d % 2)) (none d) (one d) b
