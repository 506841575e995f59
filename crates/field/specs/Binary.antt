-- Polynomials over GF(2), coded as natural numbers: bit i of the number is the coefficient of x^i. So 11 is x^3 + x + 1.
use Rattle.std.specs.Prelude.{◌≡◌, ◌⊎◌, Bool, true, cond, not, ◌&&◌, ℕ, zero, suc, ◌+◌, ◌-◌, ◌*◌, ◌/◌, ◌%◌, ◌^◌, ◌≤◌, leb, eqb}
use Rattle.std.specs.Int.Bits.{bit_xor}

infixl 60 ◌⊕◌
-- the sum
unfoldable pub ◌⊕◌ : ℕ → ℕ → ℕ
a ⊕ b = bit_xor a b

-- Horner's rule over the binary digits of n, the highest first: `horner f n ≡ f (horner f (n / 2)) (n % 2)`, from `horner f 0 ≡ 0`.
-- The first argument of `horner_upto` bounds the number of digits; n itself serves.
unfoldable pub horner_upto : ℕ → (ℕ → ℕ → ℕ) → ℕ → ℕ
horner_upto zero f n = 0
horner_upto (suc k) f zero = 0
horner_upto (suc k) f (suc n) = f (horner_upto k f (suc n / 2)) (suc n % 2)

unfoldable pub horner : (ℕ → ℕ → ℕ) → ℕ → ℕ
unfolding horner_upto
horner f n = horner_upto n f n

-- the product: `clmul a b ≡ clmul a (b / 2) * 2 ⊕ a * (b % 2)`
unfoldable pub clmul : ℕ → ℕ → ℕ
unfolding ◌⊕◌ horner
clmul a b = horner (λ p d. p * 2 ⊕ a * d) b

-- the degree: the position of the highest one bit, and 0 for the number 0
unfoldable pub degree_upto : ℕ → ℕ → ℕ
degree_upto zero n = 0
degree_upto (suc k) zero = 0
degree_upto (suc k) (suc zero) = 0
degree_upto (suc k) (suc (suc n)) = suc (degree_upto k (suc (suc n) / 2))

unfoldable pub degree : ℕ → ℕ
unfolding degree_upto
degree n = degree_upto n n

-- one step of a division by m: m is subtracted where r reaches the degree of m
unfoldable pub reduce : ℕ → ℕ → ℕ
unfolding ◌⊕◌ degree
reduce m r = cond (leb (2 ^ degree m) r) (r ⊕ m) r

-- the remainder of v by m: `rem m v ≡ reduce m (rem m (v / 2) * 2 + v % 2)`
unfoldable pub rem : ℕ → ℕ → ℕ
unfolding reduce horner
rem m v = horner (λ r d. reduce m (r * 2 + d)) v

-- the product modulo m
unfoldable pub product : ℕ → ℕ → ℕ → ℕ
unfolding rem clmul
product m x y = rem m (clmul x y)

-- m is no constant, and has no factors but 1 and itself
pub record Irreducible (m : ℕ) : Type 0 where
  pub not_constant : 2 ≤ m
  pub no-factors : (a b : ℕ) → clmul a b ≡ m → (a ≡ 1) ⊎ (b ≡ 1)

-- the inverse modulo m: the y below 2^(degree of m) with product m x y ≡ 1, and 0 where there is none
unfoldable pub inverse_below : ℕ → ℕ → ℕ → ℕ
unfolding product
inverse_below m x zero = 0
inverse_below m x (suc y) = cond (eqb (product m x y) 1) y (inverse_below m x y)

unfoldable pub inverse : ℕ → ℕ → ℕ
unfolding inverse_below degree
inverse m x = inverse_below m x (2 ^ degree m)

-- ---- a test for irreducibility, by trial division

unfoldable pub all_below : (ℕ → Bool) → ℕ → Bool
all_below p zero = true
all_below p (suc n) = p n && all_below p n

unfoldable pub divides? : ℕ → ℕ → Bool
unfolding rem
divides? f m = eqb (rem f m) 0

-- no f from 2 below 2^(degree/2 + 1) divides m
unfoldable pub no_low_factor? : ℕ → Bool
unfolding all_below divides? degree
no_low_factor? m = all_below (λ k. not (divides? (k + 2) m)) (2 ^ (degree m / 2 + 1) - 2)

unfoldable pub irreducible? : ℕ → Bool
unfolding no_low_factor?
irreducible? m = leb 2 m && no_low_factor? m
