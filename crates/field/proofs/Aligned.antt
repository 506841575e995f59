-- The product on symbols that are shifted up to bit 15, as `times` works it out. Assumes nothing.
use mathlib.Core.Path.{◌≡◌, sym, ap, ap₂, ◌∙◌}
use mathlib.Core.Logic.{◌⊎◌, inl, inr}
use Prim.Native.Nat.{ℕ, zero, suc, ◌+◌, ◌-◌, ◌*◌, ◌/◌, ◌%◌, ◌^◌, ◌≤◌, ◌<◌}
use native.Mathlib.Nat.{add-zero, zero-mul, one-mul, mul_assoc, mul_comm, mod-eq_of_lt, div-eq_of_lt, pow-suc, le_refl, div-lt_iff_lt-mul}
use native.Mathlib.Omega.{arith}
use lib.Pow.{pow_pos, shl_lt, shl-shr, shr-shr}
use lib.Bits.{xor_block, xor_mod}
use Rattle.field.specs.Binary.{◌⊕◌, degree, reduce, product}
use Rattle.field.specs.Xor.{xor_zero_right}
use Rattle.field.specs.Degree.{top_bit}
use Rattle.field.specs.Rem.{le-or-lt, reduce-high, reduce-low, reduce-below}
use Rattle.field.specs.Product.{product-step}

-- a bit times a number is no more than the number
pub bit_times-le : (d x : ℕ) → d < 2 → d * x ≤ x
bit_times-le zero x h = rw (zero-mul x) (omega arith)
bit_times-le (suc zero) x h = rw (one-mul x) (le_refl x)
bit_times-le (suc (suc d)) x h = absurd (omega arith)

-- a sum, shifted
xor_shl : (a b k : ℕ) → (a * 2 ^ k) ⊕ (b * 2 ^ k) ≡ (a ⊕ b) * 2 ^ k
unfolding ◌⊕◌
xor_shl a b k =
    ap₂ (λ (x y : ℕ). x ⊕ y) (sym (add-zero (a * 2 ^ k))) (sym (add-zero (b * 2 ^ k)))
    ∙ xor_block k a b 0 0 (pow_pos k) (pow_pos k) ∙ add-zero ((a ⊕ b) * 2 ^ k)

xor_low : (a b k : ℕ) → (a ⊕ b) % 2 ^ k ≡ (a % 2 ^ k) ⊕ (b % 2 ^ k)
unfolding ◌⊕◌
xor_low = xor_mod

bit_low : (t n : ℕ) → t < 2 → t * n % 65536 ≡ t * (n % 65536)
bit_low zero n h = rw (zero-mul n, zero-mul (n % 65536))
bit_low (suc zero) n h = rw (one-mul n, one-mul (n % 65536))
bit_low (suc (suc t)) n h = absurd (omega arith)

swap : (a p : ℕ) → a * 2 * p ≡ a * p * 2
swap a p = mul_assoc a 2 p ∙ ap (λ (x : ℕ). a * x) (mul_comm 2 p) ∙ sym (mul_assoc a p 2)

-- the digit of a number of l + 1 digits at place l
digit-top : (l z : ℕ) → z < 2 ^ suc l → z / 2 ^ l < 2
digit-top l z h = (div-lt_iff_lt-mul (pow_pos l)).1 (omega (arith, pow-suc 2 l))

-- a reduction step with the top bit as a number
reduce_bit : (m r : ℕ) → r < 2 ^ suc (degree m) → reduce m r ≡ r ⊕ (r / 2 ^ degree m * m)
reduce_bit m r h = go (le-or-lt (2 ^ degree m) r)
  where
    go : (2 ^ degree m ≤ r) ⊎ (r < 2 ^ degree m) → reduce m r ≡ r ⊕ (r / 2 ^ degree m * m)
    go (inl k) = reduce-high m k ∙ ap (λ (t : ℕ). r ⊕ t) (sym (ap (λ (t : ℕ). t * m) (top_bit {a = r} {i = degree m} (record { low = k; high = h })) ∙ one-mul m))
    go (inr k) = reduce-low m k ∙ sym (xor_zero_right r) ∙ ap (λ (t : ℕ). r ⊕ t) (sym (ap (λ (t : ℕ). t * m) (div-eq_of_lt k) ∙ zero-mul m))

module _ (m s : ℕ) (pos : 0 < m) (sum : degree m + s ≡ 16) where
  abbrev l : ℕ
  l = degree m

  -- the highest digit of a shifted symbol
  top_digit : (a : ℕ) → a * 2 ^ s / 32768 ≡ a * 2 / 2 ^ l
  top_digit a =
      let sixteen : s + l ≡ 16 = omega arith in
      let whole : a * 2 * 2 ^ s / 2 ^ (s + l) ≡ a * 2 / 2 ^ l = sym (shr-shr (a * 2 * 2 ^ s) s l) ∙ ap (λ (x : ℕ). x / 2 ^ l) (shl-shr (a * 2) s) in
      let here : a * 2 * 2 ^ s / 65536 ≡ a * 2 / 2 ^ l = ap (λ (x : ℕ). a * 2 * 2 ^ s / 2 ^ x) (sym sixteen) ∙ whole in
      omega (arith, here, swap a (2 ^ s))

  -- the double of a shifted symbol
  twice-shifted : (a : ℕ) → a < 2 ^ l → (a * 2 ^ s % 32768 * 2) ⊕ (a * 2 ^ s / 32768 * (m * 2 ^ s % 65536)) ≡ reduce m (a * 2) * 2 ^ s
  twice-shifted a h =
      let t : ℕ = a * 2 / 2 ^ l in
      let doubled : a * 2 < 2 ^ suc l = omega (arith, pow-suc 2 l) in
      let small : reduce m (a * 2) * 2 ^ s < 65536 = ap_lt (shl_lt l s (reduce-below m pos (a * 2) doubled)) in
      let low : a * 2 ^ s % 32768 * 2 ≡ a * 2 * 2 ^ s % 65536 = omega (arith, swap a (2 ^ s)) in
      let high : a * 2 ^ s / 32768 * (m * 2 ^ s % 65536) ≡ t * m * 2 ^ s % 65536 =
      ap (λ (x : ℕ). x * (m * 2 ^ s % 65536)) (top_digit a) ∙ sym (bit_low t (m * 2 ^ s) (digit-top l (a * 2) doubled)) ∙ ap (λ (x : ℕ). x % 65536) (sym (mul_assoc t m (2 ^ s))) in
      ap₂ ◌⊕◌ low high ∙ sym (xor_low (a * 2 * 2 ^ s) (t * m * 2 ^ s) 16) ∙ ap (λ (x : ℕ). x % 65536) (xor_shl (a * 2) (t * m) s)
      ∙ ap (λ (x : ℕ). x * 2 ^ s % 65536) (sym (reduce_bit m (a * 2) doubled)) ∙ mod-eq_of_lt small
    where
      ap_lt : {x : ℕ} → x < 2 ^ (l + s) → x < 65536
      ap_lt {x} p = let e : 2 ^ (l + s) ≡ 65536 = ap (λ (k : ℕ). 2 ^ k) sum in omega (arith, p, e)

  -- a turn of the loop of `times`
  pub times-turn : (x y i a : ℕ) → x < 2 ^ l → 0 < i → a ≡ product m x (y / 2 ^ i) → a < 2 ^ l
      → ((a * 2 ^ s % 32768 * 2) ⊕ (a * 2 ^ s / 32768 * (m * 2 ^ s % 65536))) ⊕ (y / 2 ^ (i - 1) % 2 * (x * 2 ^ s))
      ≡ product m x (y / 2 ^ (i - 1)) * 2 ^ s
  times-turn x y i a h p e ha =
      let b : ℕ = y / 2 ^ (i - 1) in
      let back : (i - 1) + 1 ≡ i = omega arith in
      let shift : b / 2 ≡ y / 2 ^ i = shr-shr y (i - 1) 1 ∙ ap (λ (k : ℕ). y / 2 ^ k) back in
      ap₂ ◌⊕◌ (twice-shifted a ha) (sym (mul_assoc (b % 2) x (2 ^ s)))
      ∙ xor_shl (reduce m (a * 2)) (b % 2 * x) s
      ∙ ap (λ (v : ℕ). v * 2 ^ s)
      (ap₂ (λ (u v : ℕ). reduce m (u * 2) ⊕ v) (e ∙ ap (product m x) (sym shift)) (mul_comm (b % 2) x) ∙ sym (product-step m pos b h))
