-- The span of a basis over GF(2): its element number i, linear independence, and the polynomial that vanishes on it.
use Rattle.std.specs.Prelude.{◌≡◌, refl, List, [], ◌∷◌}
use Rattle.std.proofs.Common.{mul-suc, mul-le-mul_left, arith, pow-add}
use Prim.Native.Nat.{ℕ, zero, suc, ◌+◌, ◌*◌, ◌^◌, ◌-◌, ◌/◌, ◌%◌, ◌<◌}
use Rattle.std.proofs.Math.ListN.{length}
use Rattle.std.proofs.Math.Pow.{pow_pos}
use Rattle.std.specs.Int.Bits.{bit_xor, differ, xor_step, xor_add_and}
use Rattle.std.proofs.lemmas.Nat.{and_le_l, and_le_r}
use Rattle.field.specs.Laws.{Ops}

-- b if the digit is 1, and 0 if it is 0
abbrev pub bit_of : ℕ → ℕ → ℕ
bit_of zero b = 0
bit_of (suc n) b = b

-- Numbers whose digits nowhere differ are equal
pub xor-zero : (i j : ℕ) → bit_xor i j ≡ 0 → i ≡ j
xor-zero i j e = omega (arith, xor_add_and i j, and_le_l i j, and_le_r i j)

-- A number in two parts, the lower of h digits
pub block-lt : (h c r s : ℕ) → r < 2 ^ h → s < 2 ^ c → r + 2 ^ h * s < 2 ^ (h + c)
block-lt h c r s hr hs = omega (arith, pow-add 2 h c, mul-le-mul_left (2 ^ h) hs, mul-suc (2 ^ h) s)

pub block-zero : (h r s : ℕ) → r + 2 ^ h * s ≡ 0 → s ≡ 0
block-zero h r zero e = refl
block-zero h r (suc s) e = absurd (omega (arith, mul-suc (2 ^ h) s, pow_pos h))

pub differ-lt : (u v : ℕ) → u < 2 → v < 2 → differ u v < 2
differ-lt zero v hu hv = hv
differ-lt (suc u) zero hu hv = hu
differ-lt (suc zero) (suc v) hu hv = omega arith
differ-lt (suc (suc u)) (suc v) hu hv = absurd (omega arith)

-- The last digit and the rest of an exclusive or
pub xor_odd : (a b : ℕ) → bit_xor a b % 2 ≡ differ (a % 2) (b % 2)
xor_odd a b = omega (arith, xor_step a b, differ-lt (a % 2) (b % 2) (omega arith) (omega arith))

pub xor_half : (a b : ℕ) → bit_xor a b / 2 ≡ bit_xor (a / 2) (b / 2)
xor_half a b = omega (arith, xor_step a b, differ-lt (a % 2) (b % 2) (omega arith) (omega arith))

module _ (K : Ops) where
  infixl 60 ◌⊕◌
  infixl 70 ◌⊗◌
  open K use {◌⊕◌, ◌⊗◌, inv, Sym}

  -- Element i of the span: the sum of the entries whose digit of i is 1
  abbrev pub elem : List ℕ → ℕ → ℕ
  elem [] i = 0
  elem (b ∷ bs) i = bit_of (i % 2) b ⊕ elem bs (i / 2)

  -- No element but number 0 is 0
  abbrev pub Independent : List ℕ → Type 0
  Independent bs = (i : ℕ) → i < 2 ^ length bs → elem bs i ≡ 0 → i ≡ 0

  -- x is an element of the span
  abbrev pub InSpan : List ℕ → ℕ → Type 0
  InSpan bs x = (i : ℕ) × (i < 2 ^ length bs) × (x ≡ elem bs i)

  -- The product of f 0, f 1 and so on to f n
  abbrev pub product_to : ℕ → (ℕ → ℕ) → ℕ
  product_to zero f = f 0
  product_to (suc n) f = f (suc n) ⊗ product_to n f

  -- The subspace polynomial at x: the product of x - a over the elements a of the span (a sum is a difference)
  unfoldable pub vanish : List ℕ → ℕ → ℕ
  vanish bs x = product_to (2 ^ length bs - 1) (λ i. x ⊕ elem bs i)
