-- The dimensions of a space, of its rows and of its columns; the length S of a proof and the number R of coin bits. Definitions only.
use Rattle.std.specs.Prelude.{ℕ, zero, suc, ◌+◌, ◌*◌, ◌^◌, ◌-◌, ◌/◌, ◌≤◌, max}
use Rattle.std.proofs.Math.Decide.{dec_le}
use Rattle.std.proofs.Common.{arith}

-- h = k/2 rounded down
abbrev pub half : ℕ → ℕ
half k = k / 2

-- h + 3, the dimension of a row
abbrev pub row_dim : ℕ → ℕ
row_dim k = half k + 3

-- c = k - h, the dimension of a column
abbrev pub col_dim : ℕ → ℕ
col_dim k = k - half k

-- Dimension k: for k ≤ 6 nothing stands below it, for k ≥ 7 the dimensions of the rows and of the columns
pub data Dim : ℕ → Type 0 where
  leaf : {k : ℕ} → k ≤ 6 → Dim k
  node : {k : ℕ} → 7 ≤ k → Dim (row_dim k) → Dim (col_dim k) → Dim k

-- S = 0 for k ≤ 6, else 7 × 2^k + 2^c × S(h+3) + 2^(h+2) × S(c)
abbrev pub size : {k : ℕ} → Dim k → ℕ
size (leaf s) = 0
size (node {k = k} s rows cols) = 7 * 2 ^ k + 2 ^ col_dim k * size rows + 2 ^ (half k + 2) * size cols

-- R = 0 for k ≤ 6, else 1 + the larger of c + R(h+3) and h + 2 + R(c)
abbrev pub coin_bits : {k : ℕ} → Dim k → ℕ
coin_bits (leaf s) = 0
coin_bits (node {k = k} s rows cols) = 1 + max (col_dim k + coin_bits rows) (half k + 2 + coin_bits cols)

abbrev dim_step : (n k : ℕ) → k ≤ suc n → ((j : ℕ) → j ≤ n → Dim j) → Dec (k ≤ 6) → Dim k
dim_step n k l f (yes s) = leaf s
dim_step n k l f (no s) = node {k = k} (omega arith) (f (row_dim k) (omega arith)) (f (col_dim k) (omega arith))

abbrev dim_within : (n k : ℕ) → k ≤ n → Dim k
dim_within zero k l = leaf {k = k} (omega arith)
dim_within (suc n) k l = dim_step n k l (dim_within n) (dec_le k 6)

-- Every k is such a dimension
unfoldable pub dim : (k : ℕ) → Dim k
dim k = dim_within k k (omega arith)

-- S(k), the length of a proof
abbrev pub S : ℕ → ℕ
S k = size (dim k)

-- R(k), the number of coin bits
abbrev pub R : ℕ → ℕ
R k = coin_bits (dim k)
