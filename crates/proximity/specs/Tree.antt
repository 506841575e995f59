-- A dimension is one in one way, so S and R follow the recurrences; their tables.
use Rattle.std.specs.Prelude.{◌≡◌, refl, List, [], ◌∷◌, ℕ, ◌+◌, ◌*◌, ◌^◌, ◌≤◌, max}
use Rattle.std.proofs.Common.{ap, arith}
use Rattle.std.proofs.Math.Bridge.{le_prop}
use Rattle.std.proofs.Math.Decide.{dec_le}
use Rattle.lists.specs.Tables.{tab}
use Rattle.space.specs.Sizes.{max_dim}
use Rattle.proximity.specs.Dim.{half, row_dim, col_dim, Dim, leaf, node, size, coin_bits, dim, S, R}

pub dim_prop : {k : ℕ} (d e : Dim k) → d ≡ e
dim_prop (leaf s) (leaf t) = ap leaf (le_prop s t)
dim_prop (leaf s) (node t r c) = absurd (omega arith)
dim_prop (node s r c) (leaf t) = absurd (omega arith)
dim_prop (node s r c) (node t r' c') = λ i. node (le_prop s t i) (dim_prop r r' i) (dim_prop c c' i)

pub dim_leaf : (k : ℕ) (s : k ≤ 6) → dim k ≡ leaf s
dim_leaf k s = dim_prop (dim k) (leaf s)

pub dim_node : (k : ℕ) (s : 7 ≤ k) → dim k ≡ node s (dim (row_dim k)) (dim (col_dim k))
dim_node k s = dim_prop (dim k) (node s (dim (row_dim k)) (dim (col_dim k)))

pub S_leaf : (k : ℕ) → k ≤ 6 → S k ≡ 0
S_leaf k s = ap size (dim_leaf k s)

pub S_node : (k : ℕ) → 7 ≤ k → S k ≡ 7 * 2 ^ k + 2 ^ col_dim k * S (row_dim k) + 2 ^ (half k + 2) * S (col_dim k)
S_node k s = ap size (dim_node k s)

pub R_leaf : (k : ℕ) → k ≤ 6 → R k ≡ 0
R_leaf k s = ap coin_bits (dim_leaf k s)

pub R_node : (k : ℕ) → 7 ≤ k → R k ≡ 1 + max (col_dim k + R (row_dim k)) (half k + 2 + R (col_dim k))
R_node k s = ap coin_bits (dim_node k s)

-- S and R for each dimension from 0 to the largest
abbrev pub lengths : List ℕ
lengths = 0 ∷ 0 ∷ 0 ∷ 0 ∷ 0 ∷ 0 ∷ 0 ∷ 896 ∷ 16128 ∷ 32256 ∷ 523264 ∷ 1046528 ∷ 2093056 ∷ 4415488 ∷ 67551232 ∷ []

abbrev pub bits : List ℕ
bits = 0 ∷ 0 ∷ 0 ∷ 0 ∷ 0 ∷ 0 ∷ 0 ∷ 6 ∷ 11 ∷ 12 ∷ 17 ∷ 18 ∷ 19 ∷ 20 ∷ 25 ∷ []

-- the length of the longest proof, and the most bits of a coin
abbrev pub max_proof : ℕ
max_proof = 67551232

abbrev pub max_bits : ℕ
max_bits = 25

-- The computed test, of all dimensions together: the tables are the recurrences'
pub tables_right : (lengths ≡ tab (max_dim + 1) S) × (bits ≡ tab (max_dim + 1) R)
unfolding dim dec_le
tables_right = (refl, refl)
