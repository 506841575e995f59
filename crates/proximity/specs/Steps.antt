-- The definitions at dimension k, one step each: nothing below k ≤ 6, and at k ≥ 7 the rows and the columns at their own dimensions.
use Rattle.std.specs.Prelude.{◌≡◌, List, [], map, ℕ, ◌+◌, ◌^◌, ◌≤◌, ◌<◌}
use Rattle.std.proofs.Common.{ap, ◌∙◌}
use Rattle.lists.specs.Tables.{tab}
use Rattle.field.specs.Laws.{Ops}
use Rattle.poly.specs.Codeword.{Codeword}
use Rattle.proximity.specs.Dim.{half, row_dim, col_dim, Dim, dim, S}
use Rattle.proximity.specs.Tree.{dim_leaf, dim_node}
use Rattle.proximity.specs.Spaces.{row_basis, col_basis}
use Rattle.proximity.specs.Proof.{row, column, row_proof, col_proof}
use Rattle.proximity.specs.declared.Line.{Line}
use Rattle.proximity.specs.declared.Line.TheVariants.{Row, Column}
use Rattle.proximity.specs.declared.Place.{Place}
use Rattle.proximity.specs.declared.Place.TheVariants.{InWord}
use Rattle.proximity.specs.Verifier.{line_of, bits_left, by_line, Accepts, row_place, col_place, positions}
use Rattle.proximity.specs.Prover.{Written}

module _ (K : Ops) (k : ℕ) (b w π : List ℕ) where
  pub accepts_leaf : k ≤ 6 → (coin : ℕ) → Accepts K (dim k) b w π coin ≡ Codeword K k b w
  accepts_leaf s coin = ap (λ (d : Dim k). Accepts K d b w π coin) (dim_leaf k s)

  abbrev LineAccepts : Line → ℕ → Type 0
  LineAccepts l i =
      by_line l (λ r. Accepts K (dim (row_dim k)) (row_basis K k b r) (row k w π r) (row_proof k (S (row_dim k)) π r) i)
      (λ a. Accepts K (dim (col_dim k)) (col_basis K k b) (column k w π a) (col_proof k (S (row_dim k)) (S (col_dim k)) π a) i)

  accepts_line : 7 ≤ k → (coin : ℕ) (l : Line) → line_of k coin ≡ l → Accepts K (dim k) b w π coin ≡ LineAccepts l (bits_left k coin)
  accepts_line s coin l e = ap (λ (d : Dim k). Accepts K d b w π coin) (dim_node k s) ∙ ap (λ (l : Line). LineAccepts l (bits_left k coin)) e

  pub accepts_row : 7 ≤ k → (coin r : ℕ) → line_of k coin ≡ Row r
      → Accepts K (dim k) b w π coin ≡ Accepts K (dim (row_dim k)) (row_basis K k b r) (row k w π r) (row_proof k (S (row_dim k)) π r) (bits_left k coin)
  accepts_row s coin r e = accepts_line s coin (Row r) e

  pub accepts_column : 7 ≤ k → (coin a : ℕ) → line_of k coin ≡ Column a
      → Accepts K (dim k) b w π coin ≡ Accepts K (dim (col_dim k)) (col_basis K k b) (column k w π a) (col_proof k (S (row_dim k)) (S (col_dim k)) π a) (bits_left k coin)
  accepts_column s coin a e = accepts_line s coin (Column a) e

  pub written_leaf : k ≤ 6 → Written K (dim k) b w π ≡ (π ≡ [])
  written_leaf s = ap (λ (d : Dim k). Written K d b w π) (dim_leaf k s)

  pub written_node : 7 ≤ k
      → Written K (dim k) b w π
      ≡ (((r : ℕ) → r < 2 ^ col_dim k → Codeword K (row_dim k) (row_basis K k b r) (row k w π r) × Written K (dim (row_dim k)) (row_basis K k b r) (row k w π r) (row_proof k (S (row_dim k)) π r))
      × ((a : ℕ) → a < 2 ^ (half k + 2) → Written K (dim (col_dim k)) (col_basis K k b) (column k w π a) (col_proof k (S (row_dim k)) (S (col_dim k)) π a)))
  written_node s = ap (λ (d : Dim k). Written K d b w π) (dim_node k s)

module _ (k : ℕ) where
  pub positions_leaf : k ≤ 6 → (coin : ℕ) → positions (dim k) coin ≡ tab (2 ^ k) InWord
  positions_leaf s coin = ap (λ (d : Dim k). positions d coin) (dim_leaf k s)

  abbrev LinePositions : Line → ℕ → List Place
  LinePositions l i =
      by_line l (λ r. map (row_place k (S (row_dim k)) r) (positions (dim (row_dim k)) i)) (λ a. map (col_place k (S (row_dim k)) (S (col_dim k)) a) (positions (dim (col_dim k)) i))

  positions_line : 7 ≤ k → (coin : ℕ) (l : Line) → line_of k coin ≡ l → positions (dim k) coin ≡ LinePositions l (bits_left k coin)
  positions_line s coin l e = ap (λ (d : Dim k). positions d coin) (dim_node k s) ∙ ap (λ (l : Line). LinePositions l (bits_left k coin)) e

  pub positions-row : 7 ≤ k → (coin r : ℕ) → line_of k coin ≡ Row r → positions (dim k) coin ≡ map (row_place k (S (row_dim k)) r) (positions (dim (row_dim k)) (bits_left k coin))
  positions-row s coin r e = positions_line s coin (Row r) e

  pub positions-column : 7 ≤ k → (coin a : ℕ) → line_of k coin ≡ Column a
      → positions (dim k) coin ≡ map (col_place k (S (row_dim k)) (S (col_dim k)) a) (positions (dim (col_dim k)) (bits_left k coin))
  positions-column s coin a e = positions_line s coin (Column a) e
