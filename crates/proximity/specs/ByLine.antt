-- A line, a row or a column of the layout: its dimension, its space, its word, its proof, and where these lie. Definitions only.
use Rattle.std.specs.Prelude.{List, ℕ, ◌+◌, ◌*◌, ◌^◌, ◌<◌, get_or}
use Rattle.field.specs.Laws.{Ops}
use Rattle.proximity.specs.Dim.{half, row_dim, col_dim, dim, S}
use Rattle.proximity.specs.Spaces.{row_basis, col_basis}
use Rattle.proximity.specs.Proof.{row, column, row_proof, col_proof}
use Rattle.proximity.specs.declared.Line.{Line}
use Rattle.proximity.specs.declared.Place.{Place}
use Rattle.proximity.specs.declared.Place.TheVariants.{InWord}
use Rattle.proximity.specs.Verifier.{by_line, row_place, col_place, positions}

-- There are 2^c rows and 2^(h+2) columns
abbrev pub InRange : ℕ → Line → Type 0
InRange k l = by_line l (λ r. r < 2 ^ col_dim k) (λ a. a < 2 ^ (half k + 2))

abbrev pub line_dim : ℕ → Line → ℕ
line_dim k l = by_line l (λ r. row_dim k) (λ a. col_dim k)

abbrev pub line_basis : Ops → ℕ → List ℕ → Line → List ℕ
line_basis K k b l = by_line l (row_basis K k b) (λ a. col_basis K k b)

abbrev pub line_word : ℕ → List ℕ → List ℕ → Line → List ℕ
line_word k w π l = by_line l (row k w π) (column k w π)

abbrev pub line_proof : ℕ → List ℕ → Line → List ℕ
line_proof k π l = by_line l (row_proof k (S (row_dim k)) π) (col_proof k (S (row_dim k)) (S (col_dim k)) π)

-- Where the proof of a line begins, and where it ends
abbrev pub proof_at : ℕ → Line → ℕ
proof_at k l = by_line l (λ r. 7 * 2 ^ k + r * S (row_dim k)) (λ a. 7 * 2 ^ k + 2 ^ col_dim k * S (row_dim k) + a * S (col_dim k))

abbrev pub proof_end : ℕ → Line → ℕ
proof_end k l = proof_at k l + S (line_dim k l)

-- Where a place of a line's own word and proof lies
abbrev pub line_place : ℕ → Line → Place → Place
line_place k l p = by_line l (λ r. row_place k (S (row_dim k)) r p) (λ a. col_place k (S (row_dim k)) (S (col_dim k)) a p)

-- Position i of those that a coin reads
abbrev pub place_at : ℕ → ℕ → ℕ → Place
place_at k coin i = get_or (positions (dim k) coin) i (InWord 0)
