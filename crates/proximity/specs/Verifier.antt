-- One coin: the line that it takes, the verdict, and the positions that are read. Definitions only.
use Rattle.std.specs.Prelude.{List, map, ℕ, ◌+◌, ◌*◌, ◌^◌, ◌-◌, ◌/◌, ◌%◌, ltb, eqb, get_or}
use Rattle.lists.specs.Pick.{pick}
use Rattle.lists.specs.Tables.{tab}
use Rattle.field.specs.Laws.{Ops}
use Rattle.poly.specs.Codeword.{Codeword}
use Rattle.proximity.specs.Dim.{half, col_dim, Dim, leaf, node, size}
use Rattle.proximity.specs.Spaces.{row_basis, col_basis}
use Rattle.proximity.specs.declared.Line.{Line}
use Rattle.proximity.specs.declared.Line.TheVariants.{Row, Column}
use Rattle.proximity.specs.declared.Place.{Place}
use Rattle.proximity.specs.declared.Place.TheVariants.{InWord, InProof}
use Rattle.proximity.specs.Proof.{slot, row, column, row_proof, col_proof}

-- ---- the line that a coin takes

-- Bit 0 is used first: 0 takes a row, and the next c bits give r; 1 takes a column, and the next h+2 bits give a
unfoldable pub line_of : ℕ → ℕ → Line
line_of k coin = pick (eqb (coin % 2) 0) (Row (coin / 2 % 2 ^ col_dim k)) (Column (coin / 2 % 2 ^ (half k + 2)))

-- The bits left over
unfoldable pub bits_left : ℕ → ℕ → ℕ
bits_left k coin = pick (eqb (coin % 2) 0) (coin / 2 / 2 ^ col_dim k) (coin / 2 / 2 ^ (half k + 2))

-- One thing for a row, another for a column
abbrev pub by_line {ℓ} : {A : Type ℓ} → Line → (ℕ → A) → (ℕ → A) → A
by_line (Row r) f g = f r
by_line (Column a) f g = g a

-- ---- the verdict

-- At k ≤ 6 all symbols of the word form a codeword; at k ≥ 7 the same with the row or column taken, its space, its proof and the bits left over
abbrev pub Accepts : (K : Ops) → {k : ℕ} → Dim k → List ℕ → List ℕ → List ℕ → ℕ → Type 0
Accepts K (leaf {k = k} s) b w π coin = Codeword K k b w
Accepts K (node {k = k} s rows cols) b w π coin =
    by_line (line_of k coin)
    (λ r. Accepts K rows (row_basis K k b r) (row k w π r) (row_proof k (size rows) π r) (bits_left k coin))
    (λ a. Accepts K cols (col_basis K k b) (column k w π a) (col_proof k (size rows) (size cols) π a) (bits_left k coin))

-- ---- the positions of a coin

-- Where the layout keeps position i of row r: before, in or after the block that lies in the word
unfoldable pub cell : ℕ → ℕ → ℕ → Place
cell k r i =
    pick (ltb i (slot r * 2 ^ half k)) (InProof (r * (7 * 2 ^ half k) + i))
    (pick (ltb i (slot r * 2 ^ half k + 2 ^ half k)) (InWord (r * 2 ^ half k + (i - slot r * 2 ^ half k))) (InProof (r * (7 * 2 ^ half k) + (i - 2 ^ half k))))

-- Where it keeps a position of the word or of the proof of row r, where a row's proof has n symbols
abbrev pub row_place : ℕ → ℕ → ℕ → Place → Place
row_place k n r (InWord i) = cell k r i
row_place k n r (InProof i) = InProof (7 * 2 ^ k + (r * n + i))

-- The same for column a, where a column's proof has m symbols; position r of column a is position a of row r
abbrev pub col_place : ℕ → ℕ → ℕ → ℕ → Place → Place
col_place k n m a (InWord r) = cell k r a
col_place k n m a (InProof i) = InProof (7 * 2 ^ k + 2 ^ col_dim k * n + (a * m + i))

-- At k ≤ 6 all positions of the word; at k ≥ 7 those that the bits left over have in the row or column taken, each replaced by where it is kept
abbrev pub positions : {k : ℕ} → Dim k → ℕ → List Place
positions (leaf {k = k} s) coin = tab (2 ^ k) InWord
positions (node {k = k} s rows cols) coin =
    by_line (line_of k coin)
    (λ r. map (row_place k (size rows) r) (positions rows (bits_left k coin)))
    (λ a. map (col_place k (size rows) (size cols) a) (positions cols (bits_left k coin)))

-- The symbol at a position
abbrev pub read_at : List ℕ → List ℕ → Place → ℕ
read_at w π (InWord i) = get_or w i 0
read_at w π (InProof i) = get_or π i 0

-- ---- the space at which a coin ends: its dimension and its basis

abbrev pub leaf_dim : {k : ℕ} → Dim k → ℕ → ℕ
leaf_dim (leaf {k = k} s) coin = k
leaf_dim (node {k = k} s rows cols) coin = by_line (line_of k coin) (λ r. leaf_dim rows (bits_left k coin)) (λ a. leaf_dim cols (bits_left k coin))

abbrev pub leaf_basis : (K : Ops) → {k : ℕ} → Dim k → List ℕ → ℕ → List ℕ
leaf_basis K (leaf s) b coin = b
leaf_basis K (node {k = k} s rows cols) b coin =
    by_line (line_of k coin) (λ r. leaf_basis K rows (row_basis K k b r) (bits_left k coin)) (λ a. leaf_basis K cols (col_basis K k b) (bits_left k coin))
