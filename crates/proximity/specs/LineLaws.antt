-- The line that a coin takes lies in range, its dimension is less, and its word and proof are parts of the lent ones. Assumes nothing.
use Rattle.std.specs.Prelude.{◌≡◌, List, map, ℕ, ◌+◌, ◌*◌, ◌^◌, ◌-◌, ◌≤◌, ◌<◌, length, get_or, take, drop}
use Rattle.std.proofs.Common.{sym, ap₂, ◌∙◌, subst, arith, drop-drop}
use Rattle.lists.specs.All.{Below, All-at}
use Rattle.lists.specs.Tables.{tab, part, part-fits, length_tab, table_at}
use Rattle.field.specs.Laws.{Ops, IsField}
use Rattle.poly.specs.Codeword.{Basis}
use Rattle.space.specs.Sizes.{max_dim}
use Rattle.proximity.specs.Dim.{row_dim, col_dim, dim, S, R}
use Rattle.proximity.specs.Tree.{S_node, lengths, bits, max_proof, max_bits, tables_right}
use Rattle.proximity.specs.Proof.{row}
use Rattle.proximity.specs.declared.Line.{Line}
use Rattle.proximity.specs.declared.Line.TheVariants.{Row, Column}
use Rattle.proximity.specs.declared.Place.{Place}
use Rattle.proximity.specs.Verifier.{line_of, bits_left, Accepts, positions}
use Rattle.proximity.specs.ByLine.{InRange, line_dim, line_basis, line_word, line_proof, proof_at, proof_end, line_place}
use Rattle.proximity.specs.Subspaces.{row-basis, col_basis_lem}
use Rattle.proximity.specs.Layout.{length_row, length_row_proof, length_col_proof}
use Rattle.proximity.specs.Lines.{line_cases}
use Rattle.proximity.specs.Reads.{Inside, row_inside, col_inside}
use Rattle.proximity.specs.Steps.{accepts_row, accepts_column, positions-row, positions-column}

-- A coin takes a row or a column that there is
pub line_in_range : (k coin : ℕ) → InRange k (line_of k coin)
line_in_range k coin = line_cases k coin (λ l i. InRange k l) (λ r i h. h) (λ a i h. h)

-- The dimension falls
pub line_falls : (k : ℕ) → 7 ≤ k → (l : Line) → line_dim k l < k
line_falls k s (Row r) = omega arith
line_falls k s (Column a) = omega arith

pub line_at_least : (k : ℕ) → 7 ≤ k → (l : Line) → 3 ≤ line_dim k l
line_at_least k s (Row r) = omega arith
line_at_least k s (Column a) = omega arith

-- S and R are small
small_at : (f : ℕ → ℕ) (t : List ℕ) (n : ℕ) → t ≡ tab (max_dim + 1) f → 0 < n → Below n t → (k : ℕ) → k ≤ max_dim → f k < n
small_at f t n e p h k l = subst (λ (x : ℕ). x < n) (table_at f t (max_dim + 1) e k (omega arith)) (All-at (λ (x : ℕ). x < n) t 0 h p k)

lengths-small : Below (max_proof + 1) lengths
lengths-small = omega arith

pub S-small : (k : ℕ) → k ≤ max_dim → S k < max_proof + 1
S-small = small_at S lengths (max_proof + 1) tables_right.0 (omega arith) lengths-small

bits_small : Below (max_bits + 1) bits
bits_small = omega arith

pub R-small : (k : ℕ) → k ≤ max_dim → R k < max_bits + 1
R-small = small_at R bits (max_bits + 1) tables_right.1 (omega arith) bits_small

module _ (k : ℕ) (s : 7 ≤ k) where
  -- The proof of a line lies after the stored rows and inside the proof
  pub line_proof-fits : (l : Line) → InRange k l → proof_end k l ≤ S k
  line_proof-fits (Row r) h = omega (arith, S_node k s, part-fits (S (row_dim k)) h)
  line_proof-fits (Column a) h = omega (arith, S_node k s, part-fits (S (col_dim k)) h)

  pub rows_before : (l : Line) → 7 * 2 ^ k ≤ proof_at k l
  rows_before (Row r) = omega arith
  rows_before (Column a) = omega arith

  module _ (π : List ℕ) (lπ : length π ≡ S k) where
    pub length_line_proof : (l : Line) → InRange k l → length (line_proof k π l) ≡ S (line_dim k l)
    length_line_proof (Row r) h = length_row_proof k (S (row_dim k)) (S (col_dim k)) π (lπ ∙ S_node k s) r h
    length_line_proof (Column a) h = length_col_proof k (S (row_dim k)) (S (col_dim k)) π (lπ ∙ S_node k s) a h

    pub length_line_word : (w : List ℕ) → length w ≡ 2 ^ k → (l : Line) → InRange k l → length (line_word k w π l) ≡ 2 ^ line_dim k l
    length_line_word w lw (Row r) h = length_row k w π lw (omega (arith, S_node k s)) r h
    length_line_word w lw (Column a) h = length_tab (2 ^ col_dim k) (λ r. get_or (row k w π r) a 0)

  -- A place of a line's own word and proof lies inside the whole
  pub line_inside : (l : Line) → InRange k l → (p : Place) → Inside (2 ^ line_dim k l) (S (line_dim k l)) p → Inside (2 ^ k) (S k) (line_place k l p)
  line_inside (Row r) h p i = subst (λ (n : ℕ). Inside (2 ^ k) n (line_place k (Row r) p)) (sym (S_node k s)) (row_inside s (dim (row_dim k)) (dim (col_dim k)) r h p i)
  line_inside (Column a) h p i = subst (λ (n : ℕ). Inside (2 ^ k) n (line_place k (Column a) p)) (sym (S_node k s)) (col_inside s (dim (row_dim k)) (dim (col_dim k)) a h p i)

  -- The space of a line has a basis
  pub line_basis_lem : {K : Ops} (F : IsField K) (b : List ℕ) → Basis K k b → (l : Line) → InRange k l → Basis K (line_dim k l) (line_basis K k b l)
  line_basis_lem F b B (Row r) h = row-basis F k b s B r h
  line_basis_lem F b B (Column a) h = col_basis_lem F k b s B

  -- The verdict and the positions of a coin are those that the bits left over have at its line
  pub accepts_of_line : (K : Ops) (b w π : List ℕ) (coin : ℕ) (l : Line) → line_of k coin ≡ l
      → Accepts K (dim k) b w π coin ≡ Accepts K (dim (line_dim k l)) (line_basis K k b l) (line_word k w π l) (line_proof k π l) (bits_left k coin)
  accepts_of_line K b w π coin (Row r) e = accepts_row K k b w π s coin r e
  accepts_of_line K b w π coin (Column a) e = accepts_column K k b w π s coin a e

  pub positions_of_line : (coin : ℕ) (l : Line) → line_of k coin ≡ l → positions (dim k) coin ≡ map (line_place k l) (positions (dim (line_dim k l)) (bits_left k coin))
  positions_of_line coin (Row r) e = positions-row k s coin r e
  positions_of_line coin (Column a) e = positions-column k s coin a e

cut : (n i a : ℕ) (π : List ℕ) → take (a + i * n + n - (a + i * n)) (drop (a + i * n) π) ≡ part n i (drop a π)
cut n i a π = let e : a + i * n + n - (a + i * n) ≡ n = omega arith in ap₂ take e (sym (drop-drop (i * n) a π))

-- The proof of a line is what lies from its begin to its end
pub line_proof-cut : (k : ℕ) (π : List ℕ) (l : Line) → take (proof_end k l - proof_at k l) (drop (proof_at k l) π) ≡ line_proof k π l
line_proof-cut k π (Row r) = cut (S (row_dim k)) r (7 * 2 ^ k) π
line_proof-cut k π (Column a) = cut (S (col_dim k)) a (7 * 2 ^ k + 2 ^ col_dim k * S (row_dim k)) π
