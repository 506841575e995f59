-- Sentence 2, the geometry of section 6.2: in a sound setting of dimension 7 or more, row r is over the space L_β of its basis, at the height
-- q(β); the block that lies in the word is its part L_0 + β; and columns meet rows at the elements of the span of b_1..b_(h+2).
use Rattle.std.specs.Prelude.{◌≡◌, List, ℕ, ◌+◌, ◌*◌, ◌^◌, ◌≤◌, ◌<◌, length}
use Rattle.field.specs.Laws.{Ops}
use Rattle.field.specs.Symbols.{symbols}
use Rattle.poly.specs.Span.{elem}
use Rattle.space.specs.Sound.{Sound, sound_field}
use Rattle.proximity.specs.Dim.{half}
use Rattle.proximity.specs.Proof.{slot, height_of}
use Rattle.proximity.specs.Spaces.{q, row_basis, col_basis}
use Rattle.proximity.specs.Subspaces.{row-elem, slot-elem, col_elem, q_coset}

module _ (m : ℕ) (bs : List ℕ) (σ : ℕ) (s : Sound m bs σ) (h : 7 ≤ length bs) where
  abbrev k : ℕ
  k = length bs

  abbrev K : Ops
  K = symbols m

  -- The elements of row r at its block in the word are those of the word at its block r.
  pub word-block : (r j : ℕ) → j < 2 ^ half k → elem K (row_basis K k bs r) (slot r * 2 ^ half k + j) ≡ elem K bs (r * 2 ^ half k + j)
  word-block = slot-elem (sound_field s) k bs h s.basis

  -- All of them lie at the height of the row: there Q(x, q(β)) is P(x).
  pub at_the_height : (r j : ℕ) → j < 2 ^ half k → q K k bs (elem K bs (r * 2 ^ half k + j)) ≡ height_of K k bs r
  at_the_height = q_coset (sound_field s) k bs h s.basis

  -- Element a of every row is element a of the space, to which column a belongs.
  pub column-meets : (r a : ℕ) → a < 2 ^ (half k + 2) → elem K (row_basis K k bs r) a ≡ elem K bs a
  column-meets = row-elem (sound_field s) k bs h s.basis

  -- Element r of a column's space is the height of row r.
  pub column_heights : (r : ℕ) → elem K (col_basis K k bs) r ≡ height_of K k bs r
  column_heights = col_elem (sound_field s) k bs h s.basis
