-- The proof, from document 000: its rows and columns, and its stored order. Definitions only.
-- k is the dimension, b the basis, w the word, π the proof, P the polynomial of the word and Q(x, y) the bivariate one.
use Rattle.std.specs.Prelude.{◌≡◌, List, [], ◌++◌, ℕ, ◌+◌, ◌*◌, ◌^◌, ◌-◌, min, ltb, length, get_or, drop}
use Rattle.lists.specs.All.{All}
use Rattle.lists.specs.Pick.{pick}
use Rattle.lists.specs.Tables.{tab, flat, part, insert, without}
use Rattle.field.specs.Laws.{Ops}
use Rattle.poly.specs.Span.{elem}
use Rattle.poly.specs.Codeword.{word_of}
use Rattle.proximity.specs.Dim.{half, row_dim, col_dim, Dim, leaf, node}
use Rattle.proximity.specs.Spaces.{q, β, row_basis, col_basis}
use Rattle.proximity.specs.Bivariate.{at_x, at_y, bivariate}

-- ---- reading the lent word and the lent proof

-- The block of row r that is not stored but lies in the word: block r if r < 4, else block 4
abbrev pub slot : ℕ → ℕ
slot r = min r 4

-- Row r: its seven stored blocks of 2^h symbols, and at its slot the word's positions r × 2^h onward
abbrev pub row : ℕ → List ℕ → List ℕ → ℕ → List ℕ
row k w π r = insert (slot r * 2 ^ half k) (part (2 ^ half k) r w) (part (7 * 2 ^ half k) r π)

-- Block j of row r: the word's block r at the slot, else one of the seven stored blocks
unfoldable pub block : ℕ → List ℕ → List ℕ → ℕ → ℕ → List ℕ
block k w π r j =
    pick (ltb j (slot r)) (part (2 ^ half k) (7 * r + j) π)
    (pick (ltb (slot r) j) (part (2 ^ half k) (7 * r + (j - 1)) π) (part (2 ^ half k) r w))

-- Column a: position r of it is position a of row r
abbrev pub column : ℕ → List ℕ → List ℕ → ℕ → List ℕ
column k w π a = tab (2 ^ col_dim k) (λ r. get_or (row k w π r) a 0)

-- The proof of row r, of n symbols
abbrev pub row_proof : ℕ → ℕ → List ℕ → ℕ → List ℕ
row_proof k n π r = part n r (drop (7 * 2 ^ k) π)

-- The proof of column a, of m symbols, after the proofs of the rows, of n symbols each
abbrev pub col_proof : ℕ → ℕ → ℕ → List ℕ → ℕ → List ℕ
col_proof k n m π a = part m a (drop (7 * 2 ^ k + 2 ^ col_dim k * n) π)

-- ---- the proof that the prover writes

module _ (K : Ops) where
  -- q(β) of row r
  abbrev pub height_of : ℕ → List ℕ → ℕ → ℕ
  height_of k b r = q K k b (β K k b r)

  -- Row r holds Q(x, q(β))
  abbrev pub row_poly : ℕ → List ℕ → List (List ℕ) → ℕ → List ℕ
  row_poly k b Q r = at_y K (2 ^ half k) Q (height_of k b r)

  -- Column a holds Q(element a, y)
  abbrev pub col_poly : ℕ → List ℕ → List (List ℕ) → ℕ → List ℕ
  col_poly k b Q a = at_x K Q (elem K b a)

  -- The seven stored blocks of row r
  abbrev pub stored : ℕ → List ℕ → List (List ℕ) → ℕ → List ℕ
  stored k b Q r = without (slot r * 2 ^ half k) (2 ^ half k) (word_of K (row_dim k) (row_basis K k b r) (row_poly k b Q r))

  -- The stored order: the stored blocks of row 0, of row 1 and so on; then the proof of each row by r; then the proof of each column by a
  abbrev pub proof_of : {k : ℕ} → Dim k → List ℕ → List ℕ → List ℕ
  proof_of (leaf s) b P = []
  proof_of (node {k = k} s rows cols) b P =
      let Q = bivariate K k b P in
      flat (2 ^ col_dim k) (stored k b Q)
      ++ flat (2 ^ col_dim k) (λ r. proof_of rows (row_basis K k b r) (row_poly k b Q r))
      ++ flat (2 ^ (half k + 2)) (λ a. proof_of cols (col_basis K k b) (col_poly k b Q a))

  -- The word and the proof are those of the polynomial P, of degree below n/8
  pub record Honest {k : ℕ} (d : Dim k) (b w π P : List ℕ) : Type 0 where
    pub count : length P ≡ 2 ^ (k - 3)
    pub elements : All K.Sym P
    pub word : w ≡ word_of K k b P
    pub proof : π ≡ proof_of d b P
