-- The spaces of the rows and of the columns, for a space of dimension k with basis b. Definitions only.
use Rattle.std.specs.Prelude.{List, [], ◌∷◌, ◌++◌, map, ℕ, ◌+◌, ltb, get_or, take, drop}
use Rattle.lists.specs.Pick.{pick}
use Rattle.field.specs.Laws.{Ops}
use Rattle.poly.specs.Span.{elem, vanish}
use Rattle.proximity.specs.Dim.{half}

module _ (K : Ops) where
  -- q(x): the product of x - a over a in the span of b_1..b_h
  abbrev pub q : ℕ → List ℕ → ℕ → ℕ
  q k b x = vanish K (take (half k) b) x

  -- β of row r: the sum of those b_(h+1+j) with bit j of r set
  abbrev pub β : ℕ → List ℕ → ℕ → ℕ
  β k b r = elem K (drop (half k) b) r

  -- The last basis element of row r: b_(h+3) if r < 4, else β
  abbrev pub row_last : ℕ → List ℕ → ℕ → ℕ
  row_last k b r = pick (ltb r 4) (get_or b (half k + 2) 0) (β k b r)

  -- The space of row r: b_1..b_(h+2) and, last, that element
  abbrev pub row_basis : ℕ → List ℕ → ℕ → List ℕ
  row_basis k b r = take (half k + 2) b ++ (row_last k b r ∷ [])

  -- The space of a column: q(b_(h+1))..q(b_k)
  abbrev pub col_basis : ℕ → List ℕ → List ℕ
  col_basis k b = map (q k b) (drop (half k) b)
