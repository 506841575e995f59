-- The table of a line's space, by the entries of the table of the space. Definitions only.
use Rattle.std.specs.Prelude.{◌≡◌, List, ℕ, ◌+◌, ◌*◌, ◌/◌, ◌%◌, ltb, eqb, get_or}
use Rattle.lists.specs.Pick.{pick}
use Rattle.lists.specs.Tables.{tab}
use Rattle.field.specs.Binary.{◌⊕◌, Irreducible}
use Rattle.field.specs.Symbols.{symbols}
use Rattle.poly.specs.Span.{elem}
use Rattle.poly.specs.Codeword.{Basis}
use Rattle.space.specs.Images.{Images, upper_images}
use Rattle.proximity.specs.Dim.{half, col_dim}
use Rattle.proximity.specs.declared.Line.{Line}
use Rattle.proximity.specs.Verifier.{by_line}
use Rattle.proximity.specs.ByLine.{line_basis}
use Rattle.space.specs.Sizes.{cells}

-- x with row i of the table added
unfoldable pub added_row : List ℕ → ℕ → List ℕ → List ℕ
added_row t i x = tab 16 (λ j. get_or x j 0 ⊕ get_or t (16 * i + j) 0)

-- The images of number j of the c basis elements after the first h
abbrev pub image_column : ℕ → ℕ → List ℕ → ℕ → List ℕ
image_column h c t j = tab c (λ i. get_or t (16 * (h + i) + j) 0)

-- Entry j is the sum of those at whose place r has a one bit; a sum is the same under every modulus
unfoldable pub element_images : ℕ → ℕ → List ℕ → ℕ → List ℕ
element_images h c t r = tab 16 (λ j. elem (symbols 0) (image_column h c t j) r)

-- Row r: for r ≥ 4 row h+2 of the table gives way to the images of β
unfoldable pub row_images : ℕ → List ℕ → ℕ → List ℕ
row_images k t r =
    pick (ltb r 4) t (tab cells (λ p. pick (eqb (p / 16) (half k + 2)) (get_or (element_images (half k) (col_dim k) t r) (p % 16) 0) (get_or t p 0)))

-- A column: both indices are shifted by h, so each place 16 i + j by 17 h
abbrev pub line_images : ℕ → List ℕ → Line → List ℕ
line_images k t l = by_line l (row_images k t) (λ a. upper_images (half k) t)

-- The table t gives r, and where t is that of a space of dimension k, r is that of its line
pub record LineTable (k : ℕ) (t : List ℕ) (l : Line) (r : List ℕ) : Type 0 where
  pub entries : r ≡ line_images k t l
  pub right : (m : ℕ) → Irreducible m → (b : List ℕ) → Basis (symbols m) k b → Images (symbols m) b t → Images (symbols m) (line_basis (symbols m) k b l) r
