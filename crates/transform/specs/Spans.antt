-- The images of the elements of a span, as lanes.
use Rattle.std.specs.Prelude.{◌≡◌, List, ℕ, ◌+◌, ◌*◌, ◌^◌, ◌≤◌, ◌<◌, length, get_or}
use Rattle.lists.specs.Tables.{tab}
use Rattle.field.specs.Binary.{Irreducible}
use Rattle.field.specs.Symbols.{symbols}
use Rattle.space.specs.Sizes.{lane_cells}
use Rattle.poly.specs.Span.{elem}
use Rattle.transform.specs.Lanes.{image_at}

-- n zeros
pub record Zeros (n : ℕ) (xs : List ℕ) : Type 0 where
  pub count : length xs ≡ n
  pub each : (p : ℕ) → get_or xs p 0 ≡ 0

-- the images of number j of c basis elements, from number `from` on
unfoldable pub image_list : List ℕ → ℕ → ℕ → ℕ → List ℕ
image_list images from c j = tab c (λ i. image_at images (from + i) j)

-- the first n numbers are the images of number j of the first elements of the span
abbrev pub SpanList : List ℕ → ℕ → ℕ → ℕ → ℕ → List ℕ → Type 0
SpanList images from c j n xs = (q : ℕ) → Irreducible q → (e : ℕ) → e < n → get_or xs e 0 ≡ elem (symbols q) (image_list images from c j) e

-- m lists of 2^c numbers, list j with the images of number j, and zeros after them
pub record SpanLanes (images : List ℕ) (from c m : ℕ) (xs : List ℕ) : Type 0 where
  pub count : length xs ≡ lane_cells
  pub inside : (j : ℕ) → j < m → (q : ℕ) → Irreducible q → (e : ℕ) → e < 2 ^ c → get_or xs (j * 2 ^ c + e) 0 ≡ elem (symbols q) (image_list images from c j) e
  pub outside : (p : ℕ) → m * 2 ^ c ≤ p → get_or xs p 0 ≡ 0
