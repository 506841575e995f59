-- The rows of a word of 2^k symbols, by the table t of the space: row r is the polynomial of degree below 2^h through the word's block r. Definitions only.
use Rattle.std.specs.Prelude.{◌≡◌, List, ℕ, ◌+◌, ◌-◌, ◌*◌, ◌^◌, ◌≤◌, ◌<◌, ltb, length, get_or, take, drop}
use Rattle.lists.specs.All.{Below}
use Rattle.lists.specs.Lanes.{lane}
use Rattle.lists.specs.Pick.{pick}
use Rattle.lists.specs.Tables.{part}
use Rattle.field.specs.Binary.{degree, Irreducible}
use Rattle.field.specs.Products.{Sized}
use Rattle.field.specs.Symbols.{symbols}
use Rattle.field.specs.declared.Field.{Field}
use Rattle.poly.specs.Transform.{transform, inverse}
use Rattle.space.specs.Sizes.{max_dim, cells, lane_cells}
use Rattle.transform.specs.Lanes.{image_at}
use Rattle.proximity.specs.Dim.{half, col_dim}
use Rattle.proximity.specs.Proof.{slot}
use Rattle.proximity.specs.LineImages.{element_images, row_images}

-- the field and the table of a space of dimension 7 at least
pub record InTable (f : Field) (k : ℕ) (t : List ℕ) : Type 0 where
  pub sized : Sized f
  pub irreducible : Irreducible f.modulus
  pub low : 7 ≤ k
  pub high : k ≤ max_dim
  pub count : length t ≡ cells
  pub below : Below (2 ^ degree f.modulus) t

-- the image of number i of β of row r
abbrev pub own_image : ℕ → List ℕ → ℕ → ℕ → ℕ
own_image k t r i = get_or (element_images (half k) (col_dim k) t r) i 0

-- the image of number i of the element on whose coset block j of row r lies
abbrev pub block_image : ℕ → List ℕ → ℕ → ℕ → ℕ → ℕ
block_image k t r j i = get_or (element_images (half k) 3 (row_images k t r) j) i 0

-- the coefficients of row r
abbrev pub row_coeffs : ℕ → ℕ → List ℕ → List ℕ → ℕ → List ℕ
row_coeffs q k t w r = inverse (symbols q) (image_at t) (half k) (own_image k t r) (part (2 ^ half k) r w)

-- block j of row r
abbrev pub row_block : ℕ → ℕ → List ℕ → List ℕ → ℕ → ℕ → List ℕ
row_block q k t w r j = transform (symbols q) (image_at t) (half k) (block_image k t r j) (row_coeffs q k t w r)

-- the number of block j of row r among all stored blocks
unfoldable pub number : ℕ → ℕ → ℕ
number r j = 7 * r + pick (ltb j (slot r)) j (j - 1)

-- number r of each list
abbrev pub row_lane : ℕ → ℕ → List ℕ → List ℕ
row_lane k r xs = lane (2 ^ col_dim k) r (2 ^ half k) xs

-- lane r has the coefficients of row r
pub record Coefficients (q k : ℕ) (t w xs : List ℕ) : Type 0 where
  pub below : Below (2 ^ degree q) xs
  pub right : (r : ℕ) → r < 2 ^ col_dim k → row_lane k r xs ≡ row_coeffs q k t w r

-- lane r has the images of the last basis element of row r
pub record LastLanes (k : ℕ) (t xs : List ℕ) : Type 0 where
  pub count : length xs ≡ lane_cells
  pub inside : (q : ℕ) → Irreducible q → (i r : ℕ) → i < half k → r < 2 ^ col_dim k → get_or xs (i * 2 ^ col_dim k + r) 0 ≡ image_at (row_images k t r) (half k + 2) i
  pub below : (q : ℕ) → Irreducible q → Below (2 ^ degree q) t → Below (2 ^ degree q) xs

-- after the coefficients, in lane r block j of row r
pub record PassValues (q k : ℕ) (t : List ℕ) (j : ℕ) (old new : List ℕ) : Type 0 where
  pub first : take (2 ^ k) new ≡ take (2 ^ k) old
  pub values : (r : ℕ) → r < 2 ^ col_dim k → row_lane k r (drop (2 ^ k) new) ≡ transform (symbols q) (image_at t) (half k) (block_image k t r j) (row_lane k r old)

-- block j of the first n rows is stored from the lanes of `values`; the other stored blocks are as they were
pub record PassStored (k j n : ℕ) (values old new : List ℕ) : Type 0 where
  pub kept : length new ≡ length old
  pub done : (r : ℕ) → r < n → (j ≡ slot r → ⊥) → part (2 ^ half k) (number r j) new ≡ row_lane k r values
  pub other : (p : ℕ) → ((r : ℕ) → r < n → (j ≡ slot r → ⊥) → p ≡ number r j → ⊥) → part (2 ^ half k) p new ≡ part (2 ^ half k) p old

-- of each row, of the blocks before j those that are stored
abbrev pub Stored : ℕ → ℕ → List ℕ → List ℕ → ℕ → List ℕ → Type 0
Stored q k t w j π = (r i : ℕ) → r < 2 ^ col_dim k → i < j → (i ≡ slot r → ⊥) → part (2 ^ half k) (number r i) π ≡ row_block q k t w r i
