-- The eight blocks of a word of 2^k symbols, as eight lanes: block r lies on a coset of the span of the first k - 3 basis elements.
use Rattle.std.specs.Prelude.{◌≡◌, Bool, List, ℕ, ◌-◌, ◌^◌, ◌≤◌, ◌<◌, length}
use Rattle.lists.specs.All.{Below}
use Rattle.lists.specs.Decides.{Decides}
use Rattle.lists.specs.Tables.{part}
use Rattle.lists.specs.Lanes.{lane}
use Rattle.field.specs.Binary.{degree, Irreducible}
use Rattle.field.specs.Symbols.{symbols}
use Rattle.field.specs.Products.{Sized}
use Rattle.field.specs.declared.Field.{Field}
use Rattle.poly.specs.Span.{elem}
use Rattle.poly.specs.Transform.{transform, inverse}
use Rattle.poly.specs.Values.{table, images_of}
use Rattle.poly.specs.Degree.{monomials}
use Rattle.poly.specs.Codeword.{Basis, word_of, Codeword}
use Rattle.poly.specs.Blocks.{block_shift, block_coeffs}
use Rattle.space.specs.Images.{Images}
use Rattle.transform.specs.Lanes.{image_at}
use Rattle.transform.specs.Spans.{image_list}
use Rattle.space.specs.Sizes.{max_dim}

-- what a transform of the eight blocks takes
pub record InBlocks (f : Field) (images : List ℕ) (k : ℕ) (values : List ℕ) : Type 0 where
  pub sized : Sized f
  pub irreducible : Irreducible f.modulus
  pub low : 3 ≤ k
  pub high : k ≤ max_dim
  pub long : length values ≡ 2 ^ k
  pub image-symbols : Below (2 ^ degree f.modulus) images
  pub symbols : Below (2 ^ degree f.modulus) values

-- the image of number j of the element on whose coset block r lies
abbrev pub block_image : ℕ → List ℕ → ℕ → ℕ → ℕ → ℕ
block_image q images k r j = elem (symbols q) (image_list images (k - 3) 3 j) r

-- lane r of n numbers each, as block r of 8 n numbers
abbrev pub block : ℕ → ℕ → List ℕ → List ℕ
block k r xs = lane 8 r (2 ^ (k - 3)) xs

-- values to coefficients in each block, by the table and by the basis
pub record BlocksInterpolated (q : ℕ) (images : List ℕ) (k : ℕ) (old new : List ℕ) : Type 0 where
  pub kept : length new ≡ length old
  pub below : Below (2 ^ degree q) new
  pub right : (r : ℕ) → r < 8 → block k r new ≡ inverse (symbols q) (image_at images) (k - 3) (block_image q images k r) (block k r old)
  pub coeffs : (b : List ℕ) → Basis (symbols q) k b → Images (symbols q) b images → (r : ℕ) → r < 8
      → block k r new ≡ inverse (symbols q) (table (symbols q) b) (k - 3) (images_of (symbols q) b (block_shift (symbols q) k b r)) (block k r old)

-- coefficients to values in each block; blocks with the same coefficients are those of the word of their polynomial
pub record BlocksEvaluated (q : ℕ) (images : List ℕ) (k : ℕ) (old new : List ℕ) : Type 0 where
  pub kept : length new ≡ length old
  pub below : Below (2 ^ degree q) new
  pub right : (r : ℕ) → r < 8 → block k r new ≡ transform (symbols q) (image_at images) (k - 3) (block_image q images k r) (block k r old)
  pub word : (b : List ℕ) → Basis (symbols q) k b → Images (symbols q) b images → (d : List ℕ) → ((r : ℕ) → r < 8 → block k r old ≡ d)
      → (r : ℕ) → r < 8 → block k r new ≡ part (2 ^ (k - 3)) r (word_of (symbols q) k b (monomials (symbols q) b (k - 3) d))

-- eight lanes of n numbers are alike
abbrev pub EqualLanes : ℕ → List ℕ → Type 0
EqualLanes n xs = (r : ℕ) → r < 8 → lane 8 r n xs ≡ lane 8 0 n xs

-- the answer is true exactly for a codeword, and the lanes end as the coefficients of the blocks
pub record Tested (q : ℕ) (images : List ℕ) (k : ℕ) (word : List ℕ) (answer : Bool) (work : List ℕ) : Type 0 where
  pub decides : (b : List ℕ) → Basis (symbols q) k b → Images (symbols q) b images → Decides answer (Codeword (symbols q) k b word)
  pub coeffs : (b : List ℕ) → Basis (symbols q) k b → Images (symbols q) b images → (r : ℕ) → r < 8 → block k r work ≡ block_coeffs (symbols q) k b word r
  pub below : Below (2 ^ degree q) work
