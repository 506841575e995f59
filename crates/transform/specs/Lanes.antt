-- A transform in each lane of 2^m lists of one length.
use Rattle.std.specs.Prelude.{◌≡◌, List, ℕ, ◌+◌, ◌*◌, ◌^◌, ◌≤◌, ◌<◌, length, get_or}
use Rattle.lists.specs.All.{Below}
use Rattle.lists.specs.Lanes.{lane}
use Rattle.field.specs.Binary.{◌⊕◌, degree}
use Rattle.field.specs.Symbols.{symbols}
use Rattle.field.specs.Products.{Sized}
use Rattle.field.specs.declared.Field.{Field}
use Rattle.poly.specs.Transform.{transform, inverse}
use Rattle.space.specs.Sizes.{max_dim}

-- the image of number j of basis element i
abbrev pub image_at : List ℕ → ℕ → ℕ → ℕ
image_at images i j = get_or images (16 * i + j) 0

-- the image of number j of the shift of lane r: that of the lane and that of all lanes
abbrev pub lane_shift : List ℕ → ℕ → List ℕ → ℕ → ℕ → ℕ
lane_shift lanes count shift r j = get_or lanes (j * count + r) 0 ⊕ get_or shift j 0

-- the images of a shift with those of basis element i added
pub record Shifted (images : List ℕ) (i : ℕ) (old new : List ℕ) : Type 0 where
  pub count : length new ≡ 16
  pub right : (j : ℕ) → j < 16 → get_or new j 0 ≡ get_or old j 0 ⊕ image_at images i j

-- what a transform of 2^m lists of `count` symbols takes
pub record InLanes (f : Field) (images lanes : List ℕ) (count m : ℕ) (shift values : List ℕ) : Type 0 where
  pub sized : Sized f
  pub few : m ≤ max_dim
  pub long : length values ≡ 2 ^ m * count
  pub room : m * count ≤ length lanes
  pub image-symbols : Below (2 ^ degree f.modulus) images
  pub lane-symbols : Below (2 ^ degree f.modulus) lanes
  pub shift_symbols : Below (2 ^ degree f.modulus) shift
  pub symbols : Below (2 ^ degree f.modulus) values

-- coefficients to values in each lane
pub record Evaluated (q : ℕ) (images lanes : List ℕ) (count m : ℕ) (shift old new : List ℕ) : Type 0 where
  pub kept : length new ≡ length old
  pub below : Below (2 ^ degree q) new
  pub right : (r : ℕ) → r < count
      → lane count r (2 ^ m) new ≡ transform (symbols q) (image_at images) m (lane_shift lanes count shift r) (lane count r (2 ^ m) old)

-- values to coefficients in each lane
pub record Interpolated (q : ℕ) (images lanes : List ℕ) (count m : ℕ) (shift old new : List ℕ) : Type 0 where
  pub kept : length new ≡ length old
  pub below : Below (2 ^ degree q) new
  pub right : (r : ℕ) → r < count
      → lane count r (2 ^ m) new ≡ inverse (symbols q) (image_at images) m (lane_shift lanes count shift r) (lane count r (2 ^ m) old)
