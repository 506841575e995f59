-- The images of a basis and of a shift, and the coefficients of a polynomial with given values on a coset.
use Rattle.std.specs.Prelude.{◌≡◌, ◌≢◌, List, ℕ, ◌^◌, ◌<◌, length, get_or}
use Rattle.field.specs.Laws.{Ops, IsField}
use Rattle.lists.specs.All.{All}
use Rattle.poly.specs.Span.{elem}
use Rattle.poly.specs.Novel.{step, image, eval_x}

module _ (K : Ops) (bs : List ℕ) where
  -- The images of the basis
  abbrev pub table : ℕ → ℕ → ℕ
  table i j = image K bs j (get_or bs i 0)

  -- The images of a shift
  abbrev pub images_of : ℕ → ℕ → ℕ
  images_of s j = image K bs j s

module _ {K : Ops} (F : IsField K) (bs : List ℕ) (sb : All K.Sym bs) (nz : (j : ℕ) → j < length bs → step K bs j ≢ 0) where
  infixl 60 ◌⊕◌
  infixl 70 ◌⊗◌
  open K use {◌⊕◌, ◌⊗◌, Sym}

  -- The coefficients of the polynomial with given values on the coset of s
  pub record OnCoset (j s : ℕ) (g : ℕ → ℕ) : Type 0 where
    pub coeffs : List ℕ
    pub count : length coeffs ≡ 2 ^ j
    pub elements : All Sym coeffs
    pub values : (i : ℕ) → i < 2 ^ j → eval_x K bs j coeffs (s ⊕ elem K bs i) ≡ g i
