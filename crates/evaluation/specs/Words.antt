-- The word of a polynomial, in a setting that passed its checks.
use Rattle.std.specs.Prelude.{◌≡◌, List, ℕ, ◌/◌, ◌-◌, ◌^◌, ◌≤◌, ◌<◌, length, get_or, take}
use Rattle.lists.specs.All.{Below}
use Rattle.lists.specs.Stretch.{stretch}
use Rattle.lists.specs.Tables.{tab, part}
use Rattle.field.specs.Binary.{degree, Irreducible}
use Rattle.field.specs.Products.{Sized}
use Rattle.field.specs.Symbols.{symbols}
use Rattle.field.specs.declared.Field.{Field}
use Rattle.poly.specs.Degree.{monomials}
use Rattle.poly.specs.Codeword.{Basis, word_of}
use Rattle.space.specs.Images.{Images}
use Rattle.space.specs.Ready.{Ready}
use Rattle.space.specs.Sizes.{max_dim, max_coefficients}
use Rattle.space.specs.declared.Setting.{Setting}
use Rattle.transform.specs.Blocks.{block}

-- each number 8 times
unfoldable pub spread_of : ℕ → List ℕ → List ℕ
spread_of n d = tab n (λ p. get_or d (p / 8) 0)

-- the length of the coefficients, and room for the lanes
pub record Fits (s : Setting) (coefficients scratch : List ℕ) : Type 0 where
  pub eighth : length coefficients ≡ 2 ^ (s.space.k - 3)
  pub room : 2 ^ s.space.k ≤ length scratch

-- coefficients over the novel basis, for the eight blocks of a word of 2^k symbols
pub record Filling (f : Field) (images : List ℕ) (k : ℕ) (d : List ℕ) : Type 0 where
  pub sized : Sized f
  pub irreducible : Irreducible f.modulus
  pub low : 3 ≤ k
  pub high : k ≤ max_dim
  pub image-symbols : Below (2 ^ degree f.modulus) images
  pub symbols : Below (2 ^ degree f.modulus) d
  pub count : length d ≡ 2 ^ (k - 3)

-- the lanes are the blocks of the word of the polynomial with the coefficients d over the novel basis
abbrev pub LanesOf : ℕ → List ℕ → ℕ → List ℕ → List ℕ → Type 0
LanesOf q images k d lanes =
    (b : List ℕ) → Basis (symbols q) k b → Images (symbols q) b images → (r : ℕ) → r < 8
    → block k r lanes ≡ part (2 ^ (k - 3)) r (word_of (symbols q) k b (monomials (symbols q) b (k - 3) d))

-- the d numbers from a place on, in front
pub record Taken (at d : ℕ) (from r : List ℕ) : Type 0 where
  pub count : length r ≡ max_coefficients
  pub right : take d r ≡ stretch d at from

-- in front of the scratch stand the blocks of the word of p, as lanes
abbrev pub WordLanes : Setting → List ℕ → List ℕ → Type 0
WordLanes s p scratch =
    (bs : List ℕ) → Ready s.field.modulus bs s → (r : ℕ) → r < 8
    → block s.space.k r (take (2 ^ s.space.k) scratch) ≡ part (2 ^ (s.space.k - 3)) r (word_of (symbols s.field.modulus) (length bs) bs p)
