-- The two polynomials that the remainders start from: the one that vanishes on the space, and the one through a word.
use Rattle.std.specs.Prelude.{◌≡◌, List, ℕ, suc, ◌^◌, ◌<◌, length, get_or}
use Rattle.lists.specs.All.{Below}
use Rattle.lists.specs.Stretch.{stretch}
use Rattle.field.specs.Binary.{degree}
use Rattle.field.specs.Symbols.{symbols}
use Rattle.poly.specs.Poly.{eval}
use Rattle.poly.specs.Span.{elem}
use Rattle.poly.specs.Novel.{eval_x}
use Rattle.poly.specs.Codeword.{Basis}
use Rattle.space.specs.Images.{Images}
use Rattle.space.specs.Ready.{Ready}
use Rattle.space.specs.declared.Setting.{Setting}
use Rattle.novel.specs.Novel.{StepsOf}
use Rattle.poly.specs.Coefficients.{coeff, Low}

-- the coefficients of the polynomial that vanishes on the space
pub record Vanishing (q : ℕ) (steps : List ℕ) (k : ℕ) (values : List ℕ) : Type 0 where
  pub below : Below (2 ^ degree q) values
  pub low : Low (suc (2 ^ k)) values
  pub lead : coeff values (2 ^ k) ≡ 1
  pub roots : (bs : List ℕ) → StepsOf q bs k steps → (j : ℕ) → j < 2 ^ k → eval (symbols q) values (elem (symbols q) bs j) ≡ 0

-- the values of a word to the coefficients over the novel basis
pub record WordInterpolated (q : ℕ) (images : List ℕ) (k : ℕ) (old new : List ℕ) : Type 0 where
  pub kept : length new ≡ length old
  pub below : Below (2 ^ degree q) new
  pub values : (bs : List ℕ) → Basis (symbols q) k bs → Images (symbols q) bs images → (i : ℕ) → i < 2 ^ k
      → eval_x (symbols q) bs k new (elem (symbols q) bs i) ≡ get_or old i 0

-- a word of symbols in a setting that passed its checks
pub record InSetting (s : Setting) (word : List ℕ) : Type 0 where
  pub basis : List ℕ
  pub ready : Ready s.field.modulus basis s
  pub whole : length word ≡ 2 ^ s.space.k
  pub symbols : Below (2 ^ degree s.field.modulus) word

-- behind room of its length stands the polynomial through the word
pub record ThroughWord (s : Setting) (word work : List ℕ) : Type 0 where
  pub below : Below (2 ^ degree s.field.modulus) work
  pub values : (bs : List ℕ) → Ready s.field.modulus bs s → (i : ℕ) → i < 2 ^ s.space.k
      → eval (symbols s.field.modulus) (stretch (2 ^ s.space.k) (2 ^ s.space.k) work) (elem (symbols s.field.modulus) bs i) ≡ get_or word i 0
