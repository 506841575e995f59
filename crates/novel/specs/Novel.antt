-- Coefficients of powers of x, and those over the novel basis, in a list whose first 2^m numbers are given and whose next 2^m are the answer.
use Rattle.std.specs.Prelude.{◌≡◌, ℕ, ◌^◌, ◌≤◌, ◌<◌, length, get_or, take}
use mathlib.Core.List.{List, zip_with}
use Rattle.space.specs.Sizes.{max_dim}
use Rattle.lists.specs.All.{All, Below, IsZero}
use Rattle.lists.specs.Stretch.{stretch}
use Rattle.field.specs.Binary.{degree, product, Irreducible}
use Rattle.field.specs.Products.{Sized}
use Rattle.field.specs.Symbols.{symbols}
use Rattle.field.specs.declared.Field.{Field}
use Rattle.poly.specs.Poly.{eval}
use Rattle.poly.specs.Span.{Independent}
use Rattle.poly.specs.Novel.{W, step, eval_x}
use Rattle.novel.specs.Convert.{eval_by}
use Rattle.novel.specs.Scales.{scales_of}

-- a field and a list of symbols, for 2^m coefficients
pub record Stepped (f : Field) (m : ℕ) (steps : List ℕ) : Type 0 where
  pub sized : Sized f
  pub irreducible : Irreducible f.modulus
  pub few : m ≤ max_dim
  pub below : Below (2 ^ degree f.modulus) steps

-- the steps are those of the basis, as far as 2^m coefficients need them
pub record StepsOf (q : ℕ) (bs : List ℕ) (m : ℕ) (steps : List ℕ) : Type 0 where
  pub elements : All (symbols q).Sym bs
  pub independent : Independent (symbols q) bs
  pub enough : m ≤ length bs
  pub right : (j : ℕ) → j < m → get_or steps j 0 ≡ step (symbols q) bs j

-- `powers` are the coefficients of powers of x of the polynomial with the coefficients `products` over the products of W_j
pub record Changed (q : ℕ) (steps : List ℕ) (m : ℕ) (products powers : List ℕ) : Type 0 where
  pub kept : length powers ≡ length products
  pub below : Below (2 ^ degree q) products × Below (2 ^ degree q) powers
  pub values : (bs : List ℕ) → StepsOf q bs m steps → (x : ℕ) → x < 2 ^ degree q → eval (symbols q) powers x ≡ eval_by (symbols q) (λ j. W (symbols q) bs j x) m products

-- the first 2^m numbers times the products of the factors, in the zeros behind them
pub record Scaled (q : ℕ) (factors : List ℕ) (m : ℕ) (old new : List ℕ) : Type 0 where
  pub kept : length new ≡ length old
  pub below : Below (2 ^ degree q) new
  pub right : All IsZero (stretch (2 ^ m) (2 ^ m) old) → stretch (2 ^ m) (2 ^ m) new ≡ zip_with (product q) (scales_of (symbols q) (λ j. get_or factors j 0) m) (take (2 ^ m) old)

-- the answer: the coefficients over the novel basis of the polynomial with the coefficients p
pub record NovelOf (q : ℕ) (steps : List ℕ) (m : ℕ) (p work : List ℕ) : Type 0 where
  pub below : Below (2 ^ degree q) work
  pub values : (bs : List ℕ) → StepsOf q bs m steps → (x : ℕ) → x < 2 ^ degree q → eval_x (symbols q) bs m (stretch (2 ^ m) (2 ^ m) work) x ≡ eval (symbols q) p x

-- the answer: the coefficients of powers of x of the polynomial with the coefficients d over the novel basis
pub record PowersOf (q : ℕ) (steps inverses : List ℕ) (m : ℕ) (d work : List ℕ) : Type 0 where
  pub below : Below (2 ^ degree q) work
  pub values : (bs : List ℕ) → StepsOf q bs m steps → ((j : ℕ) → j < m → get_or inverses j 0 ≡ (symbols q).inv (step (symbols q) bs j)) → (x : ℕ) → x < 2 ^ degree q
      → eval (symbols q) (stretch (2 ^ m) (2 ^ m) work) x ≡ eval_x (symbols q) bs m d x
