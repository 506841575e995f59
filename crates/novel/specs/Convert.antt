-- Coefficients of powers of x, and those of products over the one bits j of a coefficient's number: of W_j, or of x^(2^j) plus a number.
use Rattle.std.specs.Prelude.{◌≡◌, Bool, true, false, List, ℕ, zero, suc, ◌+◌, ◌*◌, ◌/◌, ◌^◌, ◌≤◌, ◌<◌, length, get_or, take, drop}
use Rattle.space.specs.Sizes.{max_dim, max_word}
use Rattle.lists.specs.All.{All, Below, IsZero}
use Rattle.lists.specs.Stretch.{stretch}
use Rattle.field.specs.Binary.{degree, Irreducible}
use Rattle.field.specs.Laws.{Ops}
use Rattle.field.specs.Products.{Sized}
use Rattle.field.specs.Symbols.{symbols}
use Rattle.field.specs.declared.Field.{Field}
use Rattle.poly.specs.Poly.{eval}
use Rattle.novel.specs.Sparse.{squared, linear}

module _ (K : Ops) where
  infixl 60 ◌⊕◌
  infixl 70 ◌⊗◌
  open K use {◌⊕◌, ◌⊗◌}

  -- x^n v
  unfoldable pub raised : ℕ → ℕ → ℕ → ℕ
  raised zero x v = v
  raised (suc n) x v = x ⊗ raised n x v

  -- the sum of coefficient i times the product of g j over the one bits j of i, i below 2^m
  unfoldable pub eval_by : (ℕ → ℕ) → ℕ → List ℕ → ℕ
  eval_by g zero d = get_or d 0 0
  eval_by g (suc j) d = eval_by g j (take (2 ^ j) d) ⊕ g j ⊗ eval_by g j (drop (2 ^ j) d)

-- row j of the table
abbrev pub row_of : List ℕ → ℕ → ℕ → ℕ
row_of table j i = get_or table (max_dim * j + i) 0

-- W_j(x), from row j of the table
abbrev pub value_by : ℕ → List ℕ → ℕ → ℕ → ℕ
value_by q table j x = linear (symbols q) (row_of table j) (suc j) x

-- x^(2^j) plus entry j of the table, at x
abbrev pub shifted_by : ℕ → List ℕ → ℕ → ℕ → ℕ
shifted_by q table j x = (symbols q).◌⊕◌ (get_or table j 0) (squared (symbols q) j x)

-- factor j of the products, by the table
abbrev pub factor_by : Bool → ℕ → List ℕ → ℕ → ℕ → ℕ
factor_by false = value_by
factor_by true = shifted_by

-- zeros for half of the coefficients of the longest word
pub record Zeros (none : List ℕ) : Type 0 where
  pub zero : All IsZero none
  pub many : max_word / 2 ≤ length none

-- what the change of basis for 2^m coefficients takes
pub record Tabled (shifted : Bool) (f : Field) (none table : List ℕ) (m : ℕ) : Type 0 where
  pub sized : Sized f
  pub irreducible : Irreducible f.modulus
  pub zeros : Zeros none
  pub few : m ≤ max_dim
  pub below : Below (2 ^ degree f.modulus) table
  pub lead : shifted ≡ false → (j : ℕ) → j < m → row_of table j j ≡ 1

-- the terms of W_j with x^(2^0) to x^(2^(i-1)), x^at times the 2^j/2 coefficients at `at + 2^j`, are added
pub record Folded (q : ℕ) (table : List ℕ) (j i at : ℕ) (old new : List ℕ) : Type 0 where
  pub kept : length new ≡ length old
  pub below : Below (2 ^ degree q) new
  pub beyond : (p : ℕ) → at + 2 ^ j ≤ p → get_or new p 0 ≡ get_or old p 0
  pub values : (x : ℕ) → eval (symbols q) new x
      ≡ (symbols q).◌⊕◌ (eval (symbols q) old x)
      (raised (symbols q) at x ((symbols q).◌⊗◌ (linear (symbols q) (row_of table j) i x) (eval (symbols q) (stretch (2 ^ j / 2) (at + 2 ^ j) old) x)))

-- `whole` is low + g j high, of the halves of `parts`
pub record Expanded (q : ℕ) (g : ℕ → ℕ → ℕ) (j : ℕ) (parts whole : List ℕ) : Type 0 where
  pub kept : length whole ≡ length parts
  pub below : Below (2 ^ degree q) parts × Below (2 ^ degree q) whole
  pub values : (x : ℕ) → x < 2 ^ degree q → eval (symbols q) whole x
      ≡ (symbols q).◌⊕◌ (eval (symbols q) (take (2 ^ j) parts) x) ((symbols q).◌⊗◌ (g j x) (eval (symbols q) (drop (2 ^ j) parts) x))

-- `powers` are the coefficients of powers of x of the polynomial with the 2^m coefficients `products` over the products of g j
pub record Monomials (q : ℕ) (g : ℕ → ℕ → ℕ) (m : ℕ) (products powers : List ℕ) : Type 0 where
  pub kept : length powers ≡ length products
  pub below : Below (2 ^ degree q) products × Below (2 ^ degree q) powers
  pub values : (x : ℕ) → x < 2 ^ degree q → eval (symbols q) powers x ≡ eval_by (symbols q) (λ j. g j x) m products
