-- The basis of Lin, Chung and Han for polynomials: coefficient i goes with the product of the normalised subspace polynomials of the digits of i that are 1.
use Rattle.std.specs.Prelude.{List, ℕ, zero, suc, ◌^◌, get_or, take, drop}
use Rattle.field.specs.Laws.{Ops}
use Rattle.poly.specs.Span.{vanish}

module _ (K : Ops) (bs : List ℕ) where
  infixl 60 ◌⊕◌
  infixl 70 ◌⊗◌
  open K use {◌⊕◌, ◌⊗◌, inv, Sym}

  -- W j: the subspace polynomial of the first j basis elements
  abbrev pub W : ℕ → ℕ → ℕ
  W j x = vanish K (take j bs) x

  -- its value at the next basis element
  abbrev pub step : ℕ → ℕ
  step j = W j (get_or bs j 0)

  -- W j normalised: 1 at the next basis element
  abbrev pub image : ℕ → ℕ → ℕ
  image j x = W j x ⊗ inv (step j)

  -- The value at x of the polynomial with the 2 ^ j coefficients d
  abbrev pub eval_x : ℕ → List ℕ → ℕ → ℕ
  eval_x zero d x = get_or d 0 0
  eval_x (suc j) d x = eval_x j (take (2 ^ j) d) x ⊕ image j x ⊗ eval_x j (drop (2 ^ j) d) x
