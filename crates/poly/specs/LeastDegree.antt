-- The least degree of a polynomial through the symbols of a word, and the degree of a polynomial. Assumes nothing.
use Rattle.std.specs.Prelude.{◌≡◌, ◌≢◌, ◌⊎◌, List, ℕ, zero, suc, ◌≤◌, ◌<◌, length}
use Rattle.std.proofs.Common.{inl, inr, arith}
use Rattle.std.proofs.Math.Decide.{dec_le, ℕ_discrete}
use Rattle.lists.specs.All.{All}
use Rattle.field.specs.Laws.{Ops}
use Rattle.poly.specs.Coefficients.{coeff, Low, low_length, low-less}

-- `word` takes a polynomial to its word. A polynomial of g + 1 coefficients has the word v, and none of fewer has. So the zero word, that of no coefficients, has no g.
pub record LeastDegree (K : Ops) (word : List ℕ → List ℕ) (v : List ℕ) (g : ℕ) : Type 0 where
  pub coeffs : List ℕ
  pub count : length coeffs ≡ suc g
  pub elements : All K.Sym coeffs
  pub values : v ≡ word coeffs
  pub least : (p : List ℕ) → All K.Sym p → v ≡ word p → g < length p

-- ---- the degree of a polynomial

-- coefficient g is not 0, and those after it are
pub record Degree (p : List ℕ) (g : ℕ) : Type 0 where
  pub top : coeff p g ≢ 0
  pub low : Low (suc g) p

-- it is below the number of coefficients
pub degree-fits : (p : List ℕ) (g : ℕ) → Degree p g → g < length p
degree-fits p g d = by (dec_le (length p) g)
  where
    by : Dec (length p ≤ g) → g < length p
    by (yes h) = absurd (d.top (low_length p g h g (omega arith)))
    by (no h) = omega arith

-- each polynomial is 0 or has a degree
top_below : (n : ℕ) (p : List ℕ) → Low n p → Low 0 p ⊎ ((g : ℕ) × Degree p g)
top_below zero p l = inl l
top_below (suc n) p l = by (top_below n p) (ℕ_discrete (coeff p n) 0)
  where
    by : (Low n p → Low 0 p ⊎ ((g : ℕ) × Degree p g)) → Dec (coeff p n ≡ 0) → Low 0 p ⊎ ((g : ℕ) × Degree p g)
    by f (yes e) = f (low-less n p l e)
    by f (no d) = inr (n, record { top = d; low = l })

pub degree_of : (p : List ℕ) → Low 0 p ⊎ ((g : ℕ) × Degree p g)
degree_of p = top_below (length p) p (low_length p (length p) (omega arith))
