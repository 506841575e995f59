-- The division of a polynomial in a work list by its factor, which stands 4 n further on.
use Rattle.std.specs.Prelude.{◌≡◌, List, ℕ, suc, ◌+◌, ◌*◌, ◌≤◌, ◌<◌, ◌^◌, length, get_or}
use Rattle.lists.specs.All.{All, Below}
use Rattle.field.specs.Binary.{degree, product, Irreducible}
use Rattle.field.specs.Products.{Sized}
use Rattle.field.specs.Symbols.{symbols}
use Rattle.field.specs.declared.Field.{Field}
use Rattle.poly.specs.Poly.{mul_p}
use Rattle.poly.specs.Coefficients.{coeff, Low}
use Rattle.correction.specs.Division.{Step}
use Rattle.correction.specs.Pairs.{poly_at}

-- what the division takes: the factor of degree e, the inverse v of its leading coefficient, and j coefficients to find
pub record Divides (f : Field) (n e v at j : ℕ) (work : List ℕ) : Type 0 where
  pub sized : Sized f
  pub irreducible : Irreducible f.modulus
  pub below : Below (2 ^ degree f.modulus) work
  pub symbol : v < 2 ^ degree f.modulus
  pub room : at + 6 * n ≤ length work
  pub fits : j + e ≤ 2 * n

-- one coefficient more is found
pub record DividedStep (q n e v at j : ℕ) (old new : List ℕ) : Type 0 where
  pub kept : length new ≡ length old
  pub below : Below (2 ^ degree q) new
  pub factor : poly_at n (at + 4 * n) new ≡ poly_at n (at + 4 * n) old
  pub step : Step (symbols q) e j (product q (coeff (poly_at n at old) (j + e)) v) (poly_at n (at + 4 * n) old) (poly_at n at old) (poly_at n at new)

-- p is the polynomial over its factor
pub record FactorOf (q n e v at d : ℕ) (work p : List ℕ) : Type 0 where
  pub count : length p ≡ d
  pub elements : All (symbols q).Sym p
  pub low : Low (suc e) (poly_at n (at + 4 * n) work)
  pub unit : product q (coeff (poly_at n (at + 4 * n) work) e) v ≡ 1
  pub multiple : (i : ℕ) → coeff (poly_at n at work) i ≡ coeff (mul_p (symbols q) p (poly_at n (at + 4 * n) work)) i

-- the coefficients of the quotient stand from coefficient e on
pub record Divided (q n e v at d : ℕ) (old new : List ℕ) : Type 0 where
  pub kept : length new ≡ length old
  pub below : Below (2 ^ degree q) new
  pub quotient : (p : List ℕ) → FactorOf q n e v at d old p → (i : ℕ) → i < d → get_or new (at + e + i) 0 ≡ coeff p i
