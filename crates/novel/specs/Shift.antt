-- P(x + shift) from P, on coefficients of powers of x.
use Rattle.std.specs.Prelude.{◌≡◌, List, ℕ, ◌^◌, ◌<◌, length, get_or}
use Rattle.space.specs.Sizes.{max_dim}
use Rattle.lists.specs.All.{Below}
use Rattle.field.specs.Binary.{degree}
use Rattle.field.specs.Symbols.{symbols}
use Rattle.poly.specs.Poly.{eval}
use Rattle.novel.specs.Sparse.{squared}

-- t has x^(2^j) at j, j below the largest dimension
pub record Squares (q x : ℕ) (t : List ℕ) : Type 0 where
  pub below : Below (2 ^ degree q) t
  pub right : (j : ℕ) → j < max_dim → get_or t j 0 ≡ squared (symbols q) j x

-- `new` has the coefficients of P(x + σ), where `old` has those of P
pub record Shifted (q σ : ℕ) (old new : List ℕ) : Type 0 where
  pub kept : length new ≡ length old
  pub below : Below (2 ^ degree q) new
  pub values : (x : ℕ) → x < 2 ^ degree q → eval (symbols q) new x ≡ eval (symbols q) old ((symbols q).◌⊕◌ σ x)
