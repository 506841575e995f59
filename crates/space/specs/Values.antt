-- The values of the subspace polynomials as code computes them, from the steps W_j(b_(j+1)).
use Rattle.std.specs.Prelude.{List, ℕ, zero, suc, get_or}
use Rattle.field.specs.Binary.{◌⊕◌, product}

-- W_j(x)
unfoldable pub value_at : ℕ → List ℕ → ℕ → ℕ → ℕ
value_at m steps zero x = x
value_at m steps (suc j) x = product m (value_at m steps j x) (value_at m steps j x ⊕ get_or steps j 0)

-- W_j(x) over the step of number j, whose inverse is given
unfoldable pub image_at : ℕ → List ℕ → List ℕ → ℕ → ℕ → ℕ
image_at m steps inverses x j = product m (value_at m steps j x) (get_or inverses j 0)
