-- Products of lists of symbols, symbol by symbol.
use Rattle.std.specs.Prelude.{◌≡◌, ℕ, ◌+◌, ◌≤◌, ◌<◌, length, take, drop}
use mathlib.Core.List.{List, ◌++◌, zip_with}
use Rattle.lists.specs.Stretch.{stretch}
use Rattle.field.specs.Binary.{◌⊕◌, degree, product}
use Rattle.field.specs.declared.Field.{Field}

-- the degree of the field is that of its modulus, and a symbol has 1 to 16 bits
pub record Sized (f : Field) : Type 0 where
  pub right : f.degree ≡ degree f.modulus
  pub positive : 0 < f.degree
  pub small : f.degree ≤ 16

-- each element with the product of (t + c) and the factor added
unfoldable pub add_products : ℕ → ℕ → List ℕ → List ℕ → List ℕ → List ℕ
add_products m c ts factors xs = zip_with ◌⊕◌ xs (zip_with (λ t x. product m (t ⊕ c) x) ts factors)

-- the list with the stretch at `to` so changed by the factors at `from`
unfoldable pub accumulated : ℕ → ℕ → List ℕ → ℕ → ℕ → List ℕ → List ℕ
accumulated m c ts from to xs =
    take to xs ++ (add_products m c ts (stretch (length ts) from xs) (stretch (length ts) to xs) ++ drop (to + length ts) xs)
