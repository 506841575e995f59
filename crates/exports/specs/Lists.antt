-- The product of lists of symbols as a call: its checks, and what it leaves.
use Rattle.std.specs.Prelude.{◌≡◌, ◌≢◌, List, [], ◌∷◌, ◌++◌, ℕ, ◌/◌, ◌^◌, ◌<◌, length}
use Rattle.lists.specs.All.{Below}
use Rattle.lists.specs.Answers.{Checks}
use Rattle.field.specs.Binary.{degree}
use Rattle.field.specs.Checks.{modulus_checks}
use Rattle.field.specs.Products.{accumulated}

-- checks 6 and 9, past those of the modulus
abbrev pub list_checks : ℕ → List ℕ → List ℕ → Checks
list_checks m factors values =
    (6, length values / 2 ≢ length factors) ∷ (9, (Below (2 ^ degree m) factors → ⊥)) ∷ (9, (Below (2 ^ degree m) values → ⊥)) ∷ []

abbrev pub product_checks : ℕ → List ℕ → List ℕ → Checks
product_checks m factors values = modulus_checks m ++ list_checks m factors values

-- a refused call leaves the values as they came
pub record Added (m : ℕ) (factors values left : List ℕ) (r : ℕ) : Type 0 where
  pub done : r ≡ 0 → left ≡ accumulated m 0 factors (length factors) 0 values
  pub refused : 0 < r → left ≡ values
