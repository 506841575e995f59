-- The checks of a product of lists. Assumes nothing.
use mathlib.Core.Path.{◌≡◌}
use mathlib.Core.Logic.{inl, inr}
use mathlib.Core.List.{List}
use Prim.Native.Nat.{ℕ, ◌/◌, ◌^◌}
use native.Mathlib.Omega.{arith}
use lib.ListN.{length}
use Rattle.lists.specs.All.{Below, below_stable}
use Rattle.lists.specs.Answers.{Passes, passes-each}
use Rattle.lists.specs.Decides.{equal_stable}
use Rattle.lists.specs.Stretch.{Apart}
use Rattle.field.specs.Binary.{degree}
use Rattle.field.specs.Calls.{modulus_numbered}
use Rattle.field.specs.Checks.{modulus_checks, GoodModulus, modulus_passed}
use Rattle.exports.specs.Lists.{list_checks, product_checks}

module _ (m : ℕ) (factors values : List ℕ) where
  pub record Fine : Type 0 where
    pub modulus : GoodModulus m
    pub places : Apart (length factors) (length factors) 0 (length values)
    pub first : Below (2 ^ degree m) factors
    pub second : Below (2 ^ degree m) values

  pub fine : Passes (product_checks m factors values) → Fine
  fine p = go parts.1
    where
      parts : Passes (modulus_checks m) × Passes (list_checks m factors values)
      parts = passes-each (modulus_checks m) (list_checks m factors values) (modulus_numbered m) p

      halves : length values / 2 ≡ length factors → Apart (length factors) (length factors) 0 (length values)
      halves e = record { first = omega arith; second = omega arith; apart = inr (omega arith) }

      go : Passes (list_checks m factors values) → Fine
      go (inl a) = absurd (omega arith)
      go (inr (n, inl a)) = absurd (omega arith)
      go (inr (n, inr (a, inl b))) = absurd (omega arith)
      go (inr (n, inr (a, inr (b, e)))) =
          record { modulus = modulus_passed m parts.0; places = halves (equal_stable (length values / 2) (length factors) n); first = below_stable (2 ^ degree m) factors a; second = below_stable (2 ^ degree m) values b }
