-- Checks 1 to 5, and the numbers that a checked setting holds.
use Rattle.std.specs.Prelude.{◌≡◌, ◌⊎◌, Option, Some, None, Result, List, [], ◌∷◌, ◌++◌, ℕ, ◌/◌, ◌%◌, ◌^◌, ◌<◌, length, get_or}
use Rattle.lists.specs.All.{Below}
use Rattle.lists.specs.Answers.{Checks}
use Rattle.refusals.specs.Gives.{Gives}
use Rattle.refusals.specs.declared.Refusal.{Refusal}
use Rattle.lists.specs.Tables.{tab}
use Rattle.field.specs.Binary.{degree}
use Rattle.field.specs.Checks.{modulus_checks}
use Rattle.field.specs.Laws.{Ops}
use Rattle.field.specs.Symbols.{symbols}
use Rattle.poly.specs.Span.{Independent}
use Rattle.poly.specs.Novel.{step, image}
use Rattle.space.specs.declared.Tables.{Tables}
use Rattle.space.specs.declared.Setting.{Setting}
use Rattle.space.specs.Sizes.{max_dim, cells}

-- checks 3 and 4: the number of basis elements, the elements, and then the shift σ
abbrev pub basis_checks : ℕ → List ℕ → ℕ → Checks
basis_checks m bs σ = (3, (length bs < 3) ⊎ (max_dim < length bs)) ∷ (4, (Below (2 ^ degree m) bs → ⊥)) ∷ (4, (σ < 2 ^ degree m → ⊥)) ∷ []

-- check 5
abbrev pub span_checks : ℕ → List ℕ → Checks
span_checks m bs = (5, (Independent (symbols m) bs → ⊥)) ∷ []

-- checks 3 to 5
abbrev pub space_checks : ℕ → List ℕ → ℕ → Checks
space_checks m bs σ = basis_checks m bs σ ++ span_checks m bs

-- checks 1 to 5
abbrev pub setting_checks : ℕ → List ℕ → ℕ → Checks
setting_checks m bs σ = modulus_checks m ++ space_checks m bs σ

-- ---- the tables of a basis; past its end each entry is 0

module _ (K : Ops) (bs : List ℕ) where
  -- the image of number j of b_(i+1) at 16 i + j
  abbrev pub images_of : List ℕ
  images_of = tab cells (λ p. image K bs (p % 16) (get_or bs (p / 16) 0))

  abbrev pub steps_of : List ℕ
  steps_of = tab 16 (step K bs)

  abbrev pub inverses_of : List ℕ
  inverses_of = tab 16 (λ j. K.inv (step K bs j))

unfoldable pub tables_of : Ops → List ℕ → Tables
tables_of K bs = record { images = images_of K bs; steps = steps_of K bs; inverses = inverses_of K bs }

-- the tables of an independent basis
abbrev pub Tabled : ℕ → List ℕ → Option Tables → Type 0
Tabled m bs (Some t) = Independent (symbols m) bs × (t ≡ tables_of (symbols m) bs)
Tabled m bs None = Independent (symbols m) bs → ⊥

-- ---- the setting

unfoldable pub padded_of : List ℕ → List ℕ
padded_of bs = tab 16 (λ i. get_or bs i 0)

unfoldable pub setting_of : ℕ → List ℕ → ℕ → Setting
setting_of m bs σ =
    record {
      field = record { modulus = m; degree = degree m };
      space = record { k = length bs; images = images_of (symbols m) bs };
      basis = padded_of bs;
      shift = σ;
      steps = steps_of (symbols m) bs;
      inverses = inverses_of (symbols m) bs;
    }

-- the setting; or the first check that refuses
abbrev pub SettledBy : Checks → ℕ → List ℕ → ℕ → Result Setting Refusal → Type 0
SettledBy cs m bs σ = Gives cs (λ s. s ≡ setting_of m bs σ)

abbrev pub Settled : ℕ → List ℕ → ℕ → Result Setting Refusal → Type 0
Settled m bs σ = SettledBy (setting_checks m bs σ) m bs σ

-- the same past checks 1 to 4
abbrev pub Made : ℕ → List ℕ → ℕ → Result Setting Refusal → Type 0
Made m bs σ = SettledBy (span_checks m bs) m bs σ
