-- The nearest codeword of a word, in a setting that passed its checks.
use Rattle.std.specs.Prelude.{◌≡◌, ◌⊎◌, Result, Ok, Err, List, ℕ, ◌*◌, ◌^◌, ◌≤◌, length}
use Rattle.lists.specs.All.{Below}
use Rattle.field.specs.Binary.{degree}
use Rattle.field.specs.Symbols.{symbols}
use Rattle.refusals.specs.declared.Refusal.{Refusal}
use Rattle.refusals.specs.declared.Refusal.TheVariants.{NoSymbol, Far}
use Rattle.space.specs.Ready.{Ready}
use Rattle.space.specs.declared.Setting.{Setting}
use Rattle.correction.specs.Differences.{differences}
use Rattle.correction.specs.Near.{Near, NoneNear}
use Rattle.correction.specs.Scratch.{scratch_words}

-- the near codeword with its number of differences; or 13, and the output as it came
abbrev pub NearestWith : Setting → List ℕ → List ℕ → List ℕ → Result ℕ Refusal → Type 0
NearestWith s word old new (Ok count) =
    ((bs : List ℕ) → Ready s.field.modulus bs s → Near (symbols s.field.modulus) (length bs) bs word new) × (count ≡ differences word new)
NearestWith s word old new (Err e) =
    (e ≡ Far) × ((bs : List ℕ) → Ready s.field.modulus bs s → NoneNear (symbols s.field.modulus) (length bs) bs word) × (new ≡ old)

-- a setting that passed its checks, and the lengths that checks 6 and 7 ask for
pub record InPlaces (s : Setting) (word corrected scratch : List ℕ) : Type 0 where
  pub basis : List ℕ
  pub ready : Ready s.field.modulus basis s
  pub whole : length word ≡ 2 ^ s.space.k
  pub same : length corrected ≡ length word
  pub room : scratch_words * length word ≤ length scratch

-- the same behind check 9
abbrev pub CorrectedWith : Setting → List ℕ → List ℕ → List ℕ → Result ℕ Refusal → Type 0
CorrectedWith s word old new r =
    (Below (2 ^ degree s.field.modulus) word × NearestWith s word old new r)
    ⊎ ((r ≡ Err NoSymbol) × (Below (2 ^ degree s.field.modulus) word → ⊥) × (new ≡ old))
