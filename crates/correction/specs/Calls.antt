-- The call: the order of its checks, and what it leaves.
use Rattle.std.specs.Prelude.{◌≡◌, ◌⊎◌, ◌≢◌, Result, Ok, Err, List, [], ◌∷◌, ◌++◌, ℕ, ◌^◌, ◌<◌, length}
use Rattle.lists.specs.All.{Below}
use Rattle.lists.specs.Answers.{Checks}
use Rattle.lists.specs.Calls.{Accepted, RefusedWith}
use Rattle.field.specs.Binary.{degree}
use Rattle.field.specs.Symbols.{symbols}
use Rattle.refusals.specs.Refusal.{number}
use Rattle.refusals.specs.declared.Refusal.{Refusal}
use Rattle.space.specs.Setting.{setting_checks}
use Rattle.correction.specs.Differences.{differences}
use Rattle.correction.specs.Near.{NearAt, NoneNearAt}
use Rattle.correction.specs.Scratch.{correction_scratch}

-- checks 6 and 7 at dimension k, of the lengths of the word, the output and the scratch
abbrev pub length_checks : ℕ → ℕ → ℕ → ℕ → Checks
length_checks k word corrected scratch = (6, (word ≢ 2 ^ k) ⊎ (corrected ≢ 2 ^ k)) ∷ (7, scratch < correction_scratch k) ∷ []

-- checks 9 and 13
abbrev pub near_checks : ℕ → List ℕ → ℕ → List ℕ → Checks
near_checks m bs σ word = (9, (Below (2 ^ degree m) word → ⊥)) ∷ (13, NoneNearAt (symbols m) σ (length bs) bs word) ∷ []

-- the checks of the call
abbrev pub correct_checks : ℕ → List ℕ → ℕ → List ℕ → ℕ → ℕ → Checks
correct_checks m bs σ word corrected scratch = setting_checks m bs σ ++ length_checks (length bs) (length word) corrected scratch ++ near_checks m bs σ word

-- c is the near codeword, and n the number of its differences from the word
pub record Corrects (m : ℕ) (bs : List ℕ) (σ : ℕ) (word : List ℕ) (n : ℕ) (c : List ℕ) : Type 0 where
  pub near : NearAt (symbols m) σ (length bs) bs word c
  pub count : n ≡ differences word c

-- what an answer says of the output and of the scratch
abbrev pub CorrectedWord : ℕ → List ℕ → ℕ → List ℕ → List ℕ → List ℕ → List ℕ → List ℕ → Result ℕ Refusal → Type 0
CorrectedWord m bs σ word old new scratch left (Ok n) = Accepted (correct_checks m bs σ word (length old) (length scratch)) (Corrects m bs σ word n) new scratch left
CorrectedWord m bs σ word old new scratch left (Err e) = RefusedWith (correct_checks m bs σ word (length old) (length scratch)) (number e) old new scratch left
