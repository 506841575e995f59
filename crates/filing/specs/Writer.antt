-- What the writer of a stored file answers: checks 1 to 6 and 9, and then the bytes. Definitions only.
use Rattle.std.specs.Prelude.{◌≡◌, ◌⊎◌, Result, List, [], ◌∷◌, ◌++◌, ℕ, ◌^◌, length}
use Rattle.lists.specs.All.{Below}
use Rattle.lists.specs.Answers.{Checks}
use Rattle.field.specs.Binary.{degree}
use Rattle.space.specs.Setting.{setting_checks}
use Rattle.proximity.specs.Dim.{S}
use Rattle.stored.specs.File.{file_of, file_end}
use Rattle.stored.specs.declared.Form.{Form}
use Rattle.filing.specs.Filed.{Filed}
use Rattle.refusals.specs.declared.Refusal.{Refusal}

-- check 6, of the lengths of word, proof and output
abbrev pub length_checks : Form → ℕ → ℕ → ℕ → ℕ → ℕ → Checks
length_checks form l k word proof out = (6, (word ≡ 2 ^ k → ⊥) ⊎ ((proof ≡ S k → ⊥) ⊎ (out ≡ file_end form l k → ⊥))) ∷ []

-- check 9, of all symbols
abbrev pub range_checks : ℕ → List ℕ → List ℕ → Checks
range_checks m w π = (9, (Below (2 ^ degree m) w × Below (2 ^ degree m) π → ⊥)) ∷ []

-- those of the setting, and then the two
abbrev pub writer_checks : Form → ℕ → List ℕ → ℕ → List ℕ → List ℕ → ℕ → Checks
writer_checks form m bs σ w π out = setting_checks m bs σ ++ length_checks form (degree m) (length bs) (length w) (length π) out ++ range_checks m w π

-- the output becomes the byte string
abbrev pub Wrote : Form → ℕ → List ℕ → ℕ → List ℕ → List ℕ → List ℕ → List ℕ → Result (Unit {0}) Refusal → Type 0
Wrote form m bs σ w π old new = Filed (writer_checks form m bs σ w π (length old)) (file_of form m bs σ w π) old new
