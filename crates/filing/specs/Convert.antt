-- What the converter between the two forms answers. Definitions only.
use Rattle.std.specs.Prelude.{◌≡◌, Result, List, [], ◌∷◌, ◌++◌, ℕ, length}
use Rattle.lists.specs.Answers.{Checks}
use Rattle.stored.specs.File.{file_of, file_end, form_in, modulus_in, degree_in, dim_in, basis_in, shift_in, word_in, proof_in}
use Rattle.stored.specs.Reader.{file_checks}
use Rattle.stored.specs.declared.Form.{Form}
use Rattle.stored.specs.declared.Form.TheVariants.{One, Two}
use Rattle.filing.specs.Filed.{Filed}
use Rattle.refusals.specs.Gives.{Gives}
use Rattle.refusals.specs.declared.Refusal.{Refusal}

abbrev pub other : Form → Form
other One = Two
other Two = One

-- the file of the other form, with the shift 0, and its length
abbrev pub converted : List ℕ → List ℕ
converted f = file_of (other (form_in f)) (modulus_in f) (basis_in f) 0 (word_in f) (proof_in f)

abbrev pub converted_end : List ℕ → ℕ
converted_end f = file_end (other (form_in f)) (degree_in f) (dim_in f)

-- the file's checks, then 14: a shift other than 0, which a file of form 2 alone can have
abbrev pub shift_checks : List ℕ → Checks
shift_checks f = file_checks f ++ ((14, (shift_in f ≡ 0 → ⊥)) ∷ [])

-- then 6, of the output's length
abbrev pub convert_checks : List ℕ → ℕ → Checks
convert_checks f out = shift_checks f ++ ((6, (out ≡ converted_end f → ⊥)) ∷ [])

-- the output becomes the file of the other form
abbrev pub Converted : List ℕ → List ℕ → List ℕ → Result (Unit {0}) Refusal → Type 0
Converted f old new = Filed (convert_checks f (length old)) (converted f) old new

-- ---- how long it will be

abbrev pub LengthTold : List ℕ → Result ℕ Refusal → Type 0
LengthTold f = Gives (shift_checks f) (λ n. n ≡ converted_end f)
