-- The message file, a setting record of either form and a coefficient record, and what the maker of a delivery answers. Definitions only.
use Rattle.std.specs.Prelude.{◌≡◌, ◌⊎◌, false, Result, Ok, Err, List, [], ◌∷◌, ◌++◌, ℕ, ◌+◌, ◌*◌, ◌-◌, ◌^◌, ◌<◌, length, drop}
use Rattle.lists.specs.Answers.{Checks, Passes, Refuses}
use Rattle.field.specs.Symbols.{symbols}
use Rattle.poly.specs.Shift.{word_at}
use Rattle.stored.specs.Bytes.{numbers_at}
use Rattle.stored.specs.File.{file_of, word_record_at, file_limit, form_in, modulus_in, degree_in, dim_in, basis_in, shift_in, end_in}
use Rattle.stored.specs.Reader.{setting_checks, record_checks}
use Rattle.stored.specs.declared.Form.{Form}
use Rattle.prover.specs.Calls.{ProofAt}
use Rattle.refusals.specs.Refusal.{number}
use Rattle.refusals.specs.declared.Refusal.{Refusal}

-- ---- where the coefficient record stands: after the setting record, as the word's record in a stored file

abbrev pub coefficient_record_at : Form → ℕ → ℕ
coefficient_record_at form k = word_record_at form k

abbrev pub coefficients_at : Form → ℕ → ℕ
coefficients_at form k = coefficient_record_at form k + 6

-- a coefficient takes two bytes in either form
abbrev pub message_end : Form → ℕ → ℕ
message_end form k = coefficients_at form k + 2 * 2 ^ (k - 3)

-- the coefficients that stand in the message t
unfoldable pub coefficients_in : List ℕ → List ℕ
coefficients_in t = numbers_at false t (coefficients_at (form_in t) (dim_in t)) (2 ^ (dim_in t - 3))

-- the word of the message, at its shift
abbrev pub word_from : List ℕ → List ℕ
word_from t = word_at (symbols (modulus_in t)) (shift_in t) (length (basis_in t)) (basis_in t) (coefficients_in t)

-- ---- the checks, front to back

-- 6: the stored file exceeds the limit, or the room
abbrev pub room_checks : ℕ → ℕ → Checks
room_checks end room = (6, (file_limit < end) ⊎ (room < end)) ∷ []

-- the coefficient record, mark hex 43 4F (11, 12, 11, 9), and nothing after it (12)
abbrev pub coefficient_checks : Form → List ℕ → ℕ → ℕ → Checks
coefficient_checks form t k l = record_checks false t (coefficient_record_at form k) 67 79 (2 ^ (k - 3)) l ++ ((12, message_end form k < length t) ∷ [])

-- 6, then the coefficient record
abbrev pub rest_checks : List ℕ → ℕ → Checks
rest_checks t room = room_checks (end_in t) room ++ coefficient_checks (form_in t) t (dim_in t) (degree_in t)

-- the setting record (11, 1, 2, 3, 11, 4, 4, 5), then the rest
abbrev pub message_checks : List ℕ → ℕ → Checks
message_checks t room = setting_checks t ++ rest_checks t room

-- ---- the answer

-- the first n bytes become the stored file of the message's word and its proof; refused, the output is as it came
abbrev pub Told : List ℕ → List ℕ → List ℕ → Result ℕ Refusal → Type 0
Told t old new (Ok n) =
    Passes (message_checks t (length old)) × (n ≡ end_in t)
    × ((π : List ℕ) × ProofAt (modulus_in t) (basis_in t) (shift_in t) (word_from t) π
    × (new ≡ file_of (form_in t) (modulus_in t) (basis_in t) (shift_in t) (word_from t) π ++ drop n old))
Told t old new (Err e) = Refuses (message_checks t (length old)) (number e) × (new ≡ old)
