-- What the reader of a stored file answers: its checks, front to back, and then what was read. Definitions only.
use Rattle.std.specs.Prelude.{◌≡◌, ◌⊎◌, Bool, Result, List, [], ◌∷◌, ◌++◌, ℕ, ◌+◌, ◌^◌, ◌<◌, length, take, drop}
use Rattle.std.specs.Borrow.{Bor}
use Rattle.lists.specs.All.{Below}
use Rattle.lists.specs.Answers.{Checks, Passes}
use Rattle.refusals.specs.Gives.{Gives}
use Rattle.refusals.specs.declared.Refusal.{Refusal}
use Rattle.field.specs.Checks.{modulus_checks}
use Rattle.field.specs.Symbols.{symbols}
use Rattle.poly.specs.Span.{Independent}
use Rattle.space.specs.Setting.{setting_of}
use Rattle.space.specs.Sizes.{max_dim}
use Rattle.space.specs.declared.Setting.{Setting}
use Rattle.proximity.specs.Dim.{S}
use Rattle.stored.specs.Bytes.{packed_size, four_at, numbers_at}
use Rattle.stored.specs.File.{setting_mark, word_mark, proof_mark, narrow_of, word_record_at, word_start, proof_record_at, proof_start, form_in, modulus_in, degree_in, dim_in, basis_in, shift_in, narrow_in, end_in, Opens}
use Rattle.stored.specs.declared.Form.{Form}
use Rattle.stored.specs.declared.Reading.{Reading}

-- 3, then basis and shift present (11)
abbrev pub late_checks : List ℕ → Checks
late_checks f = (3, (dim_in f < 3) ⊎ (max_dim < dim_in f)) ∷ (11, length f < word_record_at (form_in f) (dim_in f)) ∷ []

-- mark, modulus and k present (11), then 1, 2, 3 and the presence of basis and shift
abbrev pub head_checks : List ℕ → Checks
head_checks f = (11, (Opens f 0 7 83 (setting_mark (form_in f)) → ⊥)) ∷ modulus_checks (modulus_in f) ++ late_checks f

-- then 4, of the basis elements and of the shift, and 5
abbrev pub basis_checks : List ℕ → Checks
basis_checks f =
    (4, (Below (2 ^ degree_in f) (basis_in f) → ⊥)) ∷ (4, (shift_in f < 2 ^ degree_in f → ⊥)) ∷ (5, (Independent (symbols (modulus_in f)) (basis_in f) → ⊥)) ∷ []

abbrev pub setting_checks : List ℕ → Checks
setting_checks f = head_checks f ++ basis_checks f

-- a record at p of n symbols below 2^l, one byte each (true) or two: mark and count present (11), count right (12), symbols present (11), each below 2^l (9)
abbrev pub record_checks : Bool → List ℕ → ℕ → ℕ → ℕ → ℕ → ℕ → Checks
record_checks t f p a b n l =
    (11, (Opens f p 6 a b → ⊥)) ∷ (12, (four_at f (p + 2) ≡ n → ⊥)) ∷ (11, length f < p + 6 + packed_size t n) ∷ (9, (Below (2 ^ l) (numbers_at t f (p + 6) n) → ⊥)) ∷ []

-- the word's record and the proof's, at dimension k with symbols below 2^l
abbrev pub word_checks : Form → List ℕ → ℕ → ℕ → Checks
word_checks form f k l = record_checks (narrow_of form l) f (word_record_at form k) 87 (word_mark form) (2 ^ k) l

abbrev pub proof_checks : Form → List ℕ → ℕ → ℕ → Checks
proof_checks form f k l = record_checks (narrow_of form l) f (proof_record_at form l k) 80 (proof_mark form) (S k) l

abbrev pub symbol_checks : Form → List ℕ → ℕ → ℕ → Checks
symbol_checks form f k l = word_checks form f k l ++ proof_checks form f k l

-- the three records
abbrev pub prefix_checks : List ℕ → Checks
prefix_checks f = setting_checks f ++ symbol_checks (form_in f) f (dim_in f) (degree_in f)

-- and nothing after them
abbrev pub file_checks : List ℕ → Checks
file_checks f = prefix_checks f ++ ((12, end_in f < length f) ∷ [])

-- ---- what the reader hands back

-- the setting of a setting record that passes
abbrev pub SettingRead : List ℕ → Setting → Type 0
SettingRead f s = Passes (setting_checks f) × (s ≡ setting_of (modulus_in f) (basis_in f) (shift_in f))

-- the form, the setting, whether symbols take one byte each, and the places
unfoldable pub read_of : List ℕ → Reading
read_of f =
    record {
      form = form_in f;
      setting = setting_of (modulus_in f) (basis_in f) (shift_in f);
      narrow = narrow_in f;
      word = word_start (form_in f) (dim_in f);
      proof = proof_start (form_in f) (degree_in f) (dim_in f);
      end = end_in f;
    }

abbrev pub Told : Checks → List ℕ → Result Reading Refusal → Type 0
Told cs f = Gives cs (λ r. r ≡ read_of f)

-- the n bytes from p on of an accepted file
abbrev pub PartTold : List ℕ → ℕ → ℕ → Result (Bor (List ℕ)) Refusal → Type 0
PartTold f p n = Gives (file_checks f) (λ part. part.now ≡ take n (drop p f))
