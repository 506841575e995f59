-- The stored file in its two forms: three records, two-byte mark first, and where each stands in the bytes. Definitions only.
use Rattle.std.specs.Prelude.{◌≡◌, Bool, false, List, [], ◌∷◌, ◌++◌, ℕ, ◌+◌, ◌*◌, ◌^◌, ◌≤◌, ltb, eqb, length, get_or}
use Rattle.lists.specs.Pick.{pick}
use Rattle.field.specs.Binary.{degree}
use Rattle.proximity.specs.Dim.{S}
use Rattle.stored.specs.Bytes.{two_bytes, four_bytes, packed, packed_size, two_at, four_at, numbers_at}
use Rattle.stored.specs.declared.Form.{Form}
use Rattle.stored.specs.declared.Form.TheVariants.{One, Two}
use Rattle.stored.specs.declared.Layout.{Layout}

-- ---- the two forms

-- the second byte of each mark: hex 53 45, 57 4F, 50 46 in form 1, hex 53 32, 57 32, 50 32 in form 2
abbrev pub setting_mark : Form → ℕ
setting_mark One = 69
setting_mark Two = 50

abbrev pub word_mark : Form → ℕ
word_mark One = 79
word_mark Two = 50

abbrev pub proof_mark : Form → ℕ
proof_mark One = 70
proof_mark Two = 50

-- whether symbols below 2^l take one byte each: in form 2 where l ≤ 8
abbrev pub narrow_of : Form → ℕ → Bool
narrow_of One l = false
narrow_of Two l = ltb l 9

-- the shift stands after the basis in form 2; form 1 has no place for it
abbrev pub shift_bytes : Form → ℕ → List ℕ
shift_bytes One σ = []
shift_bytes Two σ = two_bytes σ

-- the shifts that a form can carry: form 1 means the shift 0
abbrev pub Carries : Form → ℕ → Type 0
Carries One σ = σ ≡ 0
Carries Two σ = Unit {0}

-- ---- the byte string of a setting, a word and a proof

-- mark, modulus, k, basis, shift
abbrev pub setting_record : Form → ℕ → List ℕ → ℕ → List ℕ
setting_record form m bs σ = 83 ∷ setting_mark form ∷ four_bytes m ++ (length bs ∷ packed false bs ++ shift_bytes form σ)

-- a mark, the count, the symbols, one byte each (true) or two
abbrev pub symbol_record : Bool → ℕ → ℕ → List ℕ → List ℕ
symbol_record t a b xs = a ∷ b ∷ four_bytes (length xs) ++ packed t xs

abbrev pub word_record : Form → ℕ → List ℕ → List ℕ
word_record form l w = symbol_record (narrow_of form l) 87 (word_mark form) w

abbrev pub proof_record : Form → ℕ → List ℕ → List ℕ
proof_record form l π = symbol_record (narrow_of form l) 80 (proof_mark form) π

unfoldable pub file_of : Form → ℕ → List ℕ → ℕ → List ℕ → List ℕ → List ℕ
file_of form m bs σ w π = setting_record form m bs σ ++ (word_record form (degree m) w ++ proof_record form (degree m) π)

-- ---- where the records stand, by the form, the degree of the modulus and the dimension

abbrev pub word_record_at : Form → ℕ → ℕ
word_record_at One k = 7 + 2 * k
word_record_at Two k = 9 + 2 * k

abbrev pub word_start : Form → ℕ → ℕ
word_start form k = word_record_at form k + 6

abbrev pub proof_record_at : Form → ℕ → ℕ → ℕ
proof_record_at form l k = word_start form k + packed_size (narrow_of form l) (2 ^ k)

abbrev pub proof_start : Form → ℕ → ℕ → ℕ
proof_start form l k = proof_record_at form l k + 6

abbrev pub file_end : Form → ℕ → ℕ → ℕ
file_end form l k = proof_start form l k + packed_size (narrow_of form l) (S k)

-- whether symbols take one byte each, where those of the word and of the proof begin, and where the file ends
abbrev pub layout_of : Form → ℕ → ℕ → Layout
layout_of form l k = record { narrow = narrow_of form l; word = word_start form k; proof = proof_start form l k; end = file_end form l k }

-- ---- short files

-- the most bytes of a file that a program takes or makes
abbrev pub file_limit : ℕ
file_limit = 40000

-- the largest dimension whose stored file is within the limit, in either form
abbrev pub small_dim : ℕ
small_dim = 8

-- the length of its proof: `small-proof`
abbrev pub small_proof : ℕ
small_proof = 16128

-- ---- what stands in the bytes f

-- the form, by the first mark: what does not begin as form 2 is read as form 1, and then has to have its mark
unfoldable pub form_in : List ℕ → Form
form_in f = pick (eqb (get_or f 1 0) (setting_mark Two)) Two One

abbrev pub modulus_in : List ℕ → ℕ
modulus_in f = four_at f 2

abbrev pub degree_in : List ℕ → ℕ
degree_in f = degree (modulus_in f)

abbrev pub dim_in : List ℕ → ℕ
dim_in f = get_or f 6 0

unfoldable pub basis_in : List ℕ → List ℕ
basis_in f = numbers_at false f 7 (dim_in f)

-- the shift, by the form
abbrev pub shift_at : Form → List ℕ → ℕ
shift_at One f = 0
shift_at Two f = two_at f (7 + 2 * dim_in f)

unfoldable pub shift_in : List ℕ → ℕ
shift_in f = shift_at (form_in f) f

-- whether its symbols take one byte each
abbrev pub narrow_in : List ℕ → Bool
narrow_in f = narrow_of (form_in f) (degree_in f)

unfoldable pub word_in : List ℕ → List ℕ
word_in f = numbers_at (narrow_in f) f (word_start (form_in f) (dim_in f)) (2 ^ dim_in f)

unfoldable pub proof_in : List ℕ → List ℕ
proof_in f = numbers_at (narrow_in f) f (proof_start (form_in f) (degree_in f) (dim_in f)) (S (dim_in f))

-- where the last record ends
abbrev pub end_in : List ℕ → ℕ
end_in f = file_end (form_in f) (degree_in f) (dim_in f)

-- n bytes stand at p, and the first two are the mark a b
pub record Opens (f : List ℕ) (p n a b : ℕ) : Type 0 where
  pub present : p + n ≤ length f
  pub first : get_or f p 0 ≡ a
  pub second : get_or f (p + 1) 0 ≡ b
