-- The calls of the encoder and the decoder: the order of their checks, and what they leave.
use Rattle.std.specs.Prelude.{◌≡◌, ◌⊎◌, ◌≢◌, List, [], ◌∷◌, ◌++◌, ℕ, ◌-◌, ◌^◌, ◌<◌, length, Result, Ok, Err}
use Rattle.lists.specs.All.{All, Below}
use Rattle.lists.specs.Answers.{Checks}
use Rattle.lists.specs.Calls.{Accepted, RefusedWith}
use Rattle.field.specs.Binary.{degree}
use Rattle.field.specs.Symbols.{symbols}
use Rattle.poly.specs.Shift.{word_at, CodewordAt}
use Rattle.space.specs.Setting.{setting_checks}
use Rattle.refusals.specs.Refusal.{number}
use Rattle.refusals.specs.declared.Refusal.{Refusal}
use Rattle.codec.specs.Scratch.{scratch_for}

-- checks 6 and 7 at dimension k, of the lengths of the coefficients, the word and the scratch
abbrev pub length_checks : ℕ → ℕ → ℕ → ℕ → Checks
length_checks k coefficients word scratch = (6, (coefficients ≢ 2 ^ (k - 3)) ⊎ (word ≢ 2 ^ k)) ∷ (7, scratch < scratch_for k) ∷ []

-- check 9, of symbols that are read
abbrev pub symbol_checks : ℕ → List ℕ → Checks
symbol_checks m xs = (9, (Below (2 ^ degree m) xs → ⊥)) ∷ []

-- checks 9 and 10, at the shift σ
abbrev pub word_checks : ℕ → List ℕ → ℕ → List ℕ → Checks
word_checks m bs σ word = (9, (Below (2 ^ degree m) word → ⊥)) ∷ (10, (CodewordAt (symbols m) σ (length bs) bs word → ⊥)) ∷ []

-- the checks of the encoder
abbrev pub encode_checks : ℕ → List ℕ → ℕ → List ℕ → ℕ → ℕ → Checks
encode_checks m bs σ coefficients word scratch = setting_checks m bs σ ++ length_checks (length bs) (length coefficients) word scratch ++ symbol_checks m coefficients

-- the checks of the decoder
abbrev pub decode_checks : ℕ → List ℕ → ℕ → List ℕ → ℕ → ℕ → Checks
decode_checks m bs σ word coefficients scratch = setting_checks m bs σ ++ length_checks (length bs) coefficients (length word) scratch ++ word_checks m bs σ word

-- what the answer says of the output and of the scratch
abbrev pub Told : Checks → (List ℕ → Type 0) → List ℕ → List ℕ → List ℕ → List ℕ → Result (Unit {0}) Refusal → Type 0
Told cs Right old new scratch left (Ok u) = Accepted cs Right new scratch left
Told cs Right old new scratch left (Err e) = RefusedWith cs (number e) old new scratch left

-- the word of the coefficients at the shift
abbrev pub Encoded : ℕ → List ℕ → ℕ → List ℕ → List ℕ → List ℕ → List ℕ → List ℕ → Result (Unit {0}) Refusal → Type 0
Encoded m bs σ coefficients old new scratch left =
    Told (encode_checks m bs σ coefficients (length old) (length scratch)) (λ w. w ≡ word_at (symbols m) σ (length bs) bs coefficients) old new scratch left

-- p is the coefficients of the codeword at the shift: there are n/8, and the codeword is theirs. No others have it: `decode_unique_at`
pub record CoefficientsAt (m : ℕ) (bs : List ℕ) (σ : ℕ) (word p : List ℕ) : Type 0 where
  pub count : length p ≡ 2 ^ (length bs - 3)
  pub elements : All (symbols m).Sym p
  pub word-is : word ≡ word_at (symbols m) σ (length bs) bs p

-- the coefficients of the word at the shift
abbrev pub Decoded : ℕ → List ℕ → ℕ → List ℕ → List ℕ → List ℕ → List ℕ → List ℕ → Result (Unit {0}) Refusal → Type 0
Decoded m bs σ word old new scratch left =
    Told (decode_checks m bs σ word (length old) (length scratch)) (CoefficientsAt m bs σ word) old new scratch left
