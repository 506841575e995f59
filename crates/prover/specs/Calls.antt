-- The call of the prover: the order of its checks, and what it leaves.
use Rattle.std.specs.Prelude.{◌≡◌, ◌⊎◌, ◌≢◌, List, [], ◌∷◌, ◌++◌, ℕ, ◌^◌, ◌≤◌, ◌<◌, length, Result, Ok, Err}
use Rattle.lists.specs.All.{Below}
use Rattle.lists.specs.Answers.{Checks}
use Rattle.field.specs.Binary.{degree}
use Rattle.field.specs.Symbols.{symbols}
use Rattle.poly.specs.Codeword.{Codeword}
use Rattle.refusals.specs.declared.Refusal.{Refusal}
use Rattle.refusals.specs.declared.Refusal.TheVariants.{NoSymbol, NoCodeword}
use Rattle.space.specs.Ready.{Ready}
use Rattle.space.specs.Setting.{setting_checks}
use Rattle.space.specs.declared.Setting.{Setting}
use Rattle.proximity.specs.Dim.{dim, S}
use Rattle.proximity.specs.Proof.{Honest}
use Rattle.proximity.specs.Shifted.{HonestAt}
use Rattle.codec.specs.Calls.{word_checks, Told}
use Rattle.codec.specs.Scratch.{scratch_for}

-- checks 6 and 7 at dimension k, of the lengths of the word, the proof and the scratch
abbrev pub length_checks : ℕ → ℕ → ℕ → ℕ → Checks
length_checks k word proof scratch = (6, (word ≢ 2 ^ k) ⊎ (proof ≢ S k)) ∷ (7, scratch < scratch_for k) ∷ []

-- the checks of the prover: 1 to 7, 9 and 10
abbrev pub prove_checks : ℕ → List ℕ → ℕ → List ℕ → ℕ → ℕ → Checks
prove_checks m bs σ word proof scratch = setting_checks m bs σ ++ length_checks (length bs) (length word) proof scratch ++ word_checks m bs σ word

-- the word evaluates a polynomial P, of degree below n/8, at the shifted elements, and π is the proof of P(x + σ)
abbrev pub ProofAt : ℕ → List ℕ → ℕ → List ℕ → List ℕ → Type 0
ProofAt m bs σ word π = (P : List ℕ) × HonestAt (symbols m) σ (dim (length bs)) bs word π P

-- the proof of the word at the shift
abbrev pub Proven : ℕ → List ℕ → ℕ → List ℕ → List ℕ → List ℕ → List ℕ → List ℕ → Result (Unit {0}) Refusal → Type 0
Proven m bs σ word old new scratch left = Told (prove_checks m bs σ word (length old) (length scratch)) (ProofAt m bs σ word) old new scratch left

-- ---- past check 7: the word has the same proof at each shift, so that none is seen here

-- π is the proof of the polynomial, of degree below n/8, whose values at the elements of the span are the word
abbrev pub ProofOf : ℕ → List ℕ → List ℕ → List ℕ → Type 0
ProofOf m bs word π = (P : List ℕ) × Honest (symbols m) (dim (length bs)) bs word π P

-- a setting that passed its checks, and the lengths that checks 6 and 7 ask for
pub record InSetting (s : Setting) (word proof scratch : List ℕ) : Type 0 where
  pub basis : List ℕ
  pub ready : Ready s.field.modulus basis s
  pub whole : length word ≡ 2 ^ s.space.k
  pub size : length proof ≡ S s.space.k
  pub room : scratch_for s.space.k ≤ length scratch

-- the proof of the word; or no symbols or no codeword, and the proof as it came
abbrev pub ProvenWith : Setting → List ℕ → List ℕ → List ℕ → Result (Unit {0}) Refusal → Type 0
ProvenWith s word old new (Ok u) =
    Below (2 ^ degree s.field.modulus) word × ((bs : List ℕ) → Ready s.field.modulus bs s → ProofOf s.field.modulus bs word new)
ProvenWith s word old new (Err e) =
    ((e ≡ NoSymbol) × (Below (2 ^ degree s.field.modulus) word → ⊥) × (new ≡ old))
    ⊎ ((e ≡ NoCodeword) × Below (2 ^ degree s.field.modulus) word
    × ((bs : List ℕ) → Ready s.field.modulus bs s → Codeword (symbols s.field.modulus) (length bs) bs word → ⊥) × (new ≡ old))
