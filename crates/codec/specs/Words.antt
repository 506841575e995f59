-- Words from coefficients and back, in a setting that passed its checks.
use Rattle.std.specs.Prelude.{◌≡◌, ◌⊎◌, List, ℕ, ◌-◌, ◌^◌, ◌≤◌, length, Result, Ok, Err}
use Rattle.lists.specs.All.{Below}
use Rattle.field.specs.Binary.{degree}
use Rattle.field.specs.Symbols.{symbols}
use Rattle.poly.specs.Codeword.{Codeword}
use Rattle.poly.specs.Shift.{word_at, CodewordAt}
use Rattle.poly.specs.Blocks.{block_coeffs}
use Rattle.refusals.specs.declared.Refusal.{Refusal}
use Rattle.refusals.specs.declared.Refusal.TheVariants.{NoSymbol, NoCodeword}
use Rattle.space.specs.Ready.{Ready}
use Rattle.space.specs.declared.Setting.{Setting}
use Rattle.codec.specs.Calls.{CoefficientsAt}
use Rattle.transform.specs.Blocks.{block}
use Rattle.codec.specs.Scratch.{scratch_for}

-- the lengths that check 6 and check 7 ask for
pub record Lengths (s : Setting) (coefficients word scratch : List ℕ) : Type 0 where
  pub eighth : length coefficients ≡ 2 ^ (s.space.k - 3)
  pub whole : length word ≡ 2 ^ s.space.k
  pub room : scratch_for s.space.k ≤ length scratch

-- the word is a codeword, and lane 0 has the coefficients of its block 0
abbrev pub InBlockZero : Setting → List ℕ → List ℕ → List ℕ → Type 0
InBlockZero s bs word scratch =
    Below (2 ^ degree s.field.modulus) word × (length word ≡ 2 ^ s.space.k) × Codeword (symbols s.field.modulus) s.space.k bs word
    × (block s.space.k 0 scratch ≡ block_coeffs (symbols s.field.modulus) s.space.k bs word 0)

-- the word of the coefficients; or a coefficient is no symbol, and the word as it came
abbrev pub EncodedWith : Setting → List ℕ → List ℕ → List ℕ → Result (Unit {0}) Refusal → Type 0
EncodedWith s p old new (Ok u) =
    Below (2 ^ degree s.field.modulus) p
    × ((bs : List ℕ) → Ready s.field.modulus bs s → new ≡ word_at (symbols s.field.modulus) s.shift (length bs) bs p)
EncodedWith s p old new (Err e) = (e ≡ NoSymbol) × (Below (2 ^ degree s.field.modulus) p → ⊥) × (new ≡ old)

-- the coefficients of the word; or no symbols or no codeword, and the coefficients as they came
abbrev pub DecodedWith : Setting → List ℕ → List ℕ → List ℕ → Result (Unit {0}) Refusal → Type 0
DecodedWith s word old new (Ok u) =
    Below (2 ^ degree s.field.modulus) word × ((bs : List ℕ) → Ready s.field.modulus bs s → CoefficientsAt s.field.modulus bs s.shift word new)
DecodedWith s word old new (Err e) =
    ((e ≡ NoSymbol) × (Below (2 ^ degree s.field.modulus) word → ⊥) × (new ≡ old))
    ⊎ ((e ≡ NoCodeword) × Below (2 ^ degree s.field.modulus) word
    × ((bs : List ℕ) → Ready s.field.modulus bs s → CodewordAt (symbols s.field.modulus) s.shift (length bs) bs word → ⊥) × (new ≡ old))
