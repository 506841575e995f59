-- What holds past the checks of a message, and what is then written. Definitions only.
use Rattle.std.specs.Prelude.{◌≡◌, false, List, ℕ, ◌-◌, ◌^◌, ◌≤◌, length}
use Rattle.lists.specs.All.{Below}
use Rattle.field.specs.Binary.{degree}
use Rattle.field.specs.Symbols.{symbols}
use Rattle.poly.specs.Shift.{word_at}
use Rattle.space.specs.Sound.{Sound}
use Rattle.stored.specs.File.{file_of, small_dim, form_in, modulus_in, degree_in, dim_in, basis_in, shift_in}
use Rattle.stored.specs.Passed.{Head, Held}
use Rattle.stored.specs.declared.Form.{Form}
use Rattle.prover.specs.Calls.{ProofAt}
use Rattle.delivery.specs.Message.{coefficient_record_at}

-- a sound setting whose stored file is within the limit
pub record Small (m : ℕ) (bs : List ℕ) (σ : ℕ) : Type 0 where
  pub sound : Sound m bs σ
  pub few : length bs ≤ small_dim

-- n/8 coefficients
pub record Coefficients (m : ℕ) (bs xs : List ℕ) : Type 0 where
  pub count : length xs ≡ 2 ^ (length bs - 3)
  pub symbols : Below (2 ^ degree m) xs

-- both records of the message
pub record Passed (t : List ℕ) : Type 0 where
  pub head : Head t
  pub setting : Small (modulus_in t) (basis_in t) (shift_in t)
  pub coefficients : Held false t (coefficient_record_at (form_in t) (dim_in t)) 67 79 (2 ^ (dim_in t - 3)) (degree_in t)

-- the stored file, in a form, of the coefficients' word and its proof
abbrev pub StoredFile : Form → ℕ → List ℕ → ℕ → List ℕ → List ℕ → Type 0
StoredFile form m bs σ xs file =
    (π : List ℕ) × ProofAt m bs σ (word_at (symbols m) σ (length bs) bs xs) π × (file ≡ file_of form m bs σ (word_at (symbols m) σ (length bs) bs xs) π)
