-- What is delivered in a file, and what a file gives. Assumes nothing.
use Rattle.std.specs.Prelude.{◌≡◌}
use mathlib.Core.List.{List}
use Prim.Native.Nat.{ℕ, ◌^◌}
use Rattle.std.proofs.Math.ListN.{length}
use Rattle.lists.specs.All.{Below}
use Rattle.field.specs.Binary.{degree}
use Rattle.space.specs.Sound.{Sound}
use Rattle.proximity.specs.Dim.{S}
use Rattle.stored.specs.File.{form_in, modulus_in, basis_in, shift_in, word_in, proof_in}
use Rattle.stored.specs.declared.Form.{Form}

-- a word and a proof of the right lengths for a sound setting, all symbols in range
pub record Delivery (m : ℕ) (bs : List ℕ) (σ : ℕ) (w π : List ℕ) : Type 0 where
  pub setting : Sound m bs σ
  pub word : length w ≡ 2 ^ length bs
  pub proof : length π ≡ S (length bs)
  pub word-symbols : Below (2 ^ degree m) w
  pub proof-symbols : Below (2 ^ degree m) π

-- what is read from f
pub record Gives (f : List ℕ) (g : Form) (m : ℕ) (bs : List ℕ) (σ : ℕ) (w π : List ℕ) : Type 0 where
  pub form : form_in f ≡ g
  pub modulus : modulus_in f ≡ m
  pub basis : basis_in f ≡ bs
  pub shift : shift_in f ≡ σ
  pub word : word_in f ≡ w
  pub proof : proof_in f ≡ π
