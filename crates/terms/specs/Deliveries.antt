-- The printed sentences for a delivery from end to end. `Told t old new r` is the contract of delivery's `make` for its answer r on the
-- message file t, with what the lent output held before (old) and holds after (new).
use Rattle.std.specs.Prelude.{◌≡◌, Result, Ok, List, ℕ, take}
use Rattle.std.proofs.Common.{sym}
use Rattle.std.proofs.Math.Path.{transport}
use Rattle.lists.specs.Answers.{Passes}
use Rattle.refusals.specs.declared.Refusal.{Refusal}
use Rattle.stored.specs.File.{form_in, modulus_in, basis_in, shift_in}
use Rattle.stored.specs.Reader.{file_checks}
use Rattle.stored.specs.Whole.{Gives}
use Rattle.prover.specs.Calls.{ProofAt}
use Rattle.delivery.specs.Delivered as delivered
use Rattle.delivery.specs.Message.{word_from, Told}
use Rattle.terms.specs.Files.{AcceptedFromC, accepted_exactly_from-c}

-- The call has one answer and leaves one output.
pub one-delivery : (t old new new' : List ℕ) (r r' : Result ℕ Refusal) → Told t old new r → Told t old new' r' → (r ≡ r') × (new ≡ new')
one-delivery = delivered.one-delivery

-- The bytes written are accepted as a stored file of the message's form, which gives back the message's setting, shift included, the word of
-- its coefficients and the proof of that word; and the call from C accepts the file at every coin.
pub record Delivers (t file : List ℕ) : Type 0 where
  pub accepted : Passes (file_checks file)
  pub proof : List ℕ
  pub of_word : ProofAt (modulus_in t) (basis_in t) (shift_in t) (word_from t) proof
  pub gives : Gives file (form_in t) (modulus_in t) (basis_in t) (shift_in t) (word_from t) proof
  pub at-all_coins : AcceptedFromC file accepted

pub delivers : (t old new : List ℕ) (n : ℕ) → Told t old new (Ok n) → Delivers t (take n new)
delivers t old new n d =
    let (π, P, p, g) = delivered.made_accepted t old new n d in
    record {
      accepted = p;
      proof = π;
      of_word = P;
      gives = g;
      at-all_coins = (accepted_exactly_from-c (take n new) p).1 (transport (λ i. ProofAt (sym g.modulus i) (sym g.basis i) (sym g.shift i) (sym g.word i) (sym g.proof i)) P);
    }
