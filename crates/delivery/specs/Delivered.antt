-- What is delivered: the outcome is determined, and the stored file is accepted and gives back what it was made of. Assumes nothing.
use Rattle.std.specs.Prelude.{◌≡◌, Result, Ok, Err, List, ◌++◌, ℕ, ◌≤◌, length, take, drop}
use Rattle.std.proofs.Common.{sym, ap, ap₂, ◌∙◌, subst, arith, take_at}
use Rattle.lists.specs.Answers.{Checks, Passes, answers_one, not_refused}
use Rattle.refusals.specs.Gives.{one_reason}
use Rattle.refusals.specs.declared.Refusal.{Refusal}
use Rattle.space.specs.Sound.{Sound}
use Rattle.stored.specs.File.{file_of, file_end, form_in, modulus_in, degree_in, basis_in, shift_in}
use Rattle.stored.specs.Passed.{length_basis}
use Rattle.stored.specs.Reader.{file_checks}
use Rattle.stored.specs.Whole.{Delivery, Gives}
use Rattle.stored.proofs.Written.{length_file, file_accepted, file_gives}
use Rattle.prover.specs.Calls.{ProofAt}
use Rattle.prover.specs.Determined.{one-proof-at}
use Rattle.delivery.specs.Steps.{delivery}
use Rattle.delivery.specs.Message.{word_from, message_checks, Told}
use Rattle.delivery.specs.MessageLaws.{message_carries, message_passed}

module _ (t old : List ℕ) where
  abbrev checks : Checks
  checks = message_checks t (length old)

  -- the stored file of the message with the proof π
  abbrev file : List ℕ → List ℕ
  file π = file_of (form_in t) (modulus_in t) (basis_in t) (shift_in t) (word_from t) π

  message_sound : Passes checks → Sound (modulus_in t) (basis_in t) (shift_in t)
  message_sound p = (message_passed t (length old) p).0.setting.sound

  -- the bytes written fit
  pub written-fits : (new : List ℕ) (n : ℕ) → Told t old new (Ok n) → n ≤ length old
  written-fits new n (p, e, f) = omega (arith, (message_passed t (length old) p).1)

  -- two answers to one call are the same, and leave the same output
  pub one-delivery : (new new' : List ℕ) (r r' : Result ℕ Refusal) → Told t old new r → Told t old new' r' → (r ≡ r') × (new ≡ new')
  one-delivery new new' (Ok n) (Ok n') (p, e, (π, P, f)) (p', e', (ρ, R, f')) =
      let same : n ≡ n' = e ∙ sym e' in
      let one : π ≡ ρ = one-proof-at (message_sound p) (word_from t) π ρ P R in
      (ap Ok same, f ∙ ap₂ (λ (proof : List ℕ) (j : ℕ). file proof ++ drop j old) one same ∙ sym f')
  one-delivery new new' (Ok n) (Err d) (p, e, f) (q, b) = absurd (not_refused checks p q)
  one-delivery new new' (Err d) (Ok n') (q, b) (p, e, f) = absurd (not_refused checks p q)
  one-delivery new new' (Err e) (Err e') (q, b) (q', b') = (ap Err (one_reason (answers_one checks q.1 q'.1)), b ∙ sym b')

  -- the bytes written are accepted by the reader of stored files, and give back form, modulus, basis, shift, word and proof
  pub made_accepted : (new : List ℕ) (n : ℕ) → Told t old new (Ok n)
      → (π : List ℕ) × ProofAt (modulus_in t) (basis_in t) (shift_in t) (word_from t) π × Passes (file_checks (take n new))
      × Gives (take n new) (form_in t) (modulus_in t) (basis_in t) (shift_in t) (word_from t) π
  made_accepted new n (p, e, (π, P, f)) = (
    π,
    P,
    subst (λ (l : List ℕ). Passes (file_checks l)) (sym front) (file_accepted (form_in t) (modulus_in t) (basis_in t) (shift_in t) (word_from t) π d (message_carries t)),
    subst (λ (l : List ℕ). Gives l (form_in t) (modulus_in t) (basis_in t) (shift_in t) (word_from t) π) (sym front)
        (file_gives (form_in t) (modulus_in t) (basis_in t) (shift_in t) (word_from t) π d (message_carries t)),
  )
    where
      d : Delivery (modulus_in t) (basis_in t) (shift_in t) (word_from t) π
      d = delivery (modulus_in t) (basis_in t) (shift_in t) (message_sound p) (word_from t) π P

      front : take n new ≡ file π
      front =
          ap (take n) f
          ∙ take_at (file π) (drop n old) n
          (length_file (form_in t) (modulus_in t) (basis_in t) (shift_in t) (word_from t) π d (message_carries t) ∙ ap (file_end (form_in t) (degree_in t)) (length_basis t) ∙ sym e)
