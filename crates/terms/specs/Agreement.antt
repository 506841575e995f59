-- Sentence 2: encoder, decoder and prover agree with document 000 in the product's symbol order. `Encoded`, `Decoded` and `Proven`
-- are the contracts of the three calls, from what the lent lists held before (old, scratch) to what they hold after (new, left).
use Rattle.std.specs.Prelude.{◌≡◌, Result, Ok, List, ◌++◌, ℕ, length}
use Rattle.std.proofs.Common.{sym, ◌∙◌}
use Rattle.lists.specs.Answers.{Checks, Passes, passes-each}
use Rattle.refusals.specs.declared.Refusal.{Refusal}
use Rattle.field.specs.Symbols.{symbols}
use Rattle.poly.specs.Shift.{word_at}
use Rattle.poly.proofs.Shift.{decode_unique_at}
use Rattle.space.specs.Setting.{setting_checks}
use Rattle.space.specs.Sound.{Sound, sound, sound_field, setting_numbered}
use Rattle.codec.specs.Calls.{length_checks, word_checks, encode_checks, decode_checks, Encoded, CoefficientsAt, Decoded}
use Rattle.prover.specs.Calls as calls
use Rattle.prover.specs.Calls.{prove_checks, ProofAt, Proven}
use Rattle.prover.specs.Determined.{one-proof-at}
use Rattle.terms.specs.Outcomes.{SameEnd, told-end}

module _ (m : ℕ) (bs : List ℕ) (σ : ℕ) where
  -- a call that passes has a sound setting
  setting : (cs : Checks) → Passes (setting_checks m bs σ ++ cs) → Sound m bs σ
  setting cs p = sound m bs σ (passes-each (setting_checks m bs σ) cs (setting_numbered m bs σ) p).0

  -- The encoder: position i of the word is the value of the polynomial at the shift plus element i.
  pub encoder : (p old new scratch left : List ℕ) → Encoded m bs σ p old new scratch left (Ok tt) → new ≡ word_at (symbols m) σ (length bs) bs p
  encoder p old new scratch left e = e.right

  -- The decoder: the coefficients of the one polynomial of degree below n/8 whose values at the shifted elements are the word.
  pub decoder : (w old new scratch left : List ℕ) → Decoded m bs σ w old new scratch left (Ok tt) → CoefficientsAt m bs σ w new
  decoder w old new scratch left d = d.right

  -- The prover: the word holds a polynomial P at the shifted elements, and the proof is that of section 6.2 for P(x + σ) over the span.
  pub prover : (w old new scratch left : List ℕ) → Proven m bs σ w old new scratch left (Ok tt) → ProofAt m bs σ w new
  prover w old new scratch left p = p.right

  -- Each call has one answer and leaves one output and one scratch.
  module _ (p old new new' scratch left left' : List ℕ) (u v : Result (Unit {0}) Refusal) where
    pub one-encoding : Encoded m bs σ p old new scratch left u → Encoded m bs σ p old new' scratch left' v → SameEnd u v new new' left left'
    one-encoding =
        told-end (encode_checks m bs σ p (length old) (length scratch)) (λ w. w ≡ word_at (symbols m) σ (length bs) bs p) (λ c a b e f. e ∙ sym f) old scratch u v new new' left left'

    pub one-decoding : Decoded m bs σ p old new scratch left u → Decoded m bs σ p old new' scratch left' v → SameEnd u v new new' left left'
    one-decoding = told-end (decode_checks m bs σ p (length old) (length scratch)) (CoefficientsAt m bs σ p) one old scratch u v new new' left left'
      where
        one : Passes (decode_checks m bs σ p (length old) (length scratch)) → (a b : List ℕ) → CoefficientsAt m bs σ p a → CoefficientsAt m bs σ p b → a ≡ b
        one c a b e f =
            let s = setting (length_checks (length bs) (length old) (length p) (length scratch) ++ word_checks m bs σ p) c in
            decode_unique_at (sound_field s) σ s.shift (length bs) bs s.basis a b e.count f.count e.elements f.elements (sym e.word-is ∙ f.word-is)

    pub one-proving : Proven m bs σ p old new scratch left u → Proven m bs σ p old new' scratch left' v → SameEnd u v new new' left left'
    one-proving = told-end (prove_checks m bs σ p (length old) (length scratch)) (ProofAt m bs σ p) one old scratch u v new new' left left'
      where
        one : Passes (prove_checks m bs σ p (length old) (length scratch)) → (a b : List ℕ) → ProofAt m bs σ p a → ProofAt m bs σ p b → a ≡ b
        one c = one-proof-at (setting (calls.length_checks (length bs) (length p) (length old) (length scratch) ++ word_checks m bs σ p) c) p
