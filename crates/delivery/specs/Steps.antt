-- Past the checks of a message no call on the way is refused: encoder, prover and writer do what they say. Assumes nothing.
use Rattle.std.specs.Prelude.{◌≡◌, refl, ◌⊎◌, Result, Ok, Err, List, ◌++◌, ℕ, ◌-◌, ◌^◌, ◌≤◌, length}
use Rattle.std.proofs.Common.{ap, ◌∙◌, inl, inr, arith}
use Rattle.lists.specs.All.{All}
use Rattle.lists.specs.Answers.{Checks, Passes, not_refused, answers-after, numbered_append}
use Rattle.lists.specs.Lengths.{lengths-right}
use Rattle.refusals.specs.declared.Refusal.{Refusal}
use Rattle.field.specs.Binary.{degree}
use Rattle.field.specs.Symbols.{symbols}
use Rattle.poly.specs.Shift.{word_at, CodewordAt, shift_p}
use Rattle.space.specs.Setting.{setting_checks}
use Rattle.space.specs.Sound.{Sound, sound_field, sound_passes, setting_numbered}
use Rattle.proximity.specs.Coverage.{all-symbols, all_coins_read}
use Rattle.proximity.specs.Dim.{dim, S}
use Rattle.proximity.specs.Layout.{length_proof}
use Rattle.codec.specs.Calls.{symbol_checks, word_checks, encode_checks, Encoded}
use Rattle.codec.specs.Checks.{early_checks, early_numbered}
use Rattle.codec.specs.RoundTrip.{word-passes, length_word}
use Rattle.codec.specs.Scratch.{scratch_for}
use Rattle.prover.specs.Calls.{prove_checks, ProofAt, Proven}
use Rattle.prover.specs.Determined.{proof_shift}
use Rattle.stored.specs.File.{file_of, file_end}
use Rattle.stored.specs.Whole.{Delivery}
use Rattle.stored.specs.declared.Form.{Form}
use Rattle.filing.specs.Writer.{writer_checks, Wrote}
use Rattle.filing.specs.WriterLaws.{range_answer}
use Rattle.delivery.specs.Parts.{Coefficients}

module _ (m : ℕ) (bs : List ℕ) (σ : ℕ) (s : Sound m bs σ) where
  abbrev k : ℕ
  k = length bs

  -- ---- the encoder

  pub encoded : (xs old new scratch left : List ℕ) (r : Result (Unit {0}) Refusal) → Coefficients m bs xs → length old ≡ 2 ^ k → scratch_for k ≤ length scratch
      → Encoded m bs σ xs old new scratch left r → new ≡ word_at (symbols m) σ k bs xs
  encoded xs old new scratch left r c lo ls = by r
    where
      fine : Passes (encode_checks m bs σ xs (length old) (length scratch))
      fine =
          answers-after (early_checks m bs σ (length xs) (length old) (length scratch)) (symbol_checks m xs) 0 (early_numbered m bs σ (length xs) (length old) (length scratch))
          (answers-after (setting_checks m bs σ) (Rattle.codec.specs.Calls.length_checks k (length xs) (length old) (length scratch)) 0 (setting_numbered m bs σ) (sound_passes m bs σ s)
          (lengths-right (length xs) (2 ^ (k - 3)) (length old) (2 ^ k) (length scratch) (scratch_for k) c.count lo ls))
          (inr ((λ f. f c.symbols), refl))

      by : (r : Result (Unit {0}) Refusal) → Encoded m bs σ xs old new scratch left r → new ≡ word_at (symbols m) σ k bs xs
      by (Ok u) e = e.right
      by (Err d) e = absurd (not_refused (encode_checks m bs σ xs (length old) (length scratch)) fine e.refuses)

  -- ---- the prover

  pub proven : (w old new scratch left : List ℕ) (r : Result (Unit {0}) Refusal) → CodewordAt (symbols m) σ k bs w → length old ≡ S k → scratch_for k ≤ length scratch
      → Proven m bs σ w old new scratch left r → ProofAt m bs σ w new
  proven w old new scratch left r (P, lp, sp, e) lo ls = by r
    where
      lengths : Checks
      lengths = Rattle.prover.specs.Calls.length_checks k (length w) (length old) (length scratch)

      fine : Passes (prove_checks m bs σ w (length old) (length scratch))
      fine =
          answers-after (setting_checks m bs σ ++ lengths) (word_checks m bs σ w) 0
          (numbered_append (setting_checks m bs σ) lengths (setting_numbered m bs σ) (omega arith, (omega arith, tt)))
          (answers-after (setting_checks m bs σ) lengths 0 (setting_numbered m bs σ) (sound_passes m bs σ s)
          (lengths-right (length w) (2 ^ k) (length old) (S k) (length scratch) (scratch_for k) (length_word m bs σ s P w e) lo ls))
          (word-passes m bs σ s P w lp sp e)

      by : (r : Result (Unit {0}) Refusal) → Proven m bs σ w old new scratch left r → ProofAt m bs σ w new
      by (Ok u) t = t.right
      by (Err d) t = absurd (not_refused (prove_checks m bs σ w (length old) (length scratch)) fine t.refuses)

  -- ---- the writer

  -- a word and its proof are a delivery
  pub delivery : (w π : List ℕ) → ProofAt m bs σ w π → Delivery m bs σ w π
  delivery w π (P, H) =
      record { setting = s; word = lw; proof = lπ; word-symbols = both.0; proof-symbols = both.1 }
    where
      lw : length w ≡ 2 ^ k
      lw = length_word m bs σ s P w H.word

      lπ : length π ≡ S k
      lπ = ap length H.proof ∙ length_proof (symbols m) k bs (shift_p (symbols m) σ P)

      both : All (symbols m).Sym w × All (symbols m).Sym π
      both =
          all-symbols (symbols m).Sym (dim k) w π lw lπ
          (λ coin h. ((all_coins_read (sound_field s) (dim k) bs w π s.basis lw lπ).1 ((proof_shift s w π).0 (P, H)) coin h).0)

  pub written : (form : Form) (w π old new : List ℕ) (r : Result (Unit {0}) Refusal) → ProofAt m bs σ w π → length old ≡ file_end form (degree m) k
      → Wrote form m bs σ w π old new r → new ≡ file_of form m bs σ w π
  written form w π old new r p lo = by r
    where
      d : Delivery m bs σ w π
      d = delivery w π p

      right : (length w ≡ 2 ^ k → ⊥) ⊎ ((length π ≡ S k → ⊥) ⊎ (length old ≡ file_end form (degree m) k → ⊥)) → ⊥
      right (inl f) = f d.word
      right (inr (inl f)) = f d.proof
      right (inr (inr f)) = f lo

      fine : Passes (writer_checks form m bs σ w π (length old))
      fine = range_answer form m bs σ w π (length old) (sound_passes m bs σ s) (inr (right, refl)) 0 (inr ((λ f. f (d.word-symbols, d.proof-symbols)), refl))

      by : (r : Result (Unit {0}) Refusal) → Wrote form m bs σ w π old new r → new ≡ file_of form m bs σ w π
      by (Ok u) t = t.1
      by (Err e) t = absurd (not_refused (writer_checks form m bs σ w π (length old)) fine t.0)
