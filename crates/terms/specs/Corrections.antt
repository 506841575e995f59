-- The call of correction: of a word, the codeword within the radius, and the number of positions put right. `CorrectedWord` is its contract,
-- from what the lent lists held before (old, scratch) to what they hold after (new, left).
use Rattle.std.specs.Prelude.{◌≡◌, refl, ◌↔◌, Result, Ok, Err, List, ◌++◌, ℕ, ◌^◌, ◌≤◌, length}
use Rattle.std.proofs.Common.{sym, ap, ◌∙◌, subst, inl, inr, arith}
use Rattle.lists.specs.All.{Below}
use Rattle.lists.specs.Answers.{Checks, Answers, Passes, answers_one, not_refused, answers-after, passes-each}
use Rattle.lists.specs.Calls.{Within, answer-first}
use Rattle.lists.specs.Lengths.{lengths-right}
use Rattle.refusals.specs.Gives.{one_reason}
use Rattle.refusals.specs.Refusal.{number}
use Rattle.refusals.specs.declared.Refusal.{Refusal}
use Rattle.refusals.specs.declared.Refusal.TheVariants.{Far}
use Rattle.field.specs.Binary.{degree}
use Rattle.field.specs.Symbols.{symbols}
use Rattle.poly.specs.Shift.{CodewordAt}
use Rattle.poly.proofs.Shift.{codeword_shift}
use Rattle.space.specs.Setting.{setting_checks}
use Rattle.space.specs.Sound.{Sound, sound, sound_field, sound_passes, setting_numbered}
use Rattle.correction.specs.Calls.{length_checks, near_checks, correct_checks, CorrectedWord}
use Rattle.correction.specs.Checks.{early_checks, early_numbered, corrected_sound, only_one}
use Rattle.correction.specs.Differences.{differences, differences_self}
use Rattle.correction.specs.Near.{radius, NearAt, NoneNearAt, near_shift, one_near}
use Rattle.correction.specs.Scratch.{correction_scratch}
use Rattle.proximity.specs.Verdict.{codeword_sym}
use Rattle.codec.specs.Calls as codec
use Rattle.codec.specs.Calls.{word_checks, Decoded}
use Rattle.codec.specs.RoundTrip.{word-passes, length_word}
use Rattle.prover.specs.Calls as prover
use Rattle.prover.specs.Calls.{Proven}
use Rattle.terms.specs.Outcomes.{SameEnd, refused_end}

module _ (m : ℕ) (bs : List ℕ) (σ : ℕ) where
  -- the checks of a call
  abbrev checks : List ℕ → List ℕ → List ℕ → Checks
  checks w old scratch = correct_checks m bs σ w (length old) (length scratch)

  -- Of a word of 2^k symbols there are never two codewords within the radius.
  pub one_nearest : Sound m bs σ → (w : List ℕ) → length w ≡ 2 ^ length bs → (c d : List ℕ)
      → NearAt (symbols m) σ (length bs) bs w c → NearAt (symbols m) σ (length bs) bs w d → c ≡ d
  one_nearest s w lw c d near next =
      one_near (sound_field s) (length bs) s.low bs s.basis w lw c d
      ((near_shift (sound_field s) σ s.shift (length bs) bs w c).0 near) ((near_shift (sound_field s) σ s.shift (length bs) bs w d).0 next)

  -- The number told is that of the differences between word and output, and is within the radius.
  pub count-within : (w old new scratch left : List ℕ) (n : ℕ) → CorrectedWord m bs σ w old new scratch left (Ok n)
      → (n ≡ differences w new) × (n ≤ radius (2 ^ length bs))
  count-within w old new scratch left n d = (d.right.count, omega (arith, d.right.count, d.right.near.close))

  -- The call has one answer and leaves one output and one scratch.
  module _ (w old new new' scratch left left' : List ℕ) where
    pub one_correction : (u v : Result ℕ Refusal) → CorrectedWord m bs σ w old new scratch left u → CorrectedWord m bs σ w old new' scratch left' v → SameEnd u v new new' left left'
    one_correction (Ok n) (Ok i) a b =
        record {
          answer = ap Ok (a.right.count ∙ ap (differences w) same ∙ sym b.right.count);
          output = same;
          scratch = a.cleared ∙ sym b.cleared;
        }
      where
        same : new ≡ new'
        same = only_one m bs σ w old new' scratch left' i b new a.right.near
    one_correction (Ok n) (Err e) a r = absurd (not_refused (checks w old scratch) a.passes r.refuses)
    one_correction (Err e) (Ok n) r b = absurd (not_refused (checks w old scratch) b.passes r.refuses)
    one_correction (Err d) (Err e) r s = refused_end (checks w old scratch) old scratch d e new new' left left' r s

  -- ---- codewords

  near_itself : (w : List ℕ) → CodewordAt (symbols m) σ (length bs) bs w → NearAt (symbols m) σ (length bs) bs w w
  near_itself w c = record { codeword = c; close = omega (arith, differences_self w) }

  -- it passes checks 9 and 10 of prover and decoder
  codeword_passes : Sound m bs σ → (w : List ℕ) → CodewordAt (symbols m) σ (length bs) bs w → Passes (word_checks m bs σ w)
  codeword_passes s w c = word-passes m bs σ s c.0 w c.1 c.2 c.3

  -- ---- past checks 1 to 7

  pub early-right : Sound m bs σ → (w old scratch : List ℕ) → length w ≡ 2 ^ length bs → length old ≡ 2 ^ length bs → correction_scratch (length bs) ≤ length scratch
      → Passes (early_checks m bs σ (length w) (length old) (length scratch))
  early-right s w old scratch lw lo ls =
      answers-after (setting_checks m bs σ) (length_checks (length bs) (length w) (length old) (length scratch)) 0 (setting_numbered m bs σ) (sound_passes m bs σ s)
      (lengths-right (length w) (2 ^ length bs) (length old) (2 ^ length bs) (length scratch) (correction_scratch (length bs)) lw lo ls)

  module _ (w old new scratch left : List ℕ) (early : Passes (early_checks m bs σ (length w) (length old) (length scratch))) where
    -- checks 9 and 13 answer
    later : (r : ℕ) → Answers (near_checks m bs σ w) r → Answers (checks w old scratch) r
    later r = answers-after (early_checks m bs σ (length w) (length old) (length scratch)) (near_checks m bs σ w) r (early_numbered m bs σ (length w) (length old) (length scratch)) early

    -- Of a word of symbols:
    module _ (in_range : Below (2 ^ degree m) w) where
      near_passes : (c : List ℕ) → NearAt (symbols m) σ (length bs) bs w c → Passes (checks w old scratch)
      near_passes c near = later 0 (inr ((λ f. f in_range), inr ((λ none. none c near), refl)))

      -- with a codeword near, the output is that codeword, and the answer the number of its differences;
      pub near_found : (c : List ℕ) → NearAt (symbols m) σ (length bs) bs w c → (u : Result ℕ Refusal) → CorrectedWord m bs σ w old new scratch left u
          → (u ≡ Ok (differences w c)) × (new ≡ c)
      near_found c near (Ok n) d =
          let same : c ≡ new = only_one m bs σ w old new scratch left n d c near in
          (ap Ok (d.right.count ∙ ap (differences w) (sym same)), sym same)
      near_found c near (Err e) d = absurd (not_refused (checks w old scratch) (near_passes c near) d.refuses)

      -- the answer is `Far`, number 13, exactly when no codeword is near.
      pub thirteen_exactly : (u : Result ℕ Refusal) → CorrectedWord m bs σ w old new scratch left u
          → (u ≡ Err Far) ↔ NoneNearAt (symbols m) σ (length bs) bs w
      thirteen_exactly u d = (
        (λ e c near. not_refused (checks w old scratch) (near_passes c near) (subst (CorrectedWord m bs σ w old new scratch left) e d).refuses),
        λ none. by u d (later 13 (inr ((λ f. f in_range), inl (none, refl)))),
      )
        where
          by : (v : Result ℕ Refusal) → CorrectedWord m bs σ w old new scratch left v → Answers (checks w old scratch) 13 → v ≡ Err Far
          by (Ok n) t a = let z = answers_one (checks w old scratch) a t.passes in absurd (omega arith)
          by (Err e) t a = ap Err (one_reason {d = e} {e = Far} (answers_one (checks w old scratch) t.refuses.1 a))

    -- A codeword is corrected to itself, with 0 differences.
    pub codeword_itself : CodewordAt (symbols m) σ (length bs) bs w → (u : Result ℕ Refusal) → CorrectedWord m bs σ w old new scratch left u → (u ≡ Ok 0) × (new ≡ w)
    codeword_itself c u d = let r = near_found (codeword_sym (sound_field s) (length bs) bs w s.basis ((codeword_shift (sound_field s) σ s.shift (length bs) bs w).0 c)) w (near_itself w c) u d in (r.0 ∙ ap Ok (differences_self w), r.1)
      where
        s : Sound m bs σ
        s = sound m bs σ (passes-each (setting_checks m bs σ) (length_checks (length bs) (length w) (length old) (length scratch)) (setting_numbered m bs σ) early).0

  -- ---- after an answer

  module _ (w old new scratch left : List ℕ) (n : ℕ) (d : CorrectedWord m bs σ w old new scratch left (Ok n)) where
    setting : Sound m bs σ
    setting = corrected_sound m bs σ w old new scratch left n d

    -- Correcting again, by a call with enough room, changes nothing.
    pub corrected_again : (v v' t t' : List ℕ) (u : Result ℕ Refusal) → length v ≡ 2 ^ length bs → correction_scratch (length bs) ≤ length t
        → CorrectedWord m bs σ new v v' t t' u → (u ≡ Ok 0) × (v' ≡ new)
    corrected_again v v' t t' u lv lt =
        codeword_itself new v v' t t' (early-right setting new v t (length_word m bs σ setting d.right.near.codeword.0 new d.right.near.codeword.3) lv lt) d.right.near.codeword u

    -- a call that makes checks 1 to 7, then 9 and 10, gives none above 7
    up-to_seven : (cs : Checks) → Within 7 cs → (r : ℕ) → Answers (cs ++ word_checks m bs σ new) r → r ≤ 7
    up-to_seven cs h r = answer-first cs (word_checks m bs σ new) h (codeword_passes setting new d.right.near.codeword)

    -- Prover and decoder take the output: they refuse it by checks 1 to 7 alone, so never with 9 or 10.
    pub prover_takes : (π π' t t' : List ℕ) (e : Refusal) → Proven m bs σ new π π' t t' (Err e) → number e ≤ 7
    prover_takes π π' t t' e r =
        up-to_seven (setting_checks m bs σ ++ prover.length_checks (length bs) (length new) (length π) (length t)) (search (arith) depth 30) (number e) r.refuses.1

    pub decoder_takes : (p p' t t' : List ℕ) (e : Refusal) → Decoded m bs σ new p p' t t' (Err e) → number e ≤ 7
    decoder_takes p p' t t' e r =
        up-to_seven (setting_checks m bs σ ++ codec.length_checks (length bs) (length p) (length new) (length t)) (search (arith) depth 30) (number e) r.refuses.1
