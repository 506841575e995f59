-- The scratch of a call: 7 exactly where it is too short, and any other answer is the same with more of it. Encoder, decoder and prover take
-- scratch_for k symbols at dimension k, correction 16 × 2^k.
use Rattle.std.specs.Prelude.{◌≡◌, refl, ◌⊎◌, ◌≢◌, ◌↔◌, Result, Ok, Err, List, [], ◌∷◌, ◌++◌, ℕ, ◌-◌, ◌*◌, ◌^◌, ◌≤◌, ◌<◌, length}
use Rattle.std.proofs.Common.{inl, inr, arith}
use Rattle.std.proofs.Math.Decide.{dec_lt}
use Rattle.lists.specs.Alike.{Alike, alike_answers, alike_refl, alike_append}
use Rattle.lists.specs.Answers.{Checks, Answers, Refuses, answers-after, refused_first}
use Rattle.lists.specs.Calls.{zeros, RefusedWith, answer-second}
use Rattle.lists.specs.Decides.{equal_stable}
use Rattle.lists.specs.Lengths.{seven}
use Rattle.refusals.specs.Refusal.{number}
use Rattle.refusals.specs.declared.Refusal.{Refusal}
use Rattle.field.specs.Symbols.{symbols}
use Rattle.poly.specs.Shift.{word_at}
use Rattle.space.specs.Setting.{setting_checks}
use Rattle.space.specs.Sound.{Sound, sound, sound_passes, setting_numbered}
use Rattle.correction.specs.Calls.{near_checks, correct_checks}
use Rattle.proximity.specs.Dim.{S}
use Rattle.codec.specs.Scratch.{scratch_for}
use Rattle.codec.specs.Calls.{symbol_checks, word_checks, encode_checks, decode_checks, Told, Encoded, CoefficientsAt, Decoded}
use Rattle.prover.specs.Calls.{prove_checks, ProofAt, Proven}
use Rattle.terms.specs.Agreement.{one-encoding, one-decoding, one-proving}
use Rattle.terms.specs.Outcomes.{SameEnd}

-- ---- the checks of a call, by the scratch that it takes

-- a is to be x, b is to be y; cs are the checks past 7
module _ (m : ℕ) (bs : List ℕ) (σ a x b y : ℕ) (cs : Checks) where
  -- checks 6 and 7 of a call that takes `least` symbols of scratch and is lent s; all its checks
  abbrev pub lengths : ℕ → ℕ → Checks
  lengths least s = (6, (a ≢ x) ⊎ (b ≢ y)) ∷ (7, s < least) ∷ []

  abbrev pub lent : ℕ → ℕ → Checks
  lent least s = setting_checks m bs σ ++ lengths least s ++ cs

  right : (least s : ℕ) → (Answers cs 7 → ⊥) → Sound m bs σ → Answers (lengths least s ++ cs) 7 → Sound m bs σ × (a ≡ x) × (b ≡ y) × (s < least)
  right least s none d (inl (l, e)) = absurd (omega arith)
  right least s none d (inr (l, inl (h, e))) = (d, equal_stable a x (λ f. l (inl f)), equal_stable b y (λ f. l (inr f)), h)
  right least s none d (inr (l, inr (h, r))) = absurd (none r)

  seven_exactly : (least s : ℕ) → (Answers cs 7 → ⊥) → Answers (lent least s) 7 ↔ (Sound m bs σ × (a ≡ x) × (b ≡ y) × (s < least))
  seven_exactly least s none = (
    (λ r. let two = answer-second {n = 5} (setting_checks m bs σ) (lengths least s ++ cs) (search (arith) depth 30) (omega arith) r in right least s none (sound m bs σ two.0) two.1),
    λ t. answers-after (setting_checks m bs σ) (lengths least s ++ cs) 7 (setting_numbered m bs σ) (sound_passes m bs σ t.0)
        (refused_first (lengths least s) cs 7 (omega arith) (seven a x b y s least t.1 t.2 t.3)),
  )

  -- where what is lent is enough, its size changes nothing
  enough : (least s least' s' : ℕ) → least ≤ s → least' ≤ s' → Alike (lent least s) (lent least' s')
  enough least s least' s' h h' =
      alike_append (setting_checks m bs σ) (setting_checks m bs σ) (lengths least s ++ cs) (lengths least' s' ++ cs) (alike_refl (setting_checks m bs σ))
      (λ p. (refl, ((λ q. q), λ q. q), λ q. (refl, ((λ l. absurd (omega arith)), λ l. absurd (omega arith)), λ l. alike_refl cs)))

-- what a call does with the scratch s, it does with t, where the checks answer alike
module _ (cs ds : Checks) (alike : Alike cs ds) (Right : List ℕ → Type 0) (old new s left t : List ℕ) where
  refused_other : (n : ℕ) → RefusedWith cs n old new s left → (l : List ℕ) × RefusedWith ds n old new t l
  refused_other n r = by (dec_lt 7 n)
    where
      refuses : Refuses ds n
      refuses = (r.refuses.0, alike_answers cs ds alike n r.refuses.1)

      by : Dec (7 < n) → (l : List ℕ) × RefusedWith ds n old new t l
      by (yes h) = (zeros (length t), record { refuses = refuses; untouched = r.untouched; early = λ e. absurd (omega arith); late = λ e. refl })
      by (no h) = (t, record { refuses = refuses; untouched = r.untouched; early = λ e. refl; late = λ e. absurd (h e) })

  told-other : (u : Result (Unit {0}) Refusal) → Told cs Right old new s left u → (l : List ℕ) × Told ds Right old new t l u
  told-other (Ok x) a = (zeros (length t), record { passes = alike_answers cs ds alike 0 a.passes; right = a.right; cleared = refl })
  told-other (Err e) r = refused_other (number e) r

  -- so it ends as a call that has t, where the calls that have t have one end
  ends_as : (u v : Result (Unit {0}) Refusal) (next : List ℕ) {rest : List ℕ} → Told cs Right old new s left v → ((l : List ℕ) → Told ds Right old new t l v → SameEnd u v next new rest l)
      → (u ≡ v) × (next ≡ new)
  ends_as u v next a one = let o = told-other v a in let r = one o.0 o.1 in (r.answer, r.output)

-- ---- the calls

past_seven : {P Q : Type 0} (i j : ℕ) → 7 < i → 7 < j → Answers ((i, P) ∷ (j, Q) ∷ []) 7 → ⊥
past_seven i j h l (inl (p, e)) = omega arith
past_seven i j h l (inr (p, inl (q, e))) = omega arith
past_seven i j h l (inr (p, inr (q, e))) = omega arith

module _ (m : ℕ) (bs : List ℕ) (σ : ℕ) (given : List ℕ) where
  -- the checks of the three calls, where the output has so many symbols, by the scratch that they take
  abbrev pub encoding : ℕ → ℕ → ℕ → Checks
  encoding old = lent m bs σ (length given) (2 ^ (length bs - 3)) old (2 ^ length bs) (symbol_checks m given)

  abbrev pub decoding : ℕ → ℕ → ℕ → Checks
  decoding old = lent m bs σ old (2 ^ (length bs - 3)) (length given) (2 ^ length bs) (word_checks m bs σ given)

  abbrev pub proving : ℕ → ℕ → ℕ → Checks
  proving old = lent m bs σ (length given) (2 ^ length bs) old (S (length bs)) (word_checks m bs σ given)

  -- 7 is answered exactly where the setting is sound, the lengths are right, and the scratch has fewer symbols than the call takes; by correction
  -- where it has fewer than 16 × 2^k.
  module _ (old s : ℕ) where
    pub seven_encoding : Answers (encode_checks m bs σ given old s) 7
        ↔ (Sound m bs σ × (length given ≡ 2 ^ (length bs - 3)) × (old ≡ 2 ^ length bs) × (s < scratch_for (length bs)))
    seven_encoding = seven_exactly m bs σ (length given) (2 ^ (length bs - 3)) old (2 ^ length bs) (symbol_checks m given) (scratch_for (length bs)) s none
      where
        none : Answers (symbol_checks m given) 7 → ⊥
        none (inl (p, e)) = omega arith
        none (inr (p, e)) = omega arith

    pub seven_decoding : Answers (decode_checks m bs σ given old s) 7
        ↔ (Sound m bs σ × (old ≡ 2 ^ (length bs - 3)) × (length given ≡ 2 ^ length bs) × (s < scratch_for (length bs)))
    seven_decoding =
        seven_exactly m bs σ old (2 ^ (length bs - 3)) (length given) (2 ^ length bs) (word_checks m bs σ given) (scratch_for (length bs)) s (past_seven 9 10 (omega arith) (omega arith))

    pub seven_proving : Answers (prove_checks m bs σ given old s) 7
        ↔ (Sound m bs σ × (length given ≡ 2 ^ length bs) × (old ≡ S (length bs)) × (s < scratch_for (length bs)))
    seven_proving =
        seven_exactly m bs σ (length given) (2 ^ length bs) old (S (length bs)) (word_checks m bs σ given) (scratch_for (length bs)) s (past_seven 9 10 (omega arith) (omega arith))

    pub seven_correcting : Answers (correct_checks m bs σ given old s) 7
        ↔ (Sound m bs σ × (length given ≡ 2 ^ length bs) × (old ≡ 2 ^ length bs) × (s < 16 * 2 ^ length bs))
    seven_correcting =
        seven_exactly m bs σ (length given) (2 ^ length bs) old (2 ^ length bs) (near_checks m bs σ given) (16 * 2 ^ length bs) s (past_seven 9 13 (omega arith) (omega arith))

  -- With scratch that is enough each call ends, in answer and output, as it does where it takes any other size and is lent that
  -- much.
  module _ (old new new' s left t left' : List ℕ) (u v : Result (Unit {0}) Refusal) (least : ℕ) (hs : scratch_for (length bs) ≤ length s) (ht : least ≤ length t) where
    pub encoding_as_with : Encoded m bs σ given old new s left u → Told (encoding (length old) least (length t)) (λ w. w ≡ word_at (symbols m) σ (length bs) bs given) old new' t left' v
        → (u ≡ v) × (new ≡ new')
    encoding_as_with e f =
        ends_as (encoding (length old) least (length t)) (encode_checks m bs σ given (length old) (length s))
        (enough m bs σ (length given) (2 ^ (length bs - 3)) (length old) (2 ^ length bs) (symbol_checks m given) least (length t) (scratch_for (length bs)) (length s) ht hs)
        _ old new' t left' s u v new f (λ l. one-encoding m bs σ given old new new' s left l u v e)

    pub decoding_as_with : Decoded m bs σ given old new s left u → Told (decoding (length old) least (length t)) (CoefficientsAt m bs σ given) old new' t left' v → (u ≡ v) × (new ≡ new')
    decoding_as_with e f =
        ends_as (decoding (length old) least (length t)) (decode_checks m bs σ given (length old) (length s))
        (enough m bs σ (length old) (2 ^ (length bs - 3)) (length given) (2 ^ length bs) (word_checks m bs σ given) least (length t) (scratch_for (length bs)) (length s) ht hs)
        _ old new' t left' s u v new f (λ l. one-decoding m bs σ given old new new' s left l u v e)

    pub proving_as_with : Proven m bs σ given old new s left u → Told (proving (length old) least (length t)) (ProofAt m bs σ given) old new' t left' v → (u ≡ v) × (new ≡ new')
    proving_as_with e f =
        ends_as (proving (length old) least (length t)) (prove_checks m bs σ given (length old) (length s))
        (enough m bs σ (length given) (2 ^ length bs) (length old) (S (length bs)) (word_checks m bs σ given) least (length t) (scratch_for (length bs)) (length s) ht hs)
        _ old new' t left' s u v new f (λ l. one-proving m bs σ given old new new' s left l u v e)
