-- What does not depend on the shift, and how coefficients do. The codewords at one shift are those at any other, and with them a word's proof,
-- its verdicts and its correction: past check 4 checker, prover and correction answer alike at two shifts, in each setting, sound or not.
-- The coefficients of a word at one shift are those at another with the difference of the two put in.
use Rattle.std.specs.Prelude.{◌≡◌, refl, ◌↔◌, Result, Ok, Err, List, [], ◌∷◌, ◌++◌, ℕ, ◌-◌, ◌^◌, ◌≤◌, ◌<◌, length}
use Rattle.std.proofs.Common.{sym, ap, ◌∙◌, inl, inr, arith}
use Rattle.lists.specs.All.{All, Below}
use Rattle.lists.specs.Alike.{Alike, alike_answers, alike_refl, alike_append, iff_not}
use Rattle.lists.specs.Answers.{Checks, Answers, Passes, answers-after, passes-each}
use Rattle.lists.specs.Calls.{RefusedWith}
use Rattle.lists.specs.Tables.{tab_ext}
use Rattle.refusals.specs.Refusal.{number}
use Rattle.refusals.specs.declared.Refusal.{Refusal}
use Rattle.field.specs.Binary.{degree}
use Rattle.field.specs.Calls.{modulus_numbered}
use Rattle.field.specs.Checks.{modulus_checks, GoodModulus, good_passes}
use Rattle.field.specs.Laws.{Ops, IsField, sums}
use Rattle.field.specs.Symbols.{symbols}
use Rattle.poly.specs.Poly.{eval}
use Rattle.poly.specs.Span.{elem}
use Rattle.poly.specs.Codeword.{word_of, Codeword}
use Rattle.poly.specs.Shift.{word_at, CodewordAt, shift_p, length_shift_p}
use Rattle.poly.proofs.Shift.{shift_p_sym, eval-shift_p, word-at-zero, codeword_shift, decode_unique_at}
use Rattle.space.specs.Setting.{span_checks, space_checks, setting_checks}
use Rattle.space.specs.Sizes.{max_dim}
use Rattle.space.specs.Sound.{Sound, sound, sound_field, setting_numbered, outside}
use Rattle.correction.specs.Calls as correction
use Rattle.correction.specs.Calls.{near_checks, correct_checks, CorrectedWord}
use Rattle.correction.specs.Checks.{corrected_sound}
use Rattle.correction.specs.Near.{NearAt, near_shift}
use Rattle.proximity.specs.Dim.{dim}
use Rattle.proximity.proofs.Shifted.{honest_shift}
use Rattle.verifier.specs.Checker as checker
use Rattle.verifier.specs.Checker.{delivery_checks, read_checks, checker_checks}
use Rattle.verifier.specs.Verdicts.{answered_alike}
use Rattle.verifier.specs.declared.Verdict.{Verdict}
use Rattle.codec.specs.Calls.{word_checks, Decoded}
use Rattle.prover.specs.Calls as prover
use Rattle.prover.specs.Calls.{prove_checks, ProofAt, ProofOf, Proven}
use Rattle.prover.specs.Determined.{proof_shift}
use Rattle.terms.specs.Settings.{sound_11}

-- ---- check 4

-- A shift that is no symbol is refused with 4, after the basis elements and before check 5: whether the basis is independent is not asked.
pub shift_out_of_range : (m : ℕ) (bs : List ℕ) (σ : ℕ) → GoodModulus m → 3 ≤ length bs → length bs ≤ max_dim → Below (2 ^ degree m) bs → (σ < 2 ^ degree m → ⊥)
    → Answers (setting_checks m bs σ) 4
shift_out_of_range m bs σ g l h e bad =
    answers-after (modulus_checks m) (space_checks m bs σ) 4 (modulus_numbered m) (good_passes m g) (inr (outside l h, inr ((λ no. no e), inl (bad, refl))))

-- As with 1, 1, 4, which is dependent, and the shift 8 modulo 11.
pub four_before_five : Answers (setting_checks 11 (1 ∷ 1 ∷ 4 ∷ []) 8) 4
unfolding degree
four_before_five =
    shift_out_of_range 11 (1 ∷ 1 ∷ 4 ∷ []) 8 (sound_11 0 (omega arith)).modulus (omega arith) (omega arith) (omega arith, (omega arith, (omega arith, tt))) (λ h. omega arith)

-- ---- the shift 0

-- Words, codewords and proofs are those of document 01.
module _ (m : ℕ) (bs : List ℕ) (s : Sound m bs 0) where
  pub words-at-zero : (P : List ℕ) → word_at (symbols m) 0 (length bs) bs P ≡ word_of (symbols m) (length bs) bs P
  words-at-zero = word-at-zero (sound_field s) (length bs) bs

  pub codewords_at-zero : (w : List ℕ) → CodewordAt (symbols m) 0 (length bs) bs w ↔ Codeword (symbols m) (length bs) bs w
  codewords_at-zero = codeword_shift (sound_field s) 0 s.shift (length bs) bs

  pub proofs_at-zero : (w π : List ℕ) → ProofAt m bs 0 w π ↔ ProofOf m bs w π
  proofs_at-zero w π = proof_shift s w π

-- ---- two shifts

same : {P : Type 0} → P ↔ P
same = ((λ p. p), λ p. p)

module _ (m : ℕ) (bs : List ℕ) (σ τ : ℕ) (sσ : σ < 2 ^ degree m) (sτ : τ < 2 ^ degree m) where
  abbrev K : Ops
  K = symbols m

  -- checks 1 to 5 do not tell them apart
  alike_setting : Alike (setting_checks m bs σ) (setting_checks m bs τ)
  alike_setting =
      alike_append (modulus_checks m) (modulus_checks m) (space_checks m bs σ) (space_checks m bs τ) (alike_refl (modulus_checks m))
      (λ p. (refl, same, λ a. (refl, same, λ b. (refl, iff_not ((λ x. sτ), λ x. sσ), λ d. alike_refl (span_checks m bs)))))

  past-setting : (cs : Checks) → Passes (setting_checks m bs σ ++ cs) → Sound m bs σ
  past-setting cs p = sound m bs σ (passes-each (setting_checks m bs σ) cs (setting_numbered m bs σ) p).0

  -- nor do checks that follow, where they do not in a sound setting
  alike_past : (cs ds es : Checks) → (Sound m bs σ → Alike ds es) → Alike (setting_checks m bs σ ++ cs ++ ds) (setting_checks m bs τ ++ cs ++ es)
  alike_past cs ds es f =
      alike_append (setting_checks m bs σ ++ cs) (setting_checks m bs τ ++ cs) ds es
      (alike_append (setting_checks m bs σ) (setting_checks m bs τ) cs cs alike_setting (λ p. alike_refl cs))
      (λ p. f (past-setting cs p))

  -- The checker gives the same answer, a refusal included.
  module _ (w π : List ℕ) (coin : ℕ) where
    abbrev reading : Checks
    reading = read_checks K (length bs) w π coin

    pub same_verdict : (v : Result Verdict Refusal) → checker.Told m bs σ w π coin v → checker.Told m bs τ w π coin v
    same_verdict =
        answered_alike (checker_checks m bs σ w π coin) (checker_checks m bs τ w π coin)
        (alike_answers (checker_checks m bs σ w π coin) (checker_checks m bs τ w π coin)
        (alike_past (delivery_checks (length bs) (length w) (length π) coin) reading reading (λ s. alike_refl reading))) K (length bs) bs w π coin

  module _ (s : Sound m bs σ) where
    abbrev F : IsField K
    F = sound_field s

    -- A word is a codeword at both shifts or at none.
    pub same_codewords : (w : List ℕ) → CodewordAt K σ (length bs) bs w ↔ CodewordAt K τ (length bs) bs w
    same_codewords w = (
      (λ c. (codeword_shift F τ sτ (length bs) bs w).1 ((codeword_shift F σ sσ (length bs) bs w).0 c)),
      λ c. (codeword_shift F σ sσ (length bs) bs w).1 ((codeword_shift F τ sτ (length bs) bs w).0 c),
    )

    -- One polynomial at two shifts: its words are of the same code.
    pub one_code : (P : List ℕ) → length P ≡ 2 ^ (length bs - 3) → All K.Sym P → CodewordAt K τ (length bs) bs (word_at K σ (length bs) bs P)
    one_code P l e = (same_codewords (word_at K σ (length bs) bs P)).0 (P, l, e, refl)

    alike_words : (w : List ℕ) → Alike (word_checks m bs σ w) (word_checks m bs τ w)
    alike_words w = (refl, same, λ a. (refl, iff_not (same_codewords w), λ b. tt))

    same-proof : (w π : List ℕ) → ProofAt m bs σ w π → ProofAt m bs τ w π
    same-proof w π p = (honest_shift F τ sτ (dim (length bs)) bs s.basis w π).1 ((honest_shift F σ sσ (dim (length bs)) bs s.basis w π).0 p)

    near_both : (w c : List ℕ) → NearAt K σ (length bs) bs w c ↔ NearAt K τ (length bs) bs w c
    near_both w c = (
      (λ n. (near_shift F τ sτ (length bs) bs w c).1 ((near_shift F σ sσ (length bs) bs w c).0 n)),
      λ n. (near_shift F σ sσ (length bs) bs w c).1 ((near_shift F τ sτ (length bs) bs w c).0 n),
    )

    alike_near : (w : List ℕ) → Alike (near_checks m bs σ w) (near_checks m bs τ w)
    alike_near w = (refl, same, λ a. (refl, ((λ none c n. none c ((near_both w c).1 n)), λ none c n. none c ((near_both w c).0 n)), λ b. tt))

  module _ (w old new scratch left : List ℕ) where
    -- a refusal by tables that answer alike
    refused_alike : (cs ds : Checks) → Alike cs ds → (n : ℕ) → RefusedWith cs n old new scratch left → RefusedWith ds n old new scratch left
    refused_alike cs ds a n r =
        record { refuses = (r.refuses.0, alike_answers cs ds a n r.refuses.1); untouched = r.untouched; early = r.early; late = r.late }

    -- The prover gives the same answer and leaves the same proof and scratch.
    abbrev proving : ℕ → Checks
    proving ρ = prove_checks m bs ρ w (length old) (length scratch)

    proving_alike : Alike (proving σ) (proving τ)
    proving_alike = alike_past (prover.length_checks (length bs) (length w) (length old) (length scratch)) (word_checks m bs σ w) (word_checks m bs τ w) (λ s. alike_words s w)

    pub same-proving : (u : Result (Unit {0}) Refusal) → Proven m bs σ w old new scratch left u → Proven m bs τ w old new scratch left u
    same-proving (Ok x) p =
        record {
          passes = alike_answers (proving σ) (proving τ) proving_alike 0 p.passes;
          right = same-proof (past-setting (prover.length_checks (length bs) (length w) (length old) (length scratch) ++ word_checks m bs σ w) p.passes) w new p.right;
          cleared = p.cleared;
        }
    same-proving (Err e) r = refused_alike (proving σ) (proving τ) proving_alike (number e) r

    -- Correction gives the same answer and leaves the same output and scratch.
    abbrev correcting : ℕ → Checks
    correcting ρ = correct_checks m bs ρ w (length old) (length scratch)

    correcting_alike : Alike (correcting σ) (correcting τ)
    correcting_alike = alike_past (correction.length_checks (length bs) (length w) (length old) (length scratch)) (near_checks m bs σ w) (near_checks m bs τ w) (λ s. alike_near s w)

    pub same-correcting : (u : Result ℕ Refusal) → CorrectedWord m bs σ w old new scratch left u → CorrectedWord m bs τ w old new scratch left u
    same-correcting (Ok n) d =
        record {
          passes = alike_answers (correcting σ) (correcting τ) correcting_alike 0 d.passes;
          right = record { near = (near_both (corrected_sound m bs σ w old new scratch left n d) w new).0 d.right.near; count = d.right.count };
          cleared = d.cleared;
        }
    same-correcting (Err e) r = refused_alike (correcting σ) (correcting τ) correcting_alike (number e) r

  -- ---- coefficients

  infixl 60 ◌⊕◌
  open K use {◌⊕◌}

  module _ (s : Sound m bs σ) where
    between : (x : ℕ) → σ ⊕ τ ⊕ (τ ⊕ x) ≡ σ ⊕ x
    between x = simp (sums, F s)

    -- The word of P at σ is that of P(x + σ + τ) at τ.
    pub word_moved : (P : List ℕ) → word_at K σ (length bs) bs P ≡ word_at K τ (length bs) bs (shift_p K (σ ⊕ τ) P)
    word_moved P = tab_ext (2 ^ length bs) _ _ (λ i h. sym (eval-shift_p (F s) (σ ⊕ τ) P (τ ⊕ elem K bs i) ∙ ap (eval K P) (between (elem K bs i))))

    -- So of one word: where the decoder gives P at σ, it gives P(x + σ + τ) at τ.
    pub decoded_at-two : (w c p t t' d q v v' : List ℕ) → Decoded m bs σ w c p t t' (Ok tt) → Decoded m bs τ w d q v v' (Ok tt) → q ≡ shift_p K (σ ⊕ τ) p
    decoded_at-two w c p t t' d q v v' a b =
        decode_unique_at (F s) τ sτ (length bs) bs s.basis q (shift_p K (σ ⊕ τ) p) b.right.count (length_shift_p K (σ ⊕ τ) p ∙ a.right.count)
        b.right.elements (shift_p_sym (F s) (σ ⊕ τ) p ((F s).sym_sum sσ sτ) a.right.elements) (sym b.right.word-is ∙ a.right.word-is ∙ word_moved p)
