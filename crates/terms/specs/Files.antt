-- The printed sentences for stored files and for the call from C. `AnsweredFile f coin v` is the contract of stored's `check_file` for its
-- answer v on the file f and the coin. `HostAnswer f coin before after r` is that of host's `proximity_check_file`: its answer is the
-- number r, and the lent number of reads is `before` when it comes and `after` when it goes back.
use Rattle.std.specs.Prelude.{◌≡◌, refl, ◌⊎◌, ◌↔◌, Result, Ok, Err, List, map, ℕ, ◌^◌, ◌≤◌, ◌<◌, length}
use Rattle.std.proofs.Common.{sym, ap, ◌∙◌, subst, inl, inr, arith}
use Rattle.std.proofs.Math.Path.{transport}
use Rattle.lists.specs.Answers.{Passes, Refuses}
use Rattle.refusals.specs.declared.Refusal.{Refusal}
use Rattle.field.specs.Binary.{degree}
use Rattle.proximity.specs.Dim.{dim, S, R}
use Rattle.proximity.specs.Verifier.{positions, read_at}
use Rattle.verifier.specs.Checker.{Told}
use Rattle.verifier.specs.declared.Rejection.{Rejection}
use Rattle.verifier.specs.declared.Verdict.{Verdict}
use Rattle.verifier.specs.declared.Verdict.TheVariants.{Accept, Reject}
use Rattle.stored.specs.Check.{coin_checks, AnsweredFile}
use Rattle.stored.specs.File.{modulus_in, dim_in, basis_in, shift_in, word_in, proof_in}
use Rattle.stored.proofs.OnSymbols as on-symbols
use Rattle.stored.specs.Passed.{length_basis}
use Rattle.stored.specs.Reader.{file_checks}
use Rattle.stored.specs.Whole.{Delivery}
use Rattle.stored.proofs.Whole.{accepted_delivery}
use Rattle.prover.specs.Calls.{ProofAt}
use Rattle.host.specs.Answer.{code_of, reads_after, HostAnswer, HostDegree}
use Rattle.terms.specs.Answer.{same_answer}
use Rattle.terms.specs.OneAnswer.{one-file-answer}
use Rattle.terms.specs.Refusals.{refused_file_check}
use Rattle.terms.specs.Shifts.{same_verdict}
use Rattle.terms.specs.Terms.{AcceptedAtAllCoins, accepted_exactly}

-- ---- stored files

-- The checker over an accepted file answers as the checker on the setting, the word and the proof in it.
pub file-answers : (f : List ℕ) → Passes (file_checks f) → (coin : ℕ) (v : Result Verdict Refusal) → AnsweredFile f coin v ↔ Told (modulus_in f) (basis_in f) (shift_in f) (word_in f) (proof_in f) coin v
file-answers = on-symbols.file-answers

-- Two accepted files of one modulus and one basis, alike at the coin's positions, get the same answer at that coin, a refusal included, whatever
-- their forms and their shifts.
module _ (f g : List ℕ) (pf : Passes (file_checks f)) (pg : Passes (file_checks g)) (em : modulus_in f ≡ modulus_in g) (eb : basis_in f ≡ basis_in g) (coin : ℕ)
    (alike : map (read_at (word_in f) (proof_in f)) (positions (dim (dim_in f)) coin) ≡ map (read_at (word_in g) (proof_in g)) (positions (dim (dim_in f)) coin)) where
  pub alike_files : (v : Result Verdict Refusal) → AnsweredFile f coin v → AnsweredFile g coin v
  alike_files v a =
      (file-answers g pg coin v).1
      (transport (λ i. Told (em i) (eb i) (shift_in g) (word_in g) (proof_in g) coin v) (same_verdict (modulus_in f) (basis_in f) (shift_in f) (shift_in g) df.setting.shift in_range (word_in g) (proof_in g) coin v in_setting))
    where
      df : Delivery (modulus_in f) (basis_in f) (shift_in f) (word_in f) (proof_in f)
      df = accepted_delivery f pf

      dg : Delivery (modulus_in g) (basis_in g) (shift_in g) (word_in g) (proof_in g)
      dg = accepted_delivery g pg

      in_range : shift_in g < 2 ^ degree (modulus_in f)
      in_range = subst (λ (m : ℕ). shift_in g < 2 ^ degree m) (sym em) dg.setting.shift

      in_setting : Told (modulus_in f) (basis_in f) (shift_in f) (word_in g) (proof_in g) coin v
      in_setting =
          same_answer (modulus_in f) (basis_in f) (shift_in f) (word_in f) (proof_in f) (word_in g) (proof_in g) coin df.word df.proof
          (dg.word ∙ ap (λ (b : List ℕ). 2 ^ length b) (sym eb)) (dg.proof ∙ ap (λ (b : List ℕ). S (length b)) (sym eb))
          (subst (λ (k : ℕ). map (read_at (word_in f) (proof_in f)) (positions (dim k) coin) ≡ map (read_at (word_in g) (proof_in g)) (positions (dim k) coin)) (sym (length_basis f)) alike)
          v ((file-answers f pf coin v).0 a)

  -- Sentence 3's last part, of the call from C.
  pub alike_from-c : (before after r : ℕ) → HostAnswer f coin before after r → HostAnswer g coin before after r
  alike_from-c before after r (v, a, e, h) = (v, alike_files v a, e, h)

  -- and of the one that tells the degree.
  pub alike_degree-from-c : (before after : Rejection) (r : ℕ) → HostDegree f coin before after r → HostDegree g coin before after r
  alike_degree-from-c before after r (v, a, e, h) = (v, alike_files v a, e, h)

-- ---- the call from C

module _ (f : List ℕ) (coin before : ℕ) where
  -- The call gives one answer and leaves one number of reads.
  pub one_host_answer : (after r after' r' : ℕ) → HostAnswer f coin before after r → HostAnswer f coin before after' r' → (after ≡ after') × (r ≡ r')
  one_host_answer after r after' r' (u, a, e, h) (v, b, e', h') =
      let same = one-file-answer f coin u v a b in
      (h ∙ ap (reads_after before) same ∙ sym h', e ∙ ap code_of same ∙ sym e')

  -- The number tells the verdicts and the refusals apart: 0 accepts, 100 rejects, and a refusal has a number from 1 to 12.
  abbrev pub ToldApart : ℕ → ℕ → Type 0
  ToldApart after r =
      ((r ≡ 0) × AnsweredFile f coin (Ok (Accept after))) ⊎ (((r ≡ 100) × ((x : Rejection) × AnsweredFile f coin (Ok (Reject x)) × (after ≡ x.reads))) ⊎ ((r ≤ 12) × Refuses (coin_checks f coin) r × (after ≡ before)))

  pub told-apart : (after r : ℕ) → HostAnswer f coin before after r → ToldApart after r
  told-apart after r (Ok (Accept n), a, e, h) = inl (e, subst (λ (x : ℕ). AnsweredFile f coin (Ok (Accept x))) (sym h) a)
  told-apart after r (Ok (Reject x), a, e, h) = inr (inl (e, (x, a, h)))
  told-apart after r (Err n, a, e, h) = inr (inr (omega (arith, e, (refused_file_check f coin n a).1), subst (Refuses (coin_checks f coin)) (sym e) a, h))

-- Sentence 3, first part, of the call from C: an accepted file is accepted at every coin exactly where its word evaluates a polynomial of
-- degree below an eighth of its length at the shifted elements, and its proof is the one laid out for it.
module _ (f : List ℕ) (p : Passes (file_checks f)) where
  abbrev pub AcceptedFromC : Type 0
  AcceptedFromC = (coin : ℕ) → coin < 2 ^ R (dim_in f) → (before : ℕ) → (reads : ℕ) × HostAnswer f coin before reads 0

  pub accepted_exactly_from-c : AcceptedFromC ↔ ProofAt (modulus_in f) (basis_in f) (shift_in f) (word_in f) (proof_in f)
  accepted_exactly_from-c = (
    (λ g. exactly.0 (λ coin h. let (reads, a) = g coin (subst (λ (k : ℕ). coin < 2 ^ R k) (length_basis f) h) 0 in
        (reads, (file-answers f p coin (Ok (Accept reads))).0 (zero_accepts coin reads (told-apart f coin 0 reads 0 a))))),
    λ H coin h before. let (reads, t) = exactly.1 H coin (subst (λ (k : ℕ). coin < 2 ^ R k) (sym (length_basis f)) h) in
        (reads, (Ok (Accept reads), (file-answers f p coin (Ok (Accept reads))).1 t, refl, refl)),
  )
    where
      d : Delivery (modulus_in f) (basis_in f) (shift_in f) (word_in f) (proof_in f)
      d = accepted_delivery f p

      exactly : AcceptedAtAllCoins (modulus_in f) (basis_in f) (shift_in f) d.setting (word_in f) (proof_in f) d.word d.proof ↔ ProofAt (modulus_in f) (basis_in f) (shift_in f) (word_in f) (proof_in f)
      exactly = accepted_exactly (modulus_in f) (basis_in f) (shift_in f) d.setting (word_in f) (proof_in f) d.word d.proof

      zero_accepts : (coin reads : ℕ) → ToldApart f coin 0 reads 0 → AnsweredFile f coin (Ok (Accept reads))
      zero_accepts coin reads (inl a) = a.1
      zero_accepts coin reads (inr (inl a)) = absurd (omega arith)
      zero_accepts coin reads (inr (inr a)) = absurd (omega arith)
