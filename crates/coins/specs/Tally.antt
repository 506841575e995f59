-- The verdicts at all coins, one after the other. Assumes nothing.
use Rattle.std.specs.Prelude.{◌≡◌, Result, Ok, Err, List, ℕ, suc, ◌+◌, ◌^◌, ◌<◌, max}
use Rattle.std.proofs.Common.{sym, ap, ◌∙◌, subst, inl, inr, add-one, arith}
use Rattle.lists.specs.Answers.{Passes, not_refused}
use Rattle.proximity.specs.Dim.{R}
use Rattle.verifier.specs.Checker.{reads_of}
use Rattle.refusals.specs.declared.Refusal.{Refusal}
use Rattle.verifier.specs.declared.Verdict.{Verdict}
use Rattle.verifier.specs.declared.Verdict.TheVariants.{Accept, Reject}
use Rattle.stored.specs.Check.{coin_checks, AnsweredFile}
use Rattle.stored.proofs.CheckLaws.{coin_passes}
use Rattle.stored.specs.File.{dim_in}
use Rattle.stored.specs.Reader.{file_checks}
use Rattle.stored.specs.declared.Reading.{Reading}
use Rattle.coins.specs.Counted.{Counted}
use Rattle.coins.specs.Totals.{Rejects, most_of}

-- 1 for a rejection, else 0
abbrev pub rejects_in : Result Verdict Refusal → ℕ
rejects_in (Ok (Accept n)) = 0
rejects_in (Ok (Reject r)) = 1
rejects_in (Err e) = 0

-- the symbols read
abbrev pub reads_in : Result Verdict Refusal → ℕ
reads_in (Ok (Accept n)) = n
reads_in (Ok (Reject r)) = r.reads
reads_in (Err e) = 0

-- r is what the reader tells of the file f, which it accepts
abbrev pub Readable : List ℕ → Reading → Type 0
Readable f r = Rattle.stored.specs.Reader.Told (file_checks f) f (Ok r)

module _ (f : List ℕ) (p : Passes (file_checks f)) (coin : ℕ) (h : coin < 2 ^ R (dim_in f)) where
  next : (v : Result Verdict Refusal) → AnsweredFile f coin v → (c : ℕ) → Counted (Rejects f) coin c → Counted (Rejects f) (suc coin) (c + rejects_in v)
  next (Ok (Accept n)) (q, (e, a)) c t = subst (Counted (Rejects f) (suc coin)) {x = c} {y = c + 0} (omega arith) (inr ((λ (r, (s, (g, b, l, d))). b a), t))
  next (Ok (Reject r)) a c t = inl (c, (r, a), omega arith, t)
  next (Err n) a c t = absurd (not_refused (coin_checks f coin) (coin_passes f coin p h) a)

  -- one more coin
  pub count_verdict : (v : Result Verdict Refusal) → AnsweredFile f coin v → (c : ℕ) → Counted (Rejects f) coin c → Counted (Rejects f) (coin + 1) (c + rejects_in v)
  count_verdict v a c t = subst (λ (m : ℕ). Counted (Rejects f) m (c + rejects_in v)) (sym (add-one coin)) (next v a c t)

  reads_verdict : (v : Result Verdict Refusal) → AnsweredFile f coin v → reads_in v ≡ reads_of (dim_in f) coin
  reads_verdict (Ok (Accept n)) (q, (e, a)) = e
  reads_verdict (Ok (Reject r)) (q, (e, a, g, d)) = e
  reads_verdict (Err n) a = absurd (not_refused (coin_checks f coin) (coin_passes f coin p h) a)

  pub most_verdict : (v : Result Verdict Refusal) → AnsweredFile f coin v → max (most_of coin (reads_of (dim_in f))) (reads_in v) ≡ most_of (coin + 1) (reads_of (dim_in f))
  most_verdict v a = ap (max (most_of coin (reads_of (dim_in f)))) (reads_verdict v a) ∙ ap (λ (m : ℕ). most_of m (reads_of (dim_in f))) (sym (add-one coin))
