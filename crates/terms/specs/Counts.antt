-- The printed sentences for the coin counter. `Told f c` is the contract of coins' `count` for its answer c on the file f.
use Rattle.std.specs.Prelude.{◌≡◌, refl, ◌↔◌, Result, Ok, Err, List, ℕ, ◌^◌}
use Rattle.std.proofs.Common.{arith}
use Rattle.lists.specs.Answers.{Passes}
use Rattle.refusals.specs.declared.Refusal.{Refusal}
use Rattle.field.specs.Symbols.{symbols}
use Rattle.proximity.specs.Dim.{dim, R}
use Rattle.proximity.specs.Verifier.{Accepts}
use Rattle.verifier.specs.Checker.{reads_of}
use Rattle.verifier.specs.declared.Verdict.TheVariants.{Accept, Reject}
use Rattle.stored.proofs.CheckLaws.{coin_passes}
use Rattle.stored.specs.File.{modulus_in, dim_in, basis_in, shift_in, word_in, proof_in}
use Rattle.stored.specs.Reader.{file_checks}
use Rattle.coins.specs.Answer as answer
use Rattle.coins.specs.Counted.{Counted}
use Rattle.coins.specs.Totals.{Rejects, Told}
use Rattle.coins.specs.declared.Counts.{Counts}
use Rattle.prover.specs.Calls.{ProofAt}
use Rattle.host.specs.Answer.{HostAnswer}
use Rattle.terms.specs.Files.{accepted_exactly_from-c}

-- The counter has one answer.
pub one-count : (f : List ℕ) (c d : Result Counts Refusal) → Told f c → Told f d → c ≡ d
one-count = answer.one-count

-- an accepted file, of whose coins r reject
module _ (f : List ℕ) (p : Passes (file_checks f)) (r : ℕ) where
  accepts : (coin reads : ℕ) → HostAnswer f coin 0 reads 0 → Accepts (symbols (modulus_in f)) (dim (dim_in f)) (basis_in f) (word_in f) (proof_in f) coin
  accepts coin reads (Ok (Accept n), (q, (e, a)), g, h) = a
  accepts coin reads (Ok (Reject r), a, g, h) = absurd (omega arith)
  accepts coin reads (Err e, (l, a), g, h) = absurd (omega arith)

  -- No coin of an accepted file rejects exactly where its word evaluates a polynomial of degree below an eighth of its length at the
  -- shifted elements, and its proof is the one laid out for it.
  pub none_exactly : Counted (Rejects f) (2 ^ R (dim_in f)) r → (r ≡ 0) ↔ ProofAt (modulus_in f) (basis_in f) (shift_in f) (word_in f) (proof_in f)
  none_exactly t =
      let none = answer.rejects_none f p t in
      let exactly = accepted_exactly_from-c f p in (
        (λ e. exactly.0 (λ coin h before. (reads_of (dim_in f) coin, (Ok (Accept (reads_of (dim_in f) coin)), (coin_passes f coin p h, (refl, none.0 e coin h)), refl, refl)))),
        λ H. none.1 (λ coin h. let (reads, a) = exactly.1 H coin h 0 in accepts coin reads a),
      )

-- The same of the counter's rejects.
pub no_rejects_exactly : (f : List ℕ) (c : Counts) → Told f (Ok c)
    → (c.sweep.rejects ≡ 0) ↔ ProofAt (modulus_in f) (basis_in f) (shift_in f) (word_in f) (proof_in f)
no_rejects_exactly f c (p, t) = none_exactly f (answer.counted-file f p) c.sweep.rejects t.swept.rejecting
