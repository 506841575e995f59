-- From the answers of `stored` to those for C. Assumes nothing.
use Rattle.std.specs.Prelude.{Ok, List, ℕ, ◌^◌, ◌≤◌}
use Rattle.std.proofs.Common.{arith, pow_mono}
use Rattle.proximity.specs.Dim.{dim}
use Rattle.proximity.specs.Reads.{few_reads}
use Rattle.verifier.specs.declared.Rejection.{Rejection}
use Rattle.verifier.specs.declared.Verdict.TheVariants.{Accept, Reject}
use Rattle.stored.specs.Check.{AnsweredFile}
use Rattle.stored.specs.File.{dim_in}
use Rattle.stored.proofs.OnSymbols.{file_bounds}

module _ (f : List ℕ) (coin : ℕ) where
  pub few_accepted : (n : ℕ) → AnsweredFile f coin (Ok (Accept n)) → n ≤ 64
  few_accepted n a = omega (arith, a.1, few_reads (dim (dim_in f)) coin)

  pub few_rejected : (r : Rejection) → AnsweredFile f coin (Ok (Reject r)) → (r.reads ≤ 64) × (r.degree ≤ 63) × (r.dimension ≤ 6)
  few_rejected r a =
      let b = file_bounds f coin r a in
      let most : 2 ^ r.dimension ≤ 64 = pow_mono {i = r.dimension} {j = 6} b.six in
      (omega (arith, b.count), omega (arith, b.high), b.six)
