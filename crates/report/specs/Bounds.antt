-- How large the numbers of an entry are. Assumes nothing.
use Rattle.std.specs.Prelude.{Result, Ok, Err, List, ℕ, ◌^◌, ◌≤◌, ◌<◌, length}
use Rattle.std.proofs.Common.{arith, pow_mono}
use Rattle.proximity.specs.Dim.{R}
use Rattle.proximity.specs.LineLaws.{R-small}
use Rattle.coins.specs.Counted.{counted-most}
use Rattle.coins.specs.Totals.{Rejects}
use Rattle.stored.specs.File.{dim_in}
use Rattle.report.specs.Entry.{file_in, Told}
use Rattle.report.specs.EntryLaws.{entry_present, file_few}
use Rattle.refusals.specs.declared.Refusal.{Refusal}
use Rattle.report.specs.Report.{most_files, most_coins, Fair}
use Rattle.report.specs.Total.{Countable}
use Rattle.report.specs.declared.Total.{Total}
use Rattle.report.specs.declared.Entry.{Entry}

-- the end is within the bytes, and coins and rejects are few
pub record Bounded (s : List ℕ) (e : Entry) : Type 0 where
  pub end : e.end ≤ length s
  pub coins : e.sweep.coins ≤ most_coins
  pub rejects : e.sweep.rejects ≤ most_coins

pub told_bounded : (s : List ℕ) (e : Entry) → Told s (Ok e) → Bounded s e
told_bounded s e (p, (t, g)) =
    let bits : ℕ = R (dim_in (file_in s)) in
    let most : 2 ^ bits ≤ most_coins = pow_mono {i = bits} {j = 25} (omega (arith, R-small (dim_in (file_in s)) (omega (arith, file_few s p)))) in
    record {
      end = omega (arith, entry_present s p);
      coins = omega (arith, t.all);
      rejects = omega (arith, counted-most (Rejects (file_in s)) (2 ^ bits) t.rejecting);
    }

-- a file more can be counted
pub countable : (s : List ℕ) (n : ℕ) (t : Total) → Fair n t → n < most_files → (r : Result Entry Refusal) → Told s r → Countable t r
countable s n t f h (Ok e) x =
    let b = told_bounded s e x in
    (omega (arith, f.files), omega (arith, f.coins), omega (arith, f.rejects), (omega (arith, b.coins), omega (arith, b.rejects)))
countable s n t f h (Err d) x = (omega (arith, f.files), omega (arith, f.coins), omega (arith, f.rejects), tt)
