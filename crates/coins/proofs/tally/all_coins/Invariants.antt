-- The loop's invariant: the verdicts below the coin are counted.
use mathlib.Core.Path.{◌≡◌}
use Rattle.verifier.specs.Checker.{reads_of}
use Rattle.stored.specs.File.{dim_in}
use Rattle.coins.specs.Counted.{Counted}
use Rattle.coins.specs.Totals.{Rejects, most_of}
use Rattle.coins.proofs.tally.all_coins.Given as goal

abbrev pub invariant-loop-coin : goal.invariant-loop-coin
invariant-loop-coin l = Counted (Rejects l.file) l.coin l.rejects × (l.most ≡ most_of l.coin (reads_of (dim_in l.file)))
