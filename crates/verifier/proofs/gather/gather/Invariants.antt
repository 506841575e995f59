-- The loop's invariant: the first b blocks are written.
use mathlib.Core.Path.{◌≡◌}
use lib.ListN.{length}
use Rattle.transform.proofs.Written.{Written}
use Rattle.verifier.specs.Parts.{joined, no_symbols}
use Rattle.verifier.proofs.gather.gather.Given as goal

abbrev pub invariant-loop-b : goal.invariant-loop-b
invariant-loop-b l = (length l.out ≡ 64) × Written 8 (length l.near) l.b (joined l.near l.far l.slot) no_symbols l.out
