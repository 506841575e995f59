-- The loop's invariant: n differences stand before position i.
use mathlib.Core.Path.{◌≡◌}
use Prim.Native.Nat.{◌+◌, ◌≤◌}
use lib.ListN.{drop}
use Rattle.evaluation.specs.Lanes.{in_order}
use Rattle.correction.specs.Differences.{differences}
use Rattle.correction.proofs.nearest.differing.Given as goal

abbrev pub invariant-loop-i : goal.invariant-loop-i
invariant-loop-i l = (l.n ≤ l.i) × (l.n + differences (drop l.i l.word) (drop l.i (in_order l.size l.lanes)) ≡ differences l.word (in_order l.size l.lanes))
