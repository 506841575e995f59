-- The loop's invariant: steps lead from the first state to this one, and b is m or more.
use Prim.Native.Nat.{◌+◌, ◌*◌, ◌≤◌}
use Rattle.correction.specs.Pairs.{Advanced}
use Rattle.correction.proofs.remainders.reduce.Given as goal

abbrev pub invariant-loop-a : goal.invariant-loop-a
invariant-loop-a l = Advanced l.f l.n l.n l.n (4 * l.n) l.initial.work l.a l.b l.at l.work × (l.m ≤ l.b)

abbrev pub decreases-loop-a : goal.decreases-loop-a
decreases-loop-a l = l.a + l.b
