-- The loop's invariant: the first r lists are written.
use Rattle.transform.proofs.Written.{Written}
use Rattle.transform.proofs.slices.transpose.Given as goal

abbrev pub invariant-loop-r : goal.invariant-loop-r
invariant-loop-r l = Written l.rows l.size l.r l.from l.initial.to l.to
