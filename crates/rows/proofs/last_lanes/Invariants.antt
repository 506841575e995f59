-- The loop's invariant: the first r lanes have b_(h+3).
use Rattle.rows.proofs.LastBasis.{LastUpto}
use Rattle.rows.proofs.last_lanes.Given as goal

abbrev pub invariant-loop-r : goal.invariant-loop-r
invariant-loop-r l = LastUpto l.k l.r l.images l.last
