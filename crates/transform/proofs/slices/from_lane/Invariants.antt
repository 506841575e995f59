-- The loop's invariant: the first o numbers are those of the lane.
use Prim.Native.Nat.{ℕ, ◌+◌, ◌*◌}
use lib.ListN.{get_or}
use Rattle.lists.specs.Filled.{Filled}
use Rattle.transform.proofs.slices.from_lane.Given as goal

abbrev pub invariant-loop-o : goal.invariant-loop-o
invariant-loop-o l = Filled 0 l.o (λ (i : ℕ). get_or l.from (i * l.rows + l.r) 0) l.initial.to l.to
