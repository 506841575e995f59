-- The loop's invariant: the first o numbers of the lane are written.
use Prim.Native.Nat.{ℕ}
use lib.ListN.{get_or}
use Rattle.lists.specs.Lanes.{Strided}
use Rattle.transform.proofs.slices.to_lane.Given as goal

abbrev pub invariant-loop-o : goal.invariant-loop-o
invariant-loop-o l = Strided l.rows l.r l.o (λ (i : ℕ). get_or l.from i 0) l.initial.to l.to
