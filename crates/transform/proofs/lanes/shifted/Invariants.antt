-- The loop's invariant: j sums are written.
use Prim.Native.Nat.{ℕ}
use lib.ListN.{get_or}
use Rattle.lists.specs.Filled.{Filled}
use Rattle.field.specs.Binary.{◌⊕◌}
use Rattle.transform.specs.Lanes.{image_at}
use Rattle.transform.proofs.lanes.shifted.Given as goal

abbrev pub invariant-loop-j : goal.invariant-loop-j
invariant-loop-j l = Filled 0 l.j (λ (k : ℕ). get_or l.initial.y-items k 0 ⊕ image_at l.images l.i k) l.initial.y-items l.y-items
