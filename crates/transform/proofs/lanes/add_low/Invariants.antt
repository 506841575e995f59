-- The loop's invariant: i sums are written.
use Prim.Native.Nat.{ℕ, ◌+◌}
use lib.ListN.{get_or}
use Rattle.lists.specs.Filled.{Filled}
use Rattle.field.specs.Binary.{◌⊕◌}
use Rattle.transform.proofs.lanes.add_low.Given as goal

abbrev pub invariant-loop-i : goal.invariant-loop-i
invariant-loop-i l = Filled l.n l.i (λ (j : ℕ). get_or l.initial.values (l.n + j) 0 ⊕ get_or l.initial.values j 0) l.initial.values l.values
