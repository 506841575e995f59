-- The loop's invariant: the first j entries are written.
use Prim.Native.Nat.{ℕ, ◌+◌, ◌*◌}
use lib.ListN.{get_or}
use Rattle.lists.specs.Filled.{Filled}
use Rattle.field.specs.Binary.{◌⊕◌}
use Rattle.proximity.proofs.spaces.with_row.Given as goal

abbrev pub invariant-loop-j : goal.invariant-loop-j
invariant-loop-j l = Filled 0 l.j (λ (k : ℕ). get_or l.initial.y-items k 0 ⊕ get_or l.images (16 * l.i + k) 0) l.initial.y-items l.y-items
