-- The loop's invariant: e sums are written.
use Prim.Native.Nat.{ℕ}
use lib.ListN.{get_or}
use Rattle.lists.specs.Filled.{Filled}
use Rattle.field.specs.Binary.{◌⊕◌}
use Rattle.transform.proofs.spans.add_element.Given as goal

abbrev pub invariant-loop-e : goal.invariant-loop-e
invariant-loop-e l = Filled l.n l.e (λ (i : ℕ). get_or l.initial.list i 0 ⊕ l.x) l.initial.list l.list
