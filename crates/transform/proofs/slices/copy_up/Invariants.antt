-- The loop's invariant: i numbers are copied.
use mathlib.Core.Path.{◌≡◌}
use lib.ListN.{length, take}
use Rattle.lists.specs.Stretch.{turned}
use Rattle.transform.proofs.slices.copy_up.Given as goal

abbrev pub invariant-loop-i : goal.invariant-loop-i
invariant-loop-i l = (length l.values ≡ length l.initial.values) × (l.values ≡ turned l.n l.n (take l.n l.initial.values) l.initial.values l.i)
