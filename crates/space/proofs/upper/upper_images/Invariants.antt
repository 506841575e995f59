-- The loop's invariant: the first p - shift entries are written, and the rest are 0.
use mathlib.Core.Path.{◌≡◌}
use Prim.Native.Nat.{◌+◌, ◌*◌, ◌-◌}
use lib.ListN.{get_or}
use Rattle.lists.specs.Upto.{Upto}
use Rattle.space.specs.Sizes.{cells}
use Rattle.space.proofs.upper.upper_images.Given as goal

abbrev pub invariant-loop-p : goal.invariant-loop-p
invariant-loop-p l = (l.shift ≡ 17 * l.h) × Upto cells (l.p - l.shift) (λ p. get_or l.images (p + 17 * l.h) 0) l.t
