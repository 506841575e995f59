-- The invariant: x times `acc` is y.
use mathlib.Core.Path.{◌≡◌}
use Prim.Native.Nat.{◌^◌, ◌<◌}
use Rattle.field.specs.Binary.{degree, product}
use Rattle.field.proofs.inverse.inverse.Given as goal

abbrev pub invariant-loop-y : goal.invariant-loop-y
invariant-loop-y l = (0 < l.y) × (l.y < 2 ^ degree l.f.modulus) × (l.acc < 2 ^ degree l.f.modulus) × (product l.f.modulus l.x l.acc ≡ l.y)

abbrev pub decreases-loop-y : goal.decreases-loop-y
decreases-loop-y l = l.y
