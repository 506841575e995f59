-- The invariant: no number from 2 to 2 i divides m.
use mathlib.Core.Path.{◌≡◌}
use Prim.Native.Nat.{◌+◌, ◌*◌, ◌/◌, ◌^◌, ◌≤◌}
use Rattle.field.specs.Binary.{degree}
use Rattle.field.specs.Decide.{NoneBelow}
use Rattle.field.proofs.modulus.irreducible.Given as goal

abbrev pub invariant-loop-i : goal.invariant-loop-i
invariant-loop-i l = (l.end ≡ 2 ^ (degree l.m / 2 + 1)) × (l.end ≤ 512) × NoneBelow l.m (2 * l.i + 1)
