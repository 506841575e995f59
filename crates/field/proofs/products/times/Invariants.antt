-- The loop's invariant: `acc` is the shifted product of x with the bits of y at place i and above.
use mathlib.Core.Path.{◌≡◌}
use Prim.Native.Nat.{◌-◌, ◌*◌, ◌/◌, ◌^◌}
use Rattle.field.specs.Binary.{product}
use Rattle.field.proofs.products.times.Given as goal

abbrev pub invariant-loop-i : goal.invariant-loop-i
invariant-loop-i l = l.acc ≡ product l.modulus l.x (l.y / 2 ^ l.i) * 2 ^ (16 - l.l)
