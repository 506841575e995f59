-- The invariant: v is q times d plus x, and x is below 2^i.
use mathlib.Core.Path.{◌≡◌}
use Prim.Native.Nat.{◌^◌, ◌≤◌, ◌<◌}
use Rattle.field.specs.Binary.{◌⊕◌, clmul}
use Rattle.field.proofs.division.divide.Given as goal

abbrev pub invariant-loop-i : goal.invariant-loop-i
invariant-loop-i l = (l.i ≤ 17) × (l.x < 2 ^ l.i) × (l.v ≡ clmul l.q l.d ⊕ l.x)
