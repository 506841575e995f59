-- The loop's invariant: the first i numbers are added.
use Prim.Native.Nat.{◌≤◌}
use Rattle.correction.specs.Rows.{Added}
use Rattle.correction.proofs.rows.add_multiple.Given as goal

abbrev pub invariant-loop-i : goal.invariant-loop-i
invariant-loop-i l = (l.i ≤ l.n) × Added l.f.modulus l.c l.from l.to l.i l.initial.values l.values
