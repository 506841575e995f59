-- The loop's invariant: the first j lists are done.
use Rattle.transform.specs.Layers.{Scaled}
use Rattle.transform.proofs.lanes.add_scaled.Given as goal

abbrev pub invariant-loop-j : goal.invariant-loop-j
invariant-loop-j l = Scaled l.f.modulus l.c l.t l.k l.j l.initial.values l.values
