-- The loop's invariant: y is W_i(x), i the index of the step.
use mathlib.Core.Path.{◌≡◌}
use Rattle.space.specs.Values.{value_at}
use Rattle.space.proofs.values.value.Given as goal

abbrev pub invariant-loop-s : goal.invariant-loop-s
invariant-loop-s l = l.y ≡ value_at l.f.modulus l.steps l.s-index l.x
