-- The loop's invariant: y is W_j(x), and the images of number below j are written.
use mathlib.Core.Path.{◌≡◌}
use Prim.Native.Nat.{◌*◌}
use Rattle.lists.specs.Filled.{Filled}
use Rattle.space.specs.Values.{value_at, image_at}
use Rattle.space.proofs.values.fill_row.Given as goal

abbrev pub invariant-loop-j : goal.invariant-loop-j
invariant-loop-j l = (l.y ≡ value_at l.f.modulus l.steps l.j l.x) × Filled (16 * l.i) l.j (image_at l.f.modulus l.steps l.inverses l.x) l.initial.images l.images
