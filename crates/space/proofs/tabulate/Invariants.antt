-- The loop's invariant: the tables hold what belongs to the first i basis elements.
use Prim.Native.Nat.{◌≤◌, ◌^◌}
use lib.ListN.{length}
use Rattle.lists.specs.All.{Below}
use Rattle.field.specs.Binary.{degree, Irreducible}
use Rattle.space.proofs.Progress.{SoFar}
use Rattle.space.specs.Sizes.{max_dim}
use Rattle.space.proofs.tabulate.Given as goal

abbrev pub invariant-loop-i : goal.invariant-loop-i
invariant-loop-i l =
    (irr : Irreducible l.f.modulus) (few : length l.basis ≤ max_dim) (sb : Below (2 ^ degree l.f.modulus) l.basis) → SoFar l.f.modulus irr l.basis few sb l.i l.images l.steps l.inverses
