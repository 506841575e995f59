use mathlib.Core.Path.{ap}
use mathlib.Core.Logic.{inr}
use Prim.Native.Nat.{ℕ}
use native.Mathlib.Omega.{arith}
use lib.ListN.{get_or}
use Rattle.lists.specs.Filled.{filled-front}
use Rattle.field.specs.Binary.{◌⊕◌}
use Rattle.transform.specs.Lanes.{image_at}
use Rattle.transform.proofs.lanes.shifted.Goals as goal

pub loop-j-preserved : goal.loop-j-preserved
unfolding ◌⊕◌
loop-j-preserved c = let s = c.loop-j.invariant in
    let j = c.loop-j.j in
    let image : ℕ = image_at c.args.images.now c.args.i j in
    filled-front (get_or c.loop-j.y-items j 0 ⊕ image) (omega arith) (ap (λ (y : ℕ). y ⊕ image) (s.outside j (inr (omega arith)))) s
