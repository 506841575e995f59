use mathlib.Core.Path.{◌≡◌, ap, ◌∙◌}
use mathlib.Core.Logic.{inr}
use Prim.Native.Nat.{ℕ, ◌+◌, ◌*◌}
use native.Mathlib.Omega.{arith}
use lib.ListN.{length, get_or}
use Rattle.lists.specs.Filled.{filled-front, filled-all}
use Rattle.lists.specs.Tables.{tab}
use Rattle.field.specs.Binary.{◌⊕◌}
use Rattle.proximity.specs.LineImages.{added_row}
use Rattle.proximity.proofs.spaces.with_row.Goals as goal

pub loop-j-preserved : goal.loop-j-preserved
unfolding ◌⊕◌
loop-j-preserved c = let s = c.loop-j.invariant in
    let j = c.loop-j.j in
    let entry : ℕ = get_or c.args.images.now (16 * c.args.i + j) 0 in
    filled-front (get_or c.loop-j.y-items j 0 ⊕ entry) (omega arith) (ap (λ (y : ℕ). y ⊕ entry) (s.outside j (inr (omega arith)))) s

pub returns : goal.returns
unfolding added_row
returns c = let a = c.args in
    let last : c.loop-j.j ≡ 16 = omega arith in
    let long : length a.x ≡ c.loop-j.j = omega arith in
    filled-all long c.loop-j.invariant ∙ ap (λ (n : ℕ). tab n (λ j. get_or a.x j 0 ⊕ get_or a.images.now (16 * a.i + j) 0)) last
