use mathlib.Core.Path.{ap₂}
use mathlib.Core.Logic.{inl, inr}
use Prim.Native.Nat.{ℕ, ◌+◌, ◌/◌}
use native.Mathlib.Omega.{arith}
use lib.ListN.{length, get_or}
use Rattle.lists.specs.Filled.{filled_next}
use Rattle.field.specs.Binary.{◌⊕◌}
use Rattle.transform.proofs.lanes.add_low.Goals as goal

pub loop-i-preserved : goal.loop-i-preserved
unfolding ◌⊕◌
loop-i-preserved c = let s = c.loop-i.invariant in
    let n : ℕ = length c.args.values.now / 2 in
    let i = c.loop-i.i in
    let x : ℕ = get_or c.loop-i.values (n + i) 0 ⊕ get_or c.loop-i.values i 0 in
    filled_next x (omega arith) (ap₂ ◌⊕◌ (s.outside (n + i) (inr (omega arith))) (s.outside i (inl (omega arith)))) s
