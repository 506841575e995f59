use mathlib.Core.Path.{ap}
use mathlib.Core.Logic.{inl}
use Prim.Native.Nat.{ℕ}
use native.Mathlib.Omega.{arith}
use lib.ListN.{get_or}
use Rattle.lists.specs.Filled.{filled_next}
use Rattle.field.specs.Binary.{◌⊕◌}
use Rattle.transform.proofs.spans.add_element.Goals as goal

pub loop-e-preserved : goal.loop-e-preserved
unfolding ◌⊕◌
loop-e-preserved c = let s = c.loop-e.invariant in
    let e = c.loop-e.e in
    let x : ℕ = get_or c.loop-e.list e 0 ⊕ c.args.x in
    filled_next x (omega (arith, c.requires)) (ap (λ (y : ℕ). y ⊕ c.args.x) (s.outside e (inl (omega arith)))) s
