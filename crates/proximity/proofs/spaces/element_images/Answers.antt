use mathlib.Core.Path.{sym, ◌∙◌, subst}
use mathlib.Core.List.{List}
use Prim.Native.Nat.{ℕ, ◌+◌, ◌/◌}
use native.Mathlib.Omega.{arith}
use Rattle.proximity.proofs.Rows.{Summed, summed_none, summed_one, summed_zero, summed_all}
use Rattle.proximity.proofs.spaces.element_images.Goals.{then-rest-eq1, else-rest-eq1}
use Rattle.proximity.proofs.spaces.element_images.Goals as goal

pub loop-i-init : goal.loop-i-init
loop-i-init c = let a = c.args in summed_none a.images.now a.h a.c a.r

pub loop-i-preserved : goal.loop-i-preserved
loop-i-preserved c =
    let a = c.args in
    let next : List ℕ → Type 0 = λ x. Summed a.images.now a.h a.c a.r x (c.loop-i.rest / 2) (c.loop-i.i + 1) in
    elim c.if-rest-eq1.branch [
      | then-rest-eq1 w ↦ subst next (sym (w.x-is ∙ w.with_row-y.ensures)) (summed_one a.images.now a.h a.c a.r (omega arith) w.if-rest-eq1.true c.loop-i.invariant)
      | else-rest-eq1 w ↦ subst next (sym w.x-is) (summed_zero a.images.now a.h a.c a.r (omega arith) (omega (arith, w.if-rest-eq1.false)) c.loop-i.invariant)
    ]

pub returns : goal.returns
returns c = let a = c.args in summed_all a.images.now a.h a.c a.r (omega arith) c.loop-i.invariant
