use mathlib.Core.Path.{refl, ap, ◌∙◌}
use mathlib.Core.List.{List}
use Prim.Native.Nat.{ℕ, ◌/◌, ◌%◌, ◌^◌}
use native.Mathlib.Omega.{arith}
use lib.ListN.{get_or}
use lib.Seq.{take_all}
use Rattle.field.specs.Binary.{◌⊕◌}
use Rattle.field.specs.Symbols.{symbols}
use Rattle.poly.specs.Span.{elem}
use Rattle.field.proofs.Aligned.{bit_times-le}
use Rattle.space.proofs.Spans.{element_next}
use Rattle.space.proofs.elements.element.Goals.{At-loop-j}
use Rattle.space.proofs.elements.element.Goals as goal

pub loop-j-init : goal.loop-j-init
loop-j-init c = λ m. refl

pub overflow_mul-sum : goal.overflow_mul-sum
overflow_mul-sum c = let here = (goal.at.overflow_mul-sum c).At-loop-j in
    let a = here.args in
    omega (arith, c.type_inv.basis here.loop-j.j, bit_times-le (a.i / 2 ^ here.loop-j.j % 2) (get_or a.basis.now here.loop-j.j 0) (omega arith))

pub loop-j-preserved : goal.loop-j-preserved
unfolding ◌⊕◌
loop-j-preserved c = let here = (goal.at.loop-j-preserved c).At-loop-j in
    let a = here.args in
    λ m. element_next m a.basis.now a.i here.loop-j.j here.loop-j.sum (omega arith) (here.loop-j.invariant m)

pub returns : goal.returns
returns c = let here = (goal.at.returns c).At-loop-j in
    let a = here.args in
    λ m. here.loop-j.invariant m ∙ ap (λ (l : List ℕ). elem (symbols m) l a.i) (take_all here.loop-j.j a.basis.now (omega arith))
