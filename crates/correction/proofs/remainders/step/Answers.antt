use mathlib.Core.Path.{refl}
use mathlib.Core.Logic.{inl, inr}
use native.Mathlib.Omega.{arith}
use Rattle.correction.proofs.StepLaws.{at_most, read-inside, step_skip, reduces, step-reduce, turns, step-turn}
use Rattle.correction.proofs.remainders.step.Goals.{Start, Then-b-a, Else-b-a}
use Rattle.correction.proofs.remainders.step.Goals as goal

pub overflow_sub-next : goal.overflow_sub-next
overflow_sub-next c = let s = (goal.at.overflow_sub-next c).Start in omega (arith, at_most s.requires.0 s.requires.1)

pub overflow_add-next : goal.overflow_add-next
overflow_add-next c = let s = (goal.at.overflow_add-next c).Start in omega (arith, read-inside s.requires.0 s.requires.1)

pub offset_bounds-work-next : goal.offset_bounds-work-next
offset_bounds-work-next c = let s = (goal.at.offset_bounds-work-next c).Start in omega (arith, read-inside s.requires.0 s.requires.1)

pub bounds-work-next : goal.bounds-work-next
bounds-work-next c = let s = (goal.at.bounds-work-next c).Start in read-inside s.requires.0 s.requires.1

pub returns-then-work-next-eq0 : goal.returns-then-work-next-eq0
returns-then-work-next-eq0 c = let s = (goal.at.returns-then-work-next-eq0 c).Start in
    (step_skip s.requires.0 s.requires.1 c.if-work-next-eq0.true, omega (arith, s.requires.1), inl refl)

pub cancel-requires : goal.cancel-requires
cancel-requires c = let t = (goal.at.cancel-requires c).Then-b-a in
    let s = (goal.at.Then-b-a t).Start in
    reduces s.requires.0 s.requires.1 t.if-b-a.true

pub returns-then-b-a : goal.returns-then-b-a
returns-then-b-a c = let t = (goal.at.returns-then-b-a c).Then-b-a in
    let s = (goal.at.Then-b-a t).Start in
    (step-reduce s.requires.0 s.requires.1 t.if-b-a.true _ c.cancel.ensures, omega (arith, s.requires.1), inl refl)

pub cancel-requires-2 : goal.cancel-requires-2
cancel-requires-2 c = let t = (goal.at.cancel-requires-2 c).Else-b-a in
    let s = (goal.at.Else-b-a t).Start in
    turns s.requires.0 s.requires.1 t.if-b-a.false t.if-work-next-eq0.false

pub returns : goal.returns
returns c = let t = (goal.at.returns c).Else-b-a in
    let s = (goal.at.Else-b-a t).Start in
    (step-turn s.requires.0 s.requires.1 t.if-b-a.false t.if-work-next-eq0.false _ c.cancel-2.ensures, omega (arith, s.requires.1), inr (omega (arith, s.requires.1)))
