use mathlib.Core.Path.{◌≡◌}
use mathlib.Core.Logic.{◌⊎◌, inl, inr}
use Prim.Native.Nat.{ℕ, ◌+◌, ◌≤◌, ◌<◌}
use native.Mathlib.Omega.{arith}
use Rattle.correction.proofs.StepLaws.{advanced_none, advanced_then}
use Rattle.correction.proofs.remainders.reduce.Goals.{In-loop-a, After-step-r}
use Rattle.correction.proofs.remainders.reduce.Goals as goal

floor : {a b m c : ℕ} → m < a → m ≤ b → (c ≡ b) ⊎ (c + 1 ≡ a) → m ≤ c
floor h l (inl e) = omega arith
floor h l (inr e) = omega arith

pub overflow_mul-at : goal.overflow_mul-at
overflow_mul-at c = omega (arith, c.requires.0.room)

pub loop-a-init : goal.loop-a-init
loop-a-init c = (advanced_none c.requires.0, c.requires.1)

pub step-r-requires : goal.step-r-requires
step-r-requires c = let i = (goal.at.step-r-requires c).In-loop-a in
    (i.loop-a.invariant.0.held, omega (arith, i.loop-a-test.true))

pub loop-a-smaller : goal.loop-a-smaller
loop-a-smaller c = c.step-r.ensures.1

pub loop-a-preserved : goal.loop-a-preserved
loop-a-preserved c = let t = (goal.at.loop-a-preserved c).After-step-r in
    let i = (goal.at.After-step-r t).In-loop-a in
    (advanced_then i.loop-a.invariant.0 t.step-r.ensures.0, floor i.loop-a-test.true i.loop-a.invariant.1 t.step-r.ensures.2)

pub shape_of-work : goal.shape_of-work
shape_of-work c = c.loop-a.invariant.0.kept

pub returns : goal.returns
returns c = (c.loop-a.invariant.0, omega arith, c.loop-a.invariant.1)
