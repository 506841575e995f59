use mathlib.Core.Path.{◌≡◌, refl, sym, ◌∙◌}
use mathlib.Core.Logic.{inl, inr}
use Prim.Native.Nat.{◌+◌, ◌*◌}
use native.Mathlib.Omega.{arith}
use Rattle.field.specs.Decide.{irreducible_of_trials, reducible_of_factor, even_reducible, none-below_three, none-below-more}
use Rattle.field.specs.Division.{degree-less, trials_end}
use Rattle.field.proofs.modulus.irreducible.Goals.{At-loop-i}
use Rattle.field.proofs.modulus.irreducible.Goals as goal

pub returns-then-m-eq0 : goal.returns-then-m-eq0
returns-then-m-eq0 c = inr (refl, even_reducible c.args.m (omega arith) c.if-m-eq0.true)

pub overflow_shl-end : goal.overflow_shl-end
overflow_shl-end c = omega (arith, c.degree_of.ensures, degree-less c.args.m 17 (omega arith) (omega arith))

pub loop-i-init : goal.loop-i-init
loop-i-init c = let m = c.args.m in
    let d = degree-less m 17 (omega arith) (omega arith) in
    let e = c.degree_of.ensures in
    rw e ((trials_end m d).0, (trials_end m d).1, none-below_three m c.if-m-eq0.false)

pub returns-then-t-eq0 : goal.returns-then-t-eq0
returns-then-t-eq0 c = let head = (goal.at.returns-then-t-eq0 c).At-loop-i in
    let m = head.args.m in
    inr (refl, reducible_of_factor m (2 * head.loop-i.i + 1) (omega arith) (omega arith) (sym c.divide-t.ensures.remainder ∙ c.if-t-eq0.true))

pub loop-i-preserved : goal.loop-i-preserved
loop-i-preserved c = let head = (goal.at.loop-i-preserved c).At-loop-i in
    let inv = head.loop-i.invariant in
    let m = head.args.m in
    let next : 2 * (head.loop-i.i + 1) + 1 ≡ 2 * head.loop-i.i + 1 + 2 = omega arith in (
      inv.0,
      inv.1,
      rw next (none-below-more m (2 * head.loop-i.i + 1) head.if-m-eq0.false (omega arith) inv.2 (λ e. c.if-t-eq0.false (c.divide-t.ensures.remainder ∙ e))),
    )

pub returns : goal.returns
returns c = let inv = c.loop-i.invariant in
    inl (refl, irreducible_of_trials c.args.m (omega arith) (λ f h b. inv.2 f (omega arith) h))
