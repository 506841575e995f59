use mathlib.Core.Path.{◌≡◌, sym, ap, ◌∙◌}
use Prim.Native.Nat.{ℕ, ◌<◌, ◌^◌}
use native.Mathlib.Omega.{arith}
use Rattle.std.proofs.Common.{get_or-take}
use Rattle.field.specs.Binary.{◌⊕◌, degree}
use Rattle.field.specs.Xor.{xor_below}
use Rattle.space.specs.Values.{value_at}
use Rattle.space.proofs.Laws.{sized_positive, symbol_at, value_none, value-next, value-below}
use Rattle.space.proofs.values.value.Goals.{At-loop-s}
use Rattle.space.proofs.values.value.Goals as goal

pub loop-s-init : goal.loop-s-init
loop-s-init c = sym (value_none c.args.f.modulus c.args.steps.now c.args.x)

-- y at the loop's head is a symbol
module _ (c : goal.At-loop-s) where
  abbrev m : ℕ
  m = c.args.f.modulus

  y-symbol : c.loop-s.y < 2 ^ degree m
  y-symbol = value-below m c.args.steps.now (sized_positive c.requires.0) c.loop-s.s-index c.args.x c.loop-s.y c.requires.3 c.loop-s.invariant

pub mul-y-requires : goal.mul-y-requires
unfolding ◌⊕◌
mul-y-requires c = let here = (goal.at.mul-y-requires c).At-loop-s in
    let inside : here.loop-s.s-index < here.args.j = omega arith in
    rw get_or-take (here.requires.0, y-symbol here, xor_below (degree (m here)) (y-symbol here) (symbol_at (m here) here.args.steps.now here.requires.1 here.loop-s.s-index))

pub loop-s-preserved : goal.loop-s-preserved
unfolding ◌⊕◌
loop-s-preserved c = let here = (goal.at.loop-s-preserved c).At-loop-s in
    let inside : here.loop-s.s-index < here.args.j = omega arith in
    rw get_or-take at c.mul-y.ensures ∙ value-next (m here) here.args.steps.now here.loop-s.s-index here.args.x here.loop-s.y here.loop-s.invariant

pub returns : goal.returns
returns c = let here = (goal.at.returns c).At-loop-s in
    let last : here.loop-s.s-index ≡ here.args.j = omega arith in
    here.loop-s.invariant ∙ ap (λ (k : ℕ). value_at (m here) here.args.steps.now k here.args.x) last
