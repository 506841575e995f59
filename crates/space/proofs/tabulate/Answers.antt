use mathlib.Core.Path.{◌≡◌, sym, ◌∙◌, subst}
use mathlib.Core.List.{List}
use Prim.Native.Nat.{ℕ, ◌≤◌, ◌<◌, ◌^◌}
use native.Mathlib.Omega.{arith}
use lib.ListN.{length}
use Rattle.lists.specs.All.{Below, All-inside}
use Rattle.field.specs.Binary.{degree, Irreducible}
use Rattle.field.specs.Symbols.{symbols, symbols-field}
use Rattle.poly.specs.Novel.{step}
use Rattle.poly.proofs.Novel.{step_sym}
use Rattle.space.proofs.Progress.{SoFar, so_far-none, so_far-next, tabled_none, tabled_all, steps-below, inverses_below, step_right}
use Rattle.space.specs.Sizes.{max_dim}
use Rattle.space.proofs.tabulate.Goals.{Start, At-loop-i, After-fill_row-s}
use Rattle.space.proofs.tabulate.Goals as goal

pub loop-i-init : goal.loop-i-init
loop-i-init c = let a = c.args in
    λ irr few sb. so_far-none a.f.modulus irr a.basis.now few sb

-- what is known at the loop's head
module _ (c : goal.At-loop-i) where
  abbrev start : goal.Start
  start = (goal.at.At-loop-i c).Start

  abbrev m : ℕ
  m = start.args.f.modulus

  abbrev bs : List ℕ
  bs = start.args.basis.now

  abbrev irr : Irreducible m
  irr = start.requires.1

  abbrev few : length bs ≤ max_dim
  few = start.requires.2

  abbrev sb : Below (2 ^ degree m) bs
  sb = start.requires.3

  so_far : SoFar m irr bs few sb c.loop-i.i c.loop-i.images c.loop-i.steps c.loop-i.inverses
  so_far = c.loop-i.invariant irr few sb

-- the step that a turn finds
module _ (c : goal.After-fill_row-s) where
  abbrev head : goal.At-loop-i
  head = (goal.at.After-fill_row-s c).At-loop-i

  inside : head.loop-i.i < length (bs head)
  inside = c.loop-i-test.true

  found : c.fill_row-s.result ≡ step (symbols (m head)) (bs head) head.loop-i.i
  found = c.fill_row-s.ensures.0 ∙ step_right (m head) (irr head) (bs head) (few head) (sb head) (so_far head) inside

pub slice_bounds-fill_row-end : goal.slice_bounds-fill_row-end
slice_bounds-fill_row-end c = sym (so_far (goal.at.slice_bounds-fill_row-end c).At-loop-i).rows.count

pub fill_row-s-requires : goal.fill_row-s-requires
fill_row-s-requires c = let here = (goal.at.fill_row-s-requires c).At-loop-i in
    let s = so_far here in record { sized = ((start here).requires.0, omega (arith, few here), All-inside (λ (x : ℕ). x < 2 ^ degree (m here)) (bs here) 0 (sb here) here.loop-i.i (omega arith)); below = (steps-below (m here) (irr here) (bs here) (few here) (sb here) s, inverses_below (m here) (irr here) (bs here) (few here) (sb here) s, s.rows.count) }

pub returns-then-s-eq0 : goal.returns-then-s-eq0
returns-then-s-eq0 c = let at = (goal.at.returns-then-s-eq0 c).After-fill_row-s in
    let here = head at in
    tabled_none (m here) (irr here) (bs here) (few here) (sb here) here.loop-i.i (inside at) (sym (found at) ∙ c.if-s-eq0.true)

pub inverse-requires : goal.inverse-requires
inverse-requires c = let at = (goal.at.inverse-requires c).After-fill_row-s in
    let here = head at in record { sized = ((start here).requires.0, irr here); x_nonzero = (omega (arith, c.if-s-eq0.false), subst (λ (x : ℕ). x < 2 ^ degree (m here)) (sym (found at)) (step_sym (symbols-field (m here) (irr here)) (bs here) (sb here) here.loop-i.i)) }

pub loop-i-preserved : goal.loop-i-preserved
loop-i-preserved c = let at = (goal.at.loop-i-preserved c).After-fill_row-s in
    let here = head at in
    λ irr' few' sb'. so_far-next (m here) irr' (bs here) few' sb' (here.loop-i.invariant irr' few' sb') (inside at) (λ z. c.if-s-eq0.false (found at ∙ z)) _ at.fill_row-s.ensures.1
    at.fill_row-s.result c.inverse.result (found at) c.inverse.ensures

pub returns : goal.returns
returns c = let here = (goal.at.returns c).At-loop-i in
    let last : here.loop-i.i ≡ length (bs here) = omega arith in
    tabled_all (m here) (irr here) (bs here) (few here) (sb here)
    (subst (λ (i : ℕ). SoFar (m here) (irr here) (bs here) (few here) (sb here) i here.loop-i.images here.loop-i.steps here.loop-i.inverses) last (so_far here))
