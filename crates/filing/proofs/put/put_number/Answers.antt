use Prim.Native.Nat.{◌+◌, ◌*◌, ◌%◌, ◌≤◌}
use native.Mathlib.Omega.{arith}
use lib.ListN.{length, length-set}
use Rattle.stored.specs.Packed.{size_narrow, size-wide}
use Rattle.filing.specs.Put.{put_narrow, put-wide}
use Rattle.filing.proofs.put.put_number.Goals.{Start, Then-narrow, Else-narrow, After-put_two}
use Rattle.filing.proofs.put.put_number.Goals as goal

module _ (c : goal.Then-narrow) where
  abbrev start : goal.Start
  start = (goal.at.Then-narrow c).Start

  fits : start.args.at + (start.args.i + 1) ≤ length start.args.out.now
  fits = omega (arith, size_narrow start.args.narrow (start.args.i + 1) c.if-narrow.true, start.requires.0)

module _ (c : goal.Else-narrow) where
  abbrev begun : goal.Start
  begun = (goal.at.Else-narrow c).Start

  fits-two : begun.args.at + 2 * (begun.args.i + 1) ≤ length begun.args.out.now
  fits-two = omega (arith, size-wide begun.args.narrow (begun.args.i + 1) c.if-narrow.false, begun.requires.0)

pub overflow_add-out : goal.overflow_add-out
overflow_add-out c = omega (arith, fits c, (start c).well_formed)

pub bounds-out-at : goal.bounds-out-at
bounds-out-at c = omega (arith, fits c)

pub overflow_mul-i : goal.overflow_mul-i
overflow_mul-i c = omega (arith, fits-two c, (begun c).well_formed)

pub overflow_add-at : goal.overflow_add-at
overflow_add-at c = omega (arith, fits-two c, (begun c).well_formed)

pub put_two-requires : goal.put_two-requires
put_two-requires c = omega (arith, fits-two (goal.at.put_two-requires c).Else-narrow)

pub shape_of-out-then-narrow : goal.shape_of-out-then-narrow
shape_of-out-then-narrow c = let a = (start c).args in length-set a.out.now (a.at + a.i) (a.x % 256)

pub returns-then-narrow : goal.returns-then-narrow
returns-then-narrow c = let a = (start c).args in put_narrow a.narrow a.x a.at a.i a.out.now c.if-narrow.true (start c).requires.0 (start c).requires.1

pub shape_of-out-else-narrow : goal.shape_of-out-else-narrow
shape_of-out-else-narrow c = c.put_two.ensures.kept

pub returns-else-narrow : goal.returns-else-narrow
returns-else-narrow c = let t = (goal.at.returns-else-narrow c).After-put_two in
    let e = (goal.at.After-put_two t).Else-narrow in
    let a = (begun e).args in
    put-wide a.narrow a.x a.at a.i a.out.now _ e.if-narrow.false t.put_two.ensures
