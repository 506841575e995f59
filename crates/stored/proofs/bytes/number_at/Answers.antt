use mathlib.Core.Path.{sym, ap, ◌∙◌}
use mathlib.Core.Bool.{Bool}
use Prim.Native.Nat.{◌+◌, ◌*◌, ◌≤◌}
use native.Mathlib.Omega.{arith}
use lib.ListN.{length}
use Rattle.stored.specs.Bytes.{number_at}
use Rattle.stored.specs.Packed.{size_narrow, size-wide}
use Rattle.stored.proofs.bytes.number_at.Goals.{Start, Then-narrow, Else-narrow}
use Rattle.stored.proofs.bytes.number_at.Goals as goal

-- one byte
module _ (c : goal.Then-narrow) where
  abbrev start : goal.Start
  start = (goal.at.Then-narrow c).Start

  fits : start.args.at + (start.args.i + 1) ≤ length start.args.file.now
  fits = omega (arith, size_narrow start.args.narrow (start.args.i + 1) c.if-narrow.true, start.requires)

-- two
module _ (c : goal.Else-narrow) where
  abbrev begun : goal.Start
  begun = (goal.at.Else-narrow c).Start

  fits-two : begun.args.at + 2 * (begun.args.i + 1) ≤ length begun.args.file.now
  fits-two = omega (arith, size-wide begun.args.narrow (begun.args.i + 1) c.if-narrow.false, begun.requires)

pub overflow_add-result : goal.overflow_add-result
overflow_add-result c = omega (arith, fits c, (start c).well_formed)

pub bounds-file-at : goal.bounds-file-at
bounds-file-at c = omega (arith, fits (goal.at.bounds-file-at c).Then-narrow)

pub returns-then-narrow : goal.returns-then-narrow
returns-then-narrow c = let a = (start (goal.at.returns-then-narrow c).Then-narrow).args in sym (ap (λ (v : Bool). number_at v a.file.now a.at a.i) c.if-narrow.true)

pub overflow_mul-i : goal.overflow_mul-i
overflow_mul-i c = omega (arith, fits-two c, (begun c).well_formed)

pub overflow_add-at : goal.overflow_add-at
overflow_add-at c = omega (arith, fits-two c, (begun c).well_formed)

pub two_at-requires : goal.two_at-requires
two_at-requires c = omega (arith, fits-two c)

pub returns : goal.returns
returns c = let a = (begun (goal.at.returns c).Else-narrow).args in c.two_at.ensures ∙ sym (ap (λ (v : Bool). number_at v a.file.now a.at a.i) c.if-narrow.false)
