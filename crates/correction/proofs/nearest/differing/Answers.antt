use mathlib.Core.Path.{◌≡◌, sym, ◌∙◌}
use Prim.Native.Nat.{◌+◌, ◌*◌, ◌/◌, ◌%◌, ◌<◌}
use native.Mathlib.Omega.{arith}
use lib.ListN.{length, get_or}
use Rattle.evaluation.specs.Lanes.{in_order, length_in_order, get_or_in_order}
use Rattle.correction.proofs.Counting.{differences-same, differences-other}
use Rattle.correction.proofs.nearest.differing.Goals.{then-x-lanes, else-x-lanes}
use Rattle.correction.proofs.nearest.differing.Goals as goal

pub loop-i-preserved : goal.loop-i-preserved
loop-i-preserved c = let word = c.args.word.now in
    let size = c.args.size in
    let lanes = c.args.lanes.now in
    let i = c.loop-i.i in
    let n = c.loop-i.n in
    let s = c.loop-i.invariant in
    let inside : i < 8 * size = omega (arith, c.requires) in
    let symbol : get_or (in_order size lanes) i 0 ≡ get_or lanes (i % size * 8 + i / size) 0 = get_or_in_order size lanes i inside in
    let covered : i < length (in_order size lanes) = omega (arith, length_in_order size lanes) in
    elim c.if-x-lanes.branch [
      | then-x-lanes w ↦ (
        omega (arith, w.n-is, s.0),
        omega (arith, w.n-is, differences-other word (in_order size lanes) i n c.loop-i-test.true covered (λ e. w.if-x-lanes.true (e ∙ symbol)), s.1),
      )
      | else-x-lanes w ↦ (
        omega (arith, w.n-is, s.0),
        omega (arith, w.n-is, differences-same word (in_order size lanes) i n c.loop-i-test.true covered (w.if-x-lanes.false ∙ sym symbol), s.1),
      )
    ]
