use native.Mathlib.Omega.{arith}
use Rattle.filing.specs.Put.{put_next}
use Rattle.filing.proofs.put.put_numbers.Goals.{Start, At-loop-i, After-put_number}
use Rattle.filing.proofs.put.put_numbers.Goals as goal

pub loop-i-preserved : goal.loop-i-preserved
loop-i-preserved c = let t = (goal.at.loop-i-preserved c).After-put_number in
    let h = (goal.at.After-put_number t).At-loop-i in
    let a = h.args in
    put_next a.narrow a.xs.now (omega arith) h.loop-i.invariant t.put_number.ensures
