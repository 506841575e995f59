use native.Mathlib.Omega.{arith}
use Rattle.transform.proofs.Written.{written_next, written_all}
use Rattle.transform.proofs.slices.transpose.Goals as goal

pub loop-r-preserved : goal.loop-r-preserved
loop-r-preserved c = let a = c.args in
    written_next a.rows a.size a.from.now a.to.now c.requires.0 c.loop-r.r c.loop-r-test.true c.loop-r.to _ c.loop-r.invariant c.to_lane.ensures

pub returns : goal.returns
returns c = let a = c.args in
    written_all a.rows a.size a.from.now a.to.now c.requires.0 c.loop-r.r c.loop-r.to (omega arith) c.loop-r.invariant
