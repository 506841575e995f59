use mathlib.Core.Path.{refl}
use Prim.Native.Nat.{◌+◌, ◌*◌, ◌<◌}
use native.Mathlib.Omega.{arith}
use lib.ListN.{length, get_or}
use Rattle.lists.specs.Lanes.{place-fits, strided_next}
use Rattle.transform.proofs.slices.to_lane.Goals as goal

pub loop-o-preserved : goal.loop-o-preserved
loop-o-preserved c = let a = c.args in
    let o = c.loop-o.o in
    let inside : o * a.rows + a.r < length a.from.now * a.rows = place-fits c.loop-o-test.true c.requires.0 in
    strided_next a.rows a.r (get_or a.from.now o 0) (omega arith) (omega (arith, inside)) refl c.loop-o.invariant
