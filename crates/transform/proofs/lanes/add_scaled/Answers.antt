use mathlib.Core.Path.{refl}
use Prim.Native.Nat.{◌*◌, ◌/◌}
use lib.ListN.{length}
use Rattle.space.proofs.Laws.{sized_positive}
use Rattle.transform.proofs.Scaling.{scaled_next, half_length}
use Rattle.transform.proofs.lanes.add_scaled.Goals as goal

pub loop-j-preserved : goal.loop-j-preserved
loop-j-preserved c = let a = c.args in
    let l = c.loop-j in
    let pre = c.requires in
    rw c.add_products.ensures
    (scaled_next a.f.modulus a.c a.t.now a.k a.values.now pre.below.2 l.j (l.j * length a.t.now) (length a.values.now / 2) l.values c.loop-j-test.true refl
    (half_length a.f.modulus a.c a.t.now a.k a.values.now pre.below.2) l.invariant (sized_positive pre.sized.0))
