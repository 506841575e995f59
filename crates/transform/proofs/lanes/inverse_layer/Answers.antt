-- add_low, then add_scaled.
use mathlib.Core.Path.{◌∙◌}
use Prim.Native.Nat.{◌/◌, ◌^◌}
use native.Mathlib.Omega.{arith}
use lib.ListN.{length}
use Rattle.field.specs.Binary.{degree}
use Rattle.transform.proofs.Layers.{power, list_below, low_below, scaled_length, back_done}
use Rattle.transform.proofs.lanes.inverse_layer.Goals.{Start}
use Rattle.transform.proofs.lanes.inverse_layer.Goals as goal

pub add_scaled-requires : goal.add_scaled-requires
add_scaled-requires c = let start = (goal.at.add_scaled-requires c).Start in
    let a = start.args in
    let pre = start.requires in record {
      sized = (pre.sized.0, pre.sized.1);
      below = (
        list_below (2 ^ degree a.f.modulus) a.j a.count a.lanes.now pre.below.0,
        low_below a.f.modulus (length a.values.now / 2) a.values.now _ pre.below.1 c.add_low.ensures,
        c.add_low.ensures.kept ∙ scaled_length a.f.modulus a.c a.j a.count a.lanes.now a.values.now pre.sized.3 pre.below.2 _ (power a.j (omega (arith, pre.sized.2))),
      );
    }

pub returns : goal.returns
returns c = let start = (goal.at.returns c).Start in
    let a = start.args in
    let pre = start.requires in
    back_done a.f.modulus a.c a.j a.count a.lanes.now a.values.now pre.sized.3 pre.below.2 _ _ _ (power a.j (omega (arith, pre.sized.2)))
    c.add_low.ensures c.add_scaled.ensures
