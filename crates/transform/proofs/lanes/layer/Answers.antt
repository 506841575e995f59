-- add_scaled, then add_low.
use Prim.Native.Nat.{◌^◌}
use native.Mathlib.Omega.{arith}
use Rattle.field.specs.Binary.{degree}
use Rattle.transform.proofs.Layers.{power, list_below, scaled_length, layer_done}
use Rattle.transform.proofs.lanes.layer.Goals.{Start}
use Rattle.transform.proofs.lanes.layer.Goals as goal

pub add_scaled-requires : goal.add_scaled-requires
add_scaled-requires c = let start = (goal.at.add_scaled-requires c).Start in
    let a = start.args in
    let pre = start.requires in record {
      sized = (pre.sized.0, pre.sized.1);
      below = (
        list_below (2 ^ degree a.f.modulus) a.j a.count a.lanes.now pre.below.0,
        pre.below.1,
        scaled_length a.f.modulus a.c a.j a.count a.lanes.now a.values.now pre.sized.3 pre.below.2 _ (power a.j (omega (arith, pre.sized.2))),
      );
    }

pub returns : goal.returns
returns c = let start = (goal.at.returns c).Start in
    let a = start.args in
    let pre = start.requires in
    layer_done a.f.modulus a.c a.j a.count a.lanes.now a.values.now pre.sized.3 pre.below.2 _ _ c.add_low.new.values (power a.j (omega (arith, pre.sized.2)))
    c.add_scaled.ensures c.add_low.ensures
