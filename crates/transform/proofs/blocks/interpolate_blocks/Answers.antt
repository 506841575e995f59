-- The transform in lanes, with the images of the cosets.
use Rattle.transform.proofs.BlockLaws.{in_lanes, blocks_interpolated}
use Rattle.transform.proofs.blocks.interpolate_blocks.Goals as goal

pub interpolate-requires : goal.interpolate-requires
interpolate-requires c =
    let a = c.args in
    in_lanes a.f a.images.now a.k a.values.now c.requires c.span_lanes-lanes.result c.no_shift.result c.span_lanes-lanes.ensures c.no_shift.ensures

pub returns : goal.returns
returns c =
    let a = c.args in
    blocks_interpolated a.f.modulus c.requires.irreducible a.images.now a.k c.requires.low c.span_lanes-lanes.result c.no_shift.result
    c.span_lanes-lanes.ensures c.no_shift.ensures a.values.now c.interpolate.new.values c.interpolate.ensures
