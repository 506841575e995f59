-- The transform in lanes, with the images of the cosets.
use Rattle.transform.proofs.BlockLaws.{in_lanes, blocks_evaluated}
use Rattle.transform.proofs.blocks.evaluate_blocks.Goals as goal

pub evaluate-requires : goal.evaluate-requires
evaluate-requires c =
    let a = c.args in
    in_lanes a.f a.images.now a.k a.values.now c.requires c.span_lanes-lanes.result c.no_shift.result c.span_lanes-lanes.ensures c.no_shift.ensures

pub returns : goal.returns
returns c =
    let a = c.args in
    blocks_evaluated a.f.modulus c.requires.irreducible a.images.now a.k c.requires.low c.span_lanes-lanes.result c.no_shift.result
    c.span_lanes-lanes.ensures c.no_shift.ensures a.values.now c.evaluate.new.values c.requires.symbols c.evaluate.ensures
