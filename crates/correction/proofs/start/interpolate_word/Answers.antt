-- `correction::start::interpolate_word` meets its contract: the transform in one lane, with no shift.
use Rattle.correction.proofs.StartLaws.{word_in_lanes, word_interpolated}
use Rattle.correction.proofs.start.interpolate_word.Goals.{Start, After-no_lanes-lanes, After-no_shift}
use Rattle.correction.proofs.start.interpolate_word.Goals as goal

pub interpolate-requires : goal.interpolate-requires
interpolate-requires c = let z = (goal.at.interpolate-requires c).After-no_shift in
    let l = (goal.at.After-no_shift z).After-no_lanes-lanes in
    let s = (goal.at.After-no_lanes-lanes l).Start in
    word_in_lanes s.args.f s.args.images.now s.args.k l.no_lanes-lanes.result z.no_shift.result l.no_lanes-lanes.ensures z.no_shift.ensures s.args.values.now s.requires

pub returns : goal.returns
returns c = let z = (goal.at.returns c).After-no_shift in
    let l = (goal.at.After-no_shift z).After-no_lanes-lanes in
    let s = (goal.at.After-no_lanes-lanes l).Start in
    word_interpolated s.args.f s.args.images.now s.args.k l.no_lanes-lanes.result z.no_shift.result l.no_lanes-lanes.ensures z.no_shift.ensures s.args.values.now s.requires
    c.interpolate.new.values c.interpolate.ensures
