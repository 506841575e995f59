use native.Mathlib.Omega.{arith}
use Rattle.rows.proofs.OwnLanes.{few_lanes, spread_fits, own_in_lanes, own_coefficients}
use Rattle.rows.proofs.interpolate_rows.Goals.{Start, After-block_size, After-transpose}
use Rattle.rows.proofs.interpolate_rows.Goals as goal

pub span_lanes-own-requires : goal.span_lanes-own-requires
span_lanes-own-requires c = let start = (goal.at.span_lanes-own-requires c).Start in
    let p = start.requires.0 in
    (few_lanes start.args.k p.high, omega (arith, p.high), omega (arith, p.high))

pub transpose-requires : goal.transpose-requires
transpose-requires c = let start = (goal.at.transpose-requires c).Start in
    let p = start.requires in
    spread_fits start.args.k c.rows.result c.block_size.result c.rows.ensures c.block_size.ensures start.args.word.now start.args.work.now p.1 p.3

pub interpolate-requires : goal.interpolate-requires
interpolate-requires c = let spread = (goal.at.interpolate-requires c).After-transpose in
    let size = (goal.at.After-transpose spread).After-block_size in
    let start = (goal.at.After-block_size size).Start in
    let a = start.args in
    let p = start.requires in
    own_in_lanes a.f a.k a.images.now p.0 size.span_lanes-own.result c.no_shift.result size.span_lanes-own.ensures c.no_shift.ensures
    size.rows.result size.block_size.result size.rows.ensures size.block_size.ensures a.word.now a.work.now spread.transpose.new.to p.1 p.2 p.3
    spread.transpose.ensures c.rows-2.result c.rows-2.ensures

pub returns : goal.returns
returns c = let spread = (goal.at.returns c).After-transpose in
    let size = (goal.at.After-transpose spread).After-block_size in
    let start = (goal.at.After-block_size size).Start in
    let a = start.args in
    let p = start.requires in
    own_coefficients a.f a.k a.images.now p.0 size.span_lanes-own.result c.no_shift.result size.span_lanes-own.ensures c.no_shift.ensures
    size.rows.result size.block_size.result size.rows.ensures size.block_size.ensures a.word.now a.work.now spread.transpose.new.to p.1 p.2 p.3
    spread.transpose.ensures c.rows-2.result c.rows-2.ensures c.interpolate.new.values c.interpolate.ensures
