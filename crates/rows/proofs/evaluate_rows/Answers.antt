use Prim.Native.Nat.{◌*◌, ◌^◌, ◌%◌}
use Rattle.rows.proofs.Passes.{power, pass_in_lanes, pass_values}
use Rattle.rows.proofs.evaluate_rows.Goals.{Start, After-copy_up, After-pass_lanes-from}
use Rattle.rows.proofs.evaluate_rows.Goals as goal

pub evaluate-requires : goal.evaluate-requires
evaluate-requires c = let lanes = (goal.at.evaluate-requires c).After-pass_lanes-from in
    let copy = (goal.at.After-pass_lanes-from lanes).After-copy_up in
    let start = (goal.at.After-copy_up copy).Start in
    let a = start.args in
    let p = start.requires in
    pass_in_lanes a.f a.k a.j a.images.now a.last.now p.in_table.0 p.in_table.1 p.in_table.2 lanes.pass_lanes-from.result lanes.element_images-shift.result
    lanes.pass_lanes-from.ensures.0 lanes.pass_lanes-from.ensures.1 lanes.element_images-shift.ensures
    (1 * 2 ^ a.k % 18446744073709551616) (power a.k p.in_table.0.high) a.work.now copy.copy_up.new.values p.k_in_bounds.0 copy.copy_up.ensures p.k_in_bounds.1 c.rows.result c.rows.ensures

pub returns : goal.returns
returns c = let lanes = (goal.at.returns c).After-pass_lanes-from in
    let copy = (goal.at.After-pass_lanes-from lanes).After-copy_up in
    let start = (goal.at.After-copy_up copy).Start in
    let a = start.args in
    let p = start.requires in
    pass_values a.f a.k a.j a.images.now a.last.now p.in_table.0 p.in_table.1 p.in_table.2 lanes.pass_lanes-from.result lanes.element_images-shift.result
    lanes.pass_lanes-from.ensures.0 lanes.pass_lanes-from.ensures.1 lanes.element_images-shift.ensures
    (1 * 2 ^ a.k % 18446744073709551616) (power a.k p.in_table.0.high) a.work.now copy.copy_up.new.values p.k_in_bounds.0 copy.copy_up.ensures p.k_in_bounds.1 c.rows.result c.rows.ensures
    c.evaluate.new.values c.evaluate.ensures
