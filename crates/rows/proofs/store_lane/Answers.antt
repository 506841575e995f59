use mathlib.Core.Path.{refl}
use native.Mathlib.Omega.{arith}
use Prim.Native.Nat.{◌+◌, ◌*◌, ◌^◌, ◌≤◌}
use lib.Pow.{pow_mono}
use Rattle.space.specs.Sizes.{max_dim, max_column}
use Rattle.proximity.specs.Dim.{col_dim}
use Rattle.rows.proofs.Stores.{lane-fits, lane-small, lane_room, lane-stored}
use Rattle.rows.proofs.store_lane.Goals.{Start, After-number, After-rows}
use Rattle.rows.proofs.store_lane.Goals as goal

pub number-requires : goal.number-requires
number-requires c = let start = (goal.at.number-requires c).Start in
    let few : 2 ^ col_dim start.args.k ≤ max_column = pow_mono {j = col_dim max_dim} (omega arith) in
    (omega arith, start.requires.le_k.3, start.requires.le_k.4)

module _ (c : goal.After-number) where
  abbrev start : goal.Start
  start = (goal.at.After-number c).Start

  small : c.number.result * c.block_size-size.result + c.block_size-size.result ≤ 7 * 2 ^ max_dim
  small =
      let a = start.args in
      let p = start.requires in
      lane-small a.k a.r a.j c.number.result c.block_size-size.result (2 ^ col_dim a.k) p.le_k.1 p.le_k.2 p.le_k.3 p.le_k.4 c.number.ensures c.block_size-size.ensures refl
      a.values.now a.proof.now p.k_in_bounds.0 p.k_in_bounds.1

pub overflow_mul-at : goal.overflow_mul-at
overflow_mul-at c = omega (arith, small c)

pub overflow_add-end : goal.overflow_add-end
overflow_add-end c = omega (arith, small c)

pub offset_bounds-proof-at : goal.offset_bounds-proof-at
offset_bounds-proof-at c = omega (arith, small (goal.at.offset_bounds-proof-at c).After-number)

pub slice_bounds-from_lane-end : goal.slice_bounds-from_lane-end
slice_bounds-from_lane-end c = let n = (goal.at.slice_bounds-from_lane-end c).After-number in
    let a = (start n).args in
    let p = (start n).requires in
    lane-fits a.k a.r a.j n.number.result n.block_size-size.result (2 ^ col_dim a.k) p.le_k.1 p.le_k.2 p.le_k.3 p.le_k.4 n.number.ensures n.block_size-size.ensures refl
    a.values.now a.proof.now p.k_in_bounds.0 p.k_in_bounds.1

pub from_lane-requires : goal.from_lane-requires
from_lane-requires c = let n = (goal.at.from_lane-requires c).After-number in
    let a = (start n).args in
    let p = (start n).requires in
    lane_room a.k a.r a.j n.number.result n.block_size-size.result c.rows.result p.le_k.1 p.le_k.2 p.le_k.3 p.le_k.4 n.number.ensures n.block_size-size.ensures c.rows.ensures
    a.values.now a.proof.now p.k_in_bounds.0 p.k_in_bounds.1

pub returns : goal.returns
returns c = let rows = (goal.at.returns c).After-rows in
    let n = (goal.at.After-rows rows).After-number in
    let a = (start n).args in
    let p = (start n).requires in
    lane-stored a.k a.r a.j n.number.result n.block_size-size.result rows.rows.result p.le_k.1 p.le_k.2 p.le_k.3 p.le_k.4 n.number.ensures n.block_size-size.ensures rows.rows.ensures
    a.values.now a.proof.now p.k_in_bounds.0 p.k_in_bounds.1 c.from_lane.new.to c.from_lane.ensures
