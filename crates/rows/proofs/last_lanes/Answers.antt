use mathlib.Core.Path.{◌≡◌, subst}
use Prim.Native.Nat.{ℕ}
use native.Mathlib.Omega.{arith}
use Rattle.rows.proofs.LastBasis.{LastUpto, last_none, last_turn, last-all, lane_room}
use Rattle.rows.proofs.last_lanes.Goals.{Start, After-element_images-x, In-loop-r}
use Rattle.rows.proofs.last_lanes.Goals as goal

pub loop-r-init : goal.loop-r-init
loop-r-init c = let start = (goal.at.loop-r-init c).Start in
    last_none start.args.k start.requires.0 start.requires.1 start.args.images.now c.span_lanes-last.result c.span_lanes-last.ensures

module _ (c : goal.In-loop-r) where
  abbrev start : goal.Start
  start = (goal.at.In-loop-r c).Start

  abbrev image : goal.After-element_images-x
  image = (goal.at.In-loop-r c).After-element_images-x

pub to_lane-requires : goal.to_lane-requires
to_lane-requires c = let here = (goal.at.to_lane-requires c).In-loop-r in
    let s = start here in
    lane_room s.args.k s.requires.0 s.requires.1 s.args.images.now (image here).element_images-x.result (image here).element_images-x.ensures (image here).rows-rows.result (image here).rows-rows.ensures
    here.loop-r.r here.loop-r.last (omega arith) here.loop-r.invariant

pub loop-r-preserved : goal.loop-r-preserved
loop-r-preserved c = let here = (goal.at.loop-r-preserved c).In-loop-r in
    let s = start here in
    last_turn s.args.k s.requires.0 s.requires.1 s.args.images.now (image here).element_images-x.result (image here).element_images-x.ensures (image here).rows-rows.result (image here).rows-rows.ensures
    here.loop-r.r here.loop-r.last c.to_lane.new.to (omega arith) here.loop-r.invariant c.to_lane.ensures

pub returns : goal.returns
returns c = let l = c.loop-r in
    let s = (goal.at.returns c).Start in
    let last : l.r ≡ 4 = omega arith in
    last-all s.args.k s.requires.0 s.requires.1 s.args.images.now l.last (subst (λ (n : ℕ). LastUpto s.args.k n s.args.images.now l.last) last l.invariant)
