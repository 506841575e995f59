use mathlib.Core.Path.{◌≡◌, ap}
use Prim.Native.Nat.{ℕ, ◌+◌, ◌*◌, ◌^◌, ◌≤◌, ◌<◌}
use native.Mathlib.Omega.{arith}
use lib.ListN.{length}
use Rattle.lists.specs.Overwrite.{length_cut}
use Rattle.lists.specs.Tables.{part}
use Rattle.space.specs.Sizes.{max_line}
use Rattle.proximity.specs.Dim.{half}
use Rattle.proximity.specs.Proof.{block}
use Rattle.rows.proofs.Gathering.{length_of_block, block_room, gathered_next, gathered_row}
use Rattle.rows.proofs.words.row_word.Goals.{Start, After-block_size-size, In-loop-j}
use Rattle.rows.proofs.words.row_word.Goals as goal

module _ (c : goal.In-loop-j) where
  abbrev size : goal.After-block_size-size
  size = (goal.at.In-loop-j c).After-block_size-size

  abbrev start : goal.Start
  start = (goal.at.In-loop-j c).Start

  room : c.loop-j.j * size.block_size-size.result + size.block_size-size.result ≤ max_line
  room =
      let a = start.args in
      let p = start.requires in
      block_room a.k p.1 a.word.now a.proof.now p.2 p.3 a.r p.4 size.block_size-size.result size.block_size-size.ensures c.loop-j.j c.loop-j-test.true

pub slice_bounds-out-end : goal.slice_bounds-out-end
slice_bounds-out-end c = let fits : c.loop-j.j * c.block_size-size.result + c.block_size-size.result ≤ length c.loop-j.out = omega (arith, room (goal.at.slice_bounds-out-end c).In-loop-j, c.loop-j.invariant.0) in fits

pub copy-requires : goal.copy-requires
copy-requires c = let here = (goal.at.copy-requires c).In-loop-j in
    let l = here.loop-j in
    let z = size here in
    let a = (start here).args in
    let p = (start here).requires in
    omega (
      arith,
      ap length c.block.ensures,
      length_of_block a.k p.1 a.word.now a.proof.now p.2 p.3 a.r p.4 z.block_size-size.result z.block_size-size.ensures l.j here.loop-j-test.true,
      length_cut (l.j * z.block_size-size.result) z.block_size-size.result l.out (omega (arith, room here, l.invariant.0)),
      z.block_size-size.ensures,
    )

pub loop-j-preserved : goal.loop-j-preserved
loop-j-preserved c = let here = (goal.at.loop-j-preserved c).In-loop-j in
    let l = here.loop-j in
    let z = size here in
    let a = (start here).args in
    let p = (start here).requires in
    gathered_next a.k p.1 a.word.now a.proof.now p.2 p.3 a.r p.4 z.block_size-size.result z.block_size-size.ensures l.j here.loop-j-test.true l.out
    c.block.result.now c.copy.new.dst l.invariant c.block.ensures c.copy.ensures

pub returns : goal.returns
returns c = let l = c.loop-j in
    let z = (goal.at.returns c).After-block_size-size in
    let s = (goal.at.After-block_size-size z).Start in
    let a = s.args in
    let p = s.requires in
    let last : l.j ≡ 8 = omega arith in
    let g : (length l.out ≡ max_line) × ((i : ℕ) → i < 8 → part (2 ^ half a.k) i l.out ≡ block a.k a.word.now a.proof.now a.r i) = (l.invariant.0, λ i h. l.invariant.1 i (omega arith)) in
    (l.invariant.0, gathered_row a.k p.1 a.word.now a.proof.now p.2 p.3 a.r p.4 z.block_size-size.result z.block_size-size.ensures l.out g)
