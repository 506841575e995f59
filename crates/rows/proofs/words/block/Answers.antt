-- `rows::words::block` meets its contract: a case for the block in the word, one for a stored block.
use mathlib.Core.Path.{◌≡◌, sym, ◌∙◌}
use Prim.Native.Nat.{◌+◌, ◌*◌, ◌^◌, ◌≤◌}
use native.Mathlib.Omega.{arith}
use lib.ListN.{length}
use Rattle.space.specs.Sizes.{max_dim}
use Rattle.proximity.specs.Proof.{slot}
use Rattle.rows.proofs.Gathering.{few_rows, own_fits, own_block, stored-fits, cut-block}
use Rattle.rows.proofs.words.block.Goals.{Start, After-block_size-size, After-number}
use Rattle.rows.proofs.words.block.Goals as goal

pub overflow_mul-own : goal.overflow_mul-own
overflow_mul-own c = let s = (goal.at.overflow_mul-own c).Start in
    let a = s.args in
    let p = s.requires in
    omega (arith, (own_fits a.k p.le_k.1 a.word.now a.proof.now p.le_k.2 p.le_k.3 a.r p.r_bound.0 c.block_size-size.result c.block_size-size.ensures).1)

pub overflow_add-next : goal.overflow_add-next
overflow_add-next c = let s = (goal.at.overflow_add-next c).Start in
    let a = s.args in
    let p = s.requires in
    omega (arith, (own_fits a.k p.le_k.1 a.word.now a.proof.now p.le_k.2 p.le_k.3 a.r p.r_bound.0 c.block_size-size.result c.block_size-size.ensures).1)

pub offset_bounds-word-own : goal.offset_bounds-word-own
offset_bounds-word-own c = let s = (goal.at.offset_bounds-word-own c).Start in
    let a = s.args in
    let p = s.requires in
    omega (arith, (own_fits a.k p.le_k.1 a.word.now a.proof.now p.le_k.2 p.le_k.3 a.r p.r_bound.0 c.block_size-size.result c.block_size-size.ensures).1)

pub slice_bounds-result-end : goal.slice_bounds-result-end
slice_bounds-result-end c = let s = (goal.at.slice_bounds-result-end c).Start in
    let a = s.args in
    let p = s.requires in
    (own_fits a.k p.le_k.1 a.word.now a.proof.now p.le_k.2 p.le_k.3 a.r p.r_bound.0 c.block_size-size.result c.block_size-size.ensures).0

pub returns-then-j-slot : goal.returns-then-j-slot
returns-then-j-slot c = let size = (goal.at.returns-then-j-slot c).After-block_size-size in
    let s = (goal.at.After-block_size-size size).Start in
    let a = s.args in
    let p = s.requires in
    own_block a.k p.le_k.1 a.word.now a.proof.now p.le_k.2 p.le_k.3 a.r p.r_bound.0 size.block_size-size.result size.block_size-size.ensures a.j (c.if-j-slot.true ∙ c.slot.ensures)

pub number-requires : goal.number-requires
number-requires c = let size = (goal.at.number-requires c).After-block_size-size in
    let s = (goal.at.After-block_size-size size).Start in
    let a = s.args in
    let p = s.requires in (
      few_rows a.k p.le_k.1 a.word.now a.proof.now p.le_k.2 p.le_k.3 a.r p.r_bound.0 size.block_size-size.result size.block_size-size.ensures,
      p.r_bound.1,
      λ e. c.if-j-slot.false (e ∙ sym c.slot.ensures),
    )

-- a stored block
module _ (c : goal.After-number) where
  abbrev size : goal.After-block_size-size
  size = (goal.at.After-number c).After-block_size-size

  abbrev start : goal.Start
  start = (goal.at.After-number c).Start

  apart : start.args.j ≡ slot start.args.r → ⊥
  apart e = c.if-j-slot.false (e ∙ sym c.slot.ensures)

  fits : (c.number.result * size.block_size-size.result + size.block_size-size.result ≤ length start.args.proof.now) × (c.number.result * size.block_size-size.result + size.block_size-size.result ≤ 7 * 2 ^ max_dim)
  fits =
      let a = start.args in
      let p = start.requires in
      stored-fits a.k p.le_k.1 a.word.now a.proof.now p.le_k.2 p.le_k.3 a.r p.r_bound.0 size.block_size-size.result size.block_size-size.ensures a.j c.number.result p.r_bound.1 apart c.number.ensures

pub overflow_mul-at : goal.overflow_mul-at
overflow_mul-at c = omega (arith, (fits c).1)

pub overflow_add-end : goal.overflow_add-end
overflow_add-end c = omega (arith, (fits c).1)

pub offset_bounds-proof-at : goal.offset_bounds-proof-at
offset_bounds-proof-at c = omega (arith, (fits c).1)

pub slice_bounds-result-end-2 : goal.slice_bounds-result-end-2
slice_bounds-result-end-2 c = (fits (goal.at.slice_bounds-result-end-2 c).After-number).0

pub returns : goal.returns
returns c = let n = (goal.at.returns c).After-number in
    let a = (start n).args in
    let p = (start n).requires in
    cut-block a.k p.le_k.1 a.word.now a.proof.now p.le_k.2 p.le_k.3 a.r p.r_bound.0 (size n).block_size-size.result (size n).block_size-size.ensures a.j n.number.result p.r_bound.1 (apart n) n.number.ensures
