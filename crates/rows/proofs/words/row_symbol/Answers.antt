use mathlib.Core.Path.{sym, ap, ◌∙◌, subst}
use mathlib.Core.List.{List}
use Prim.Native.Nat.{ℕ, ◌%◌, ◌^◌, ◌≤◌, ◌<◌}
use native.Mathlib.Omega.{arith}
use native.Mathlib.Nat.{mod-lt}
use lib.ListN.{length, get_or}
use lib.Pow.{pow_pos, pow_mono}
use Rattle.space.specs.Sizes.{max_dim}
use Rattle.proximity.specs.Dim.{half}
use Rattle.rows.proofs.Gathering.{of_block, in_block, symbol_of_block}
use Rattle.rows.proofs.words.row_symbol.Goals.{Start, After-block_size-size}
use Rattle.rows.proofs.words.row_symbol.Goals as goal

module _ (c : goal.After-block_size-size) where
  abbrev start : goal.Start
  start = (goal.at.After-block_size-size c).Start

  pos : 0 < c.block_size-size.result
  pos = omega (arith, c.block_size-size.ensures, pow_pos (half start.args.k))

  few : 2 ^ half start.args.k ≤ 2 ^ half max_dim
  few = pow_mono {j = half max_dim} (omega (arith, start.requires.le_k.1))

pub block-b-requires : goal.block-b-requires
block-b-requires c = let a = (start c).args in
    let p = (start c).requires in
    record { le_k = p.le_k; r_bound = (p.r_bound.0, of_block a.k p.le_k.1 a.word.now a.proof.now p.le_k.2 p.le_k.3 a.r p.r_bound.0 c.block_size-size.result c.block_size-size.ensures a.a p.r_bound.1) }

pub offset_bounds-b-a : goal.offset_bounds-b-a
offset_bounds-b-a c = omega (arith, pos (goal.at.offset_bounds-b-a c).After-block_size-size, mod-lt (start (goal.at.offset_bounds-b-a c).After-block_size-size).args.a (pos (goal.at.offset_bounds-b-a c).After-block_size-size), c.block_size-size.ensures, few (goal.at.offset_bounds-b-a c).After-block_size-size)

pub bounds-b-a : goal.bounds-b-a
bounds-b-a c = let s = (goal.at.bounds-b-a c).After-block_size-size in
    let a = (start s).args in
    let p = (start s).requires in
    subst (λ (l : List ℕ). a.a % s.block_size-size.result < length l) (sym c.block-b.ensures)
    (in_block a.k p.le_k.1 a.word.now a.proof.now p.le_k.2 p.le_k.3 a.r p.r_bound.0 s.block_size-size.result s.block_size-size.ensures a.a p.r_bound.1)

pub returns : goal.returns
returns c = let s = (goal.at.returns c).After-block_size-size in
    let a = (start s).args in
    let p = (start s).requires in
    ap (λ (l : List ℕ). get_or l (a.a % s.block_size-size.result) 0) c.block-b.ensures
    ∙ symbol_of_block a.k p.le_k.1 a.word.now a.proof.now p.le_k.2 p.le_k.3 a.r p.r_bound.0 s.block_size-size.result s.block_size-size.ensures a.a p.r_bound.1
