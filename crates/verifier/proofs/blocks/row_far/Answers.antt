use mathlib.Core.Path.{◌≡◌, ap₂}
use Prim.Native.Nat.{ℕ, ◌+◌, ◌-◌, ◌*◌, ◌^◌, ◌≤◌}
use native.Mathlib.Omega.{arith}
use Rattle.lists.specs.Tables.{part-fits}
use Rattle.proximity.specs.Dim.{half}
use Rattle.proximity.specs.Layout.{seven}
use Rattle.proximity.specs.Tree.{S_node}
use lib.ListN.{length, take, drop}
use Rattle.verifier.proofs.blocks.row_far.Goals.{Start, After-block_size}
use Rattle.verifier.proofs.blocks.row_far.Goals as goal

-- the seven blocks lie in the proof
module _ (c : goal.After-block_size) where
  abbrev start : goal.Start
  start = (goal.at.After-block_size c).Start

  fits : c.blocks_at-at.result + 7 * c.block_size.result ≤ length start.args.proof.now
  fits =
      omega (
        arith,
        c.blocks_at-at.ensures,
        c.block_size.ensures,
        part-fits (7 * 2 ^ half start.args.k) start.requires.3,
        seven start.args.k,
        S_node start.args.k start.requires.0,
        start.requires.2,
      )

pub overflow_mul-end : goal.overflow_mul-end
overflow_mul-end c = omega (arith, fits c)

pub overflow_add-end : goal.overflow_add-end
overflow_add-end c = omega (arith, fits c)

pub offset_bounds-proof-at : goal.offset_bounds-proof-at
offset_bounds-proof-at c = omega (arith, fits c, (start c).well_formed)

pub slice_bounds-result-end : goal.slice_bounds-result-end
slice_bounds-result-end c = fits (goal.at.slice_bounds-result-end c).After-block_size

pub returns : goal.returns
returns c = let e = (goal.at.returns c).After-block_size in
    let a = (start e).args in
    let count : e.blocks_at-at.result + 7 * e.block_size.result - e.blocks_at-at.result ≡ 7 * 2 ^ half a.k = omega (arith, e.block_size.ensures) in
    ap₂ (λ (x y : ℕ). take x (drop y a.proof.now)) count e.blocks_at-at.ensures
