-- `evaluation::fill_lanes` meets its contract. Assumes nothing.
use mathlib.Core.Path.{sym, ap, subst, ◌∙◌}
use mathlib.Core.List.{List}
use Prim.Native.Nat.{ℕ, ◌*◌}
use lib.ListN.{length}
use Rattle.transform.specs.Blocks.{InBlocks, BlocksEvaluated}
use Rattle.transform.proofs.BlockLaws.{eight}
use Rattle.evaluation.proofs.WordLaws.{filling_blocks, lanes_filled}
use Rattle.evaluation.proofs.fill_lanes.Goals.{Start}
use Rattle.evaluation.proofs.fill_lanes.Goals as goal

pub spread-requires : goal.spread-requires
spread-requires c = let start = (goal.at.spread-requires c).Start in
    start.requires.1 ∙ eight start.args.k start.requires.0.low ∙ ap (λ (n : ℕ). n * 8) (sym start.requires.0.count)

pub evaluate_blocks-requires : goal.evaluate_blocks-requires
evaluate_blocks-requires c = let start = (goal.at.evaluate_blocks-requires c).Start in
    subst (InBlocks start.args.f start.args.images.now start.args.k) (sym c.spread.ensures) (filling_blocks start.requires.0 (length start.args.lanes.now) start.requires.1)

pub returns : goal.returns
returns c = let start = (goal.at.returns c).Start in
    let a = start.args in
    let new : List ℕ = c.evaluate_blocks.new.values in
    lanes_filled start.requires.0 (length a.lanes.now) new start.requires.1
    (subst (λ (l : List ℕ). BlocksEvaluated a.f.modulus a.images.now a.k l new) c.spread.ensures c.evaluate_blocks.ensures)
