-- `verifier::blocks::block` meets its contract: a case for each place of the block.
use mathlib.Core.Path.{◌≡◌, ap, ◌∙◌}
use Prim.Native.Nat.{ℕ, ◌+◌, ◌-◌, ◌≤◌, ◌<◌}
use native.Mathlib.Omega.{arith}
use lib.ListN.{length, take, drop}
use Rattle.lists.specs.Tables.{part, part-fits}
use Rattle.verifier.specs.Parts.{joined}
use Rattle.verifier.proofs.Laws.{block_at, block-before, block-after}
use Rattle.verifier.proofs.blocks.block.Goals.{Joined-slot-j, then-slot-j, else-slot-j}
use Rattle.verifier.proofs.blocks.block.Goals as goal

pub returns-then-j-slot : goal.returns-then-j-slot
returns-then-j-slot c = let a = c.args in
    block_at a.near.now a.far.now a.slot c.requires.0 a.j c.if-j-slot.true

pub overflow_mul-start : goal.overflow_mul-start
overflow_mul-start c = omega (arith, part-fits (length c.args.near.now) c.requires.1, c.requires.0.seven)

pub overflow_sub-start : goal.overflow_sub-start
overflow_sub-start c = omega (arith, part-fits (length c.args.near.now) c.if-slot-j.true)

-- where the two ways to a start meet
fits : (c : goal.Joined-slot-j) → c.if-slot-j.start + length c.args.near.now ≤ length c.args.far.now
fits c =
    let a = c.args in
    let pre = c.requires in
    let size = length a.near.now in
    let last = part-fits size pre.1 in
    elim c.if-slot-j.branch [
      | then-slot-j w ↦ omega (arith, last, pre.0.seven)
      | else-slot-j w ↦
          let below : a.j < a.slot = omega arith in
          omega (arith, part-fits size below, part-fits size pre.0.inside, pre.0.seven)
    ]

pub overflow_add-end : goal.overflow_add-end
overflow_add-end c = omega (arith, fits (goal.at.overflow_add-end c).Joined-slot-j)

pub offset_bounds-far-start : goal.offset_bounds-far-start
offset_bounds-far-start c = omega (arith, fits (goal.at.offset_bounds-far-start c).Joined-slot-j)

pub slice_bounds-result-end : goal.slice_bounds-result-end
slice_bounds-result-end c = fits (goal.at.slice_bounds-result-end c).Joined-slot-j

pub returns : goal.returns
returns c =
    let a = c.args in
    let pre = c.requires in
    let size = length a.near.now in
    let start = c.if-slot-j.start in
    let count : start + size - start ≡ size = omega arith in
    let right : take size (drop start a.far.now) ≡ part size a.j (joined a.near.now a.far.now a.slot) =
    elim c.if-slot-j.branch [
      | then-slot-j w ↦
          ap (λ (n : ℕ). take size (drop n a.far.now)) w.start-is
          ∙ block-after a.near.now a.far.now a.slot pre.0 a.j w.if-slot-j.true
      | else-slot-j w ↦
          let below : a.j < a.slot = omega arith in
          ap (λ (n : ℕ). take size (drop n a.far.now)) w.start-is
          ∙ block-before a.near.now a.far.now a.slot pre.0 a.j below
    ] in
    ap (λ (n : ℕ). take n (drop start a.far.now)) count ∙ right
