-- `novel::convert::table` meets its contract. Assumes nothing.
use mathlib.Core.List.{List}
use Prim.Native.Nat.{ℕ, ◌+◌, ◌-◌, ◌<◌, ◌^◌}
use native.Mathlib.Omega.{arith}
use lib.ListN.{get_or}
use lib.Pow.{pow_pos, pow_mono}
use Rattle.novel.specs.Sparse.{table_cells}
use Rattle.space.specs.Sizes.{max_dim}
use Rattle.lists.specs.All.{All-at}
use Rattle.lists.specs.Upto.{Upto}
use Rattle.field.specs.Binary.{◌⊕◌, degree}
use Rattle.novel.proofs.Cells.{cell, cells-start, cells-next, cells-below, cells-all}
use Rattle.novel.proofs.convert.table.Goals.{Start, After-cells-t, At-loop-next}
use Rattle.novel.proofs.convert.table.Goals as goal

pub mul-requires : goal.mul-requires
mul-requires c = let start = (goal.at.mul-requires c).After-cells-t in
    let m : ℕ = start.args.f.modulus in
    let one : 1 < 2 ^ degree m = omega (arith, pow_mono {i = 1} {j = degree m} (omega (arith, start.requires.0.right, start.requires.0.positive))) in
    (start.requires.0, All-at (λ (x : ℕ). x < 2 ^ degree m) start.args.steps.now 0 start.requires.3 (pow_pos (degree m)) 0, one)

pub loop-next-init : goal.loop-next-init
loop-next-init c = let start = (goal.at.loop-next-init c).After-cells-t in
    λ irr. cells-start start.args.f.modulus irr start.args.steps.now c.cells-t.result c.mul.result c.cells-t.ensures c.mul.ensures

-- what is known at the loop's head
module _ (c : goal.At-loop-next) where
  abbrev start : goal.Start
  start = (goal.at.At-loop-next c).Start

  abbrev m : ℕ
  m = start.args.f.modulus

  abbrev steps : List ℕ
  steps = start.args.steps.now

  filled : Upto table_cells c.loop-next.next (cell m start.requires.1 steps) c.loop-next.t
  filled = c.loop-next.invariant start.requires.1

  step-symbol : (j : ℕ) → get_or steps j 0 < 2 ^ degree m
  step-symbol = All-at (λ (x : ℕ). x < 2 ^ degree m) steps 0 start.requires.3 (pow_pos (degree m))

  cell-symbol : (p : ℕ) → get_or c.loop-next.t p 0 < 2 ^ degree m
  cell-symbol = All-at (λ (x : ℕ). x < 2 ^ degree m) c.loop-next.t 0 (cells-below m start.requires.1 steps start.requires.3 filled) (pow_pos (degree m))

pub mul-a-requires : goal.mul-a-requires
mul-a-requires c = let here = (goal.at.mul-a-requires c).At-loop-next in
    ((start here).requires.0, step-symbol here _, cell-symbol here _)

pub mul-requires-in-loop-next : goal.mul-requires-in-loop-next
mul-requires-in-loop-next c = let here = (goal.at.mul-requires-in-loop-next c).At-loop-next in
    ((start here).requires.0, cell-symbol here _, cell-symbol here _)

pub loop-next-preserved : goal.loop-next-preserved
unfolding ◌⊕◌
loop-next-preserved c = let here = (goal.at.loop-next-preserved c).At-loop-next in
    let n = here.loop-next.next in
    λ irr. cells-next (m here) irr (steps here) n (n - (max_dim + 1)) c.mul-a.result c.mul-in-loop-next.result (omega arith) (omega arith) (here.loop-next.invariant irr) c.mul-a.ensures c.mul-in-loop-next.ensures

pub returns : goal.returns
returns c = let here = (goal.at.returns c).At-loop-next in
    cells-all (m here) (start here).requires.1 (steps here) here.loop-next.next (start here).args.count (start here).requires.2 (start here).requires.3 (omega arith) (filled here)
