use mathlib.Core.Path.{◌≡◌, ◌∙◌, subst}
use Prim.Native.Nat.{ℕ, ◌^◌, ◌≤◌, ◌<◌}
use native.Mathlib.Omega.{arith}
use lib.ListN.{length, get_or, length-replicate}
use lib.Pow.{pow_mono}
use Rattle.lists.specs.Filled.{Filled, filled-front, filled_take}
use Rattle.space.specs.Sizes.{max_dim, max_line, max_column}
use Rattle.proximity.specs.Dim.{half, col_dim}
use Rattle.proximity.specs.Proof.{row}
use Rattle.proximity.specs.Subspaces.{pow_four, pow_eight}
use Rattle.rows.proofs.words.column_word.Invariants.{zeros}
use Rattle.rows.proofs.words.column_word.Goals.{Start, At-loop-r, In-loop-r}
use Rattle.rows.proofs.words.column_word.Goals as goal

length-zeros : length zeros ≡ max_line
length-zeros = length-replicate {A = ℕ} max_line 0

module _ (c : goal.In-loop-r) where
  abbrev start : goal.Start
  start = (goal.at.In-loop-r c).Start

  abbrev k : ℕ
  k = start.args.k

  few : 2 ^ col_dim k ≤ max_column
  few = pow_mono {j = col_dim max_dim} (omega (arith, start.requires.1))

  inside : c.loop-r.r < 2 ^ col_dim k
  inside = omega (arith, c.loop-r-test.true, c.rows-rows.ensures)

pub row_symbol-requires : goal.row_symbol-requires
row_symbol-requires c = let p = (start c).requires in
    record { le_k = (p.0, p.1, p.2, p.3); r_bound = (inside c, omega (arith, p.4, pow_four (half (k c)), pow_eight (half (k c)))) }

pub loop-r-preserved : goal.loop-r-preserved
loop-r-preserved c = let here = (goal.at.loop-r-preserved c).At-loop-r in
    filled-front c.row_symbol.result (omega (arith, few (goal.at.loop-r-preserved c).In-loop-r, inside (goal.at.loop-r-preserved c).In-loop-r, length-zeros)) c.row_symbol.ensures here.loop-r.invariant

pub returns : goal.returns
returns c = let here = (goal.at.returns c).At-loop-r in
    let s = (goal.at.At-loop-r here).Start in
    let a = s.args in
    let last : here.loop-r.r ≡ 2 ^ col_dim a.k = omega (arith, here.rows-rows.ensures) in
    let few' : 2 ^ col_dim a.k ≤ max_column = pow_mono {j = col_dim max_dim} (omega (arith, s.requires.1)) in
    let f = here.loop-r.invariant in (
      f.kept ∙ length-zeros,
      filled_take (omega (arith, length-zeros)) (subst (λ (n : ℕ). Filled 0 n (λ (r : ℕ). get_or (row a.k a.word.now a.proof.now r) a.a 0) zeros here.loop-r.out) last f),
    )
