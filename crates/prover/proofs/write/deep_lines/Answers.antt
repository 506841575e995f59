use mathlib.Core.Path.{sym, ap₂, subst}
use Prim.Native.Nat.{◌+◌, ◌^◌, ◌≤◌}
use native.Mathlib.Omega.{arith}
use Rattle.space.specs.Sizes.{max_dim}
use Rattle.prover.specs.Prover.{Deep}
use Rattle.prover.proofs.LineOrder.{deep_none, deep_rows, deep_all, few_lines}
use Rattle.prover.proofs.write.deep_lines.Goals.{Start, After-columns}
use Rattle.prover.proofs.write.deep_lines.Goals as goal

pub returns-then-h-le6 : goal.returns-then-h-le6
returns-then-h-le6 c = (deep_none c.args.k (omega arith) (omega arith), omega arith)

pub returns-then-k-h-le6 : goal.returns-then-k-h-le6
returns-then-k-h-le6 c = let s = (goal.at.returns-then-k-h-le6 c).Start in
    let k = s.args.k in
    (subst (Deep k) (sym c.rows.ensures) (deep_rows k (omega arith) (omega arith)), omega (arith, c.rows.ensures, (few_lines k s.requires.1).0))

-- the columns have a proof too
module _ (c : goal.After-columns) where
  abbrev start : goal.Start
  start = (goal.at.After-columns c).Start

  few : c.rows-2.result + c.columns.result ≤ 2 ^ max_dim
  few =
      let bounds = few_lines start.args.k start.requires.1 in
      omega (arith, c.rows-2.ensures, c.columns.ensures, bounds.0, bounds.1)

pub overflow_add-result : goal.overflow_add-result
overflow_add-result c = omega (arith, few c)

pub returns : goal.returns
returns c = let k = (start c).args.k in
    (subst (Deep k) (sym (ap₂ ◌+◌ c.rows-2.ensures c.columns.ensures)) (deep_all k (omega arith) (omega arith)), few c)
