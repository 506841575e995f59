-- `proximity::lines::rows` meets its contract: nothing is shifted out.
use native.Mathlib.Omega.{arith}
use Rattle.proximity.specs.Dim.{col_dim}
use Rattle.proximity.proofs.Laws.{pow_small}
use Rattle.proximity.proofs.lines.rows.Goals as goal

pub returns : goal.returns
returns c = omega (arith, pow_small (col_dim c.args.k) (omega arith))
