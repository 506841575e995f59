-- `proximity::lines::columns` meets its contract: nothing is shifted out.
use Prim.Native.Nat.{◌+◌}
use native.Mathlib.Omega.{arith}
use Rattle.proximity.specs.Dim.{half}
use Rattle.proximity.proofs.Laws.{pow_small}
use Rattle.proximity.proofs.lines.columns.Goals as goal

pub returns : goal.returns
returns c = omega (arith, pow_small (half c.args.k + 2) (omega arith))
