-- `proximity::lines::block_size` meets its contract: nothing is shifted out.
use native.Mathlib.Omega.{arith}
use Rattle.proximity.specs.Dim.{half}
use Rattle.proximity.proofs.Laws.{pow_small}
use Rattle.proximity.proofs.lines.block_size.Goals as goal

pub returns : goal.returns
returns c = omega (arith, pow_small (half c.args.k) (omega arith))
