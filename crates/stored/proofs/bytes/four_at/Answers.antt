use native.Mathlib.Omega.{arith}
use Rattle.stored.specs.Bytes.{four_at}
use Rattle.stored.proofs.bytes.four_at.Goals as goal

pub returns : goal.returns
unfolding four_at
returns c = omega (arith, c.two_at-2.ensures, c.two_at.ensures)
