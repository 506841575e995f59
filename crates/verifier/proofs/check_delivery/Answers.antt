use native.Mathlib.Omega.{arith}
use Rattle.proximity.specs.LineLaws.{R-small}
use Rattle.verifier.proofs.check_delivery.Goals as goal

pub overflow_shr-coin : goal.overflow_shr-coin
overflow_shr-coin c = omega (arith, c.coin_bits.ensures, R-small c.args.k (omega arith))
