use Prim.Native.Nat.{◌/◌}
use native.Mathlib.Omega.{arith}
use Rattle.field.specs.Binary.{◌⊕◌}
use mathlib.Core.Path.{refl}
use Rattle.field.proofs.Aligned.{bit_times-le}
use Rattle.field.proofs.products.twice.Goals as goal

pub overflow_mul-result-2 : goal.overflow_mul-result-2
overflow_mul-result-2 c = omega (arith, bit_times-le (c.args.x / 32768) c.args.m (omega arith))

pub returns : goal.returns
unfolding ◌⊕◌
returns c = refl
