use mathlib.Core.Path.{sym, ap}
use native.Mathlib.Omega.{arith}
use Rattle.field.specs.Binary.{degree}
use Rattle.field.specs.Division.{leading-degree}
use Rattle.field.proofs.division.degree_of.Goals as goal

pub returns-then-v-eq0 : goal.returns-then-v-eq0
unfolding degree
returns-then-v-eq0 c = sym (ap degree c.if-v-eq0.true)

pub overflow_sub-result : goal.overflow_sub-result
overflow_sub-result c = omega (arith, leading-degree c.args.v (omega arith) c.ranges.v.fits)

pub returns : goal.returns
returns c = omega (arith, leading-degree c.args.v (omega arith) c.ranges.v.fits)
