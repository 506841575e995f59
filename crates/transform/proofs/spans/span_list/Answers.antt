use Prim.Native.Nat.{◌+◌, ◌≤◌, ◌<◌}
use native.Mathlib.Omega.{arith}
use lib.ListN.{length, length-set}
use lib.Pow.{pow_pos, pow_mono}
use Rattle.transform.proofs.Halves.{next_pow}
use Rattle.transform.proofs.Layers.{power}
use Rattle.transform.proofs.SpanLists.{span_none, span_next}
use Rattle.space.specs.Sizes.{max_dim}
use Rattle.transform.proofs.spans.span_list.Goals as goal

pub loop-i-init : goal.loop-i-init
loop-i-init c = let a = c.args in
    let some : 0 < length a.list.now = omega (arith, c.requires.2, pow_pos a.c) in
    span_none a.images.now a.from a.c a.j a.list.now some

pub add_element-requires : goal.add_element-requires
add_element-requires c = let i = c.loop-i.i in
    let few : i ≤ max_dim = omega (arith, c.requires.0) in
    omega (arith, power i few, next_pow i, pow_mono {i = i + 1} {j = c.args.c} (omega arith), length-set c.args.list.now 0 0)

pub loop-i-preserved : goal.loop-i-preserved
loop-i-preserved c = let a = c.args in
    let i = c.loop-i.i in
    let few : i ≤ max_dim = omega (arith, c.requires.0) in
    span_next a.images.now a.from a.c a.j i _ c.loop-i.list _ c.loop-i-test.true (power i few) c.loop-i.invariant c.add_element.ensures
