-- The layer, then each half.
use mathlib.Core.Path.{sym, subst}
use Prim.Native.Nat.{◌/◌}
use lib.ListN.{length}
use native.Mathlib.Omega.{arith}
use Rattle.transform.specs.Lanes.{Evaluated}
use Rattle.transform.proofs.Halves.{two_halves, half_length, lower_taken, second-arg, second-arg-is, upper_taken, back_is, evaluated_step}
use Rattle.transform.proofs.lanes.+evaluate.Goals as goal

pub layer-requires-clause-below : goal.layer-requires-clause-below
layer-requires-clause-below t c =
    let a = c.args in
    (c.requires.lane-symbols, c.requires.symbols, two_halves a.f a.images.now a.lanes.now a.count a.m a.shift a.values.now c.requires (omega arith))

pub evaluate-requires : goal.evaluate-requires
evaluate-requires t c =
    let a = c.args in
    let l = c.layer in
    (omega arith, lower_taken a.f a.images.now a.lanes.now a.count a.m a.shift a.values.now c.requires (omega arith) l.new.values l.ensures.kept l.ensures.below)

pub evaluate-requires-2 : goal.evaluate-requires-2
evaluate-requires-2 t c =
    let a = c.args in
    let l = c.layer in (
      omega arith,
      upper_taken a.f a.images.now a.lanes.now a.count a.m a.shift a.values.now c.requires (omega arith) l.new.values l.ensures.kept
          c.evaluate.new.values c.evaluate.ensures.kept l.ensures.below c.shifted-upper.result c.shifted-upper.ensures,
    )

pub returns : goal.returns
returns t c =
    let a = c.args in
    let l = c.layer in
    let zs = l.new.values in
    let first = c.evaluate.new.values in
    let second = c.evaluate-2.new.values in
    let kept = c.evaluate.ensures.kept in
    subst (Evaluated a.f.modulus a.images.now a.lanes.now a.count a.m a.shift a.values.now)
    (sym (back_is a.f a.images.now a.lanes.now a.count a.m a.shift a.values.now c.requires (omega arith) zs l.ensures.kept first kept second))
    (evaluated_step a.f.modulus a.images.now a.lanes.now a.count a.m a.shift a.values.now c.requires.few (omega arith) c.requires.long
    (length a.values.now / 2) (half_length a.f a.images.now a.lanes.now a.count a.m a.shift a.values.now c.requires (omega arith))
    c.shifted-upper.result c.shifted-upper.ensures zs first
    (second-arg a.f a.images.now a.lanes.now a.count a.m a.shift a.values.now c.requires (omega arith) zs l.ensures.kept first kept) second
    l.ensures c.evaluate.ensures
    (second-arg-is a.f a.images.now a.lanes.now a.count a.m a.shift a.values.now c.requires (omega arith) zs l.ensures.kept first kept)
    c.evaluate-2.ensures)
