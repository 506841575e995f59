-- Each half, then the layer back.
use mathlib.Core.Path.{refl, sym, ap, ◌∙◌, subst}
use mathlib.Core.List.{List}
use Prim.Native.Nat.{ℕ, ◌-◌, ◌/◌, ◌^◌, ◌<◌}
use native.Mathlib.Omega.{arith}
use lib.ListN.{length}
use Rattle.lists.specs.All.{Below}
use Rattle.field.specs.Binary.{degree}
use Rattle.transform.specs.Layers.{Unlayered}
use Rattle.transform.specs.Lanes.{lane_shift}
use Rattle.transform.proofs.Halves.{half_length, lower_taken, second-arg, second-arg-is, upper_taken, back_is, length_both, both_below, interpolated_step}
use Rattle.transform.proofs.lanes.+interpolate.Goals as goal

pub interpolate-requires : goal.interpolate-requires
interpolate-requires t c =
    let a = c.args in
    (omega arith, lower_taken a.f a.images.now a.lanes.now a.count a.m a.shift a.values.now c.requires (omega arith) a.values.now refl c.requires.symbols)

pub interpolate-requires-2 : goal.interpolate-requires-2
interpolate-requires-2 t c =
    let a = c.args in (
      omega arith,
      upper_taken a.f a.images.now a.lanes.now a.count a.m a.shift a.values.now c.requires (omega arith) a.values.now refl
          c.interpolate.new.values c.interpolate.ensures.kept c.requires.symbols c.shifted-upper.result c.shifted-upper.ensures,
    )

pub inverse_layer-requires-clause-below : goal.inverse_layer-requires-clause-below
inverse_layer-requires-clause-below t c =
    let a = c.args in
    let pos : 0 < a.m = omega arith in
    let first = c.interpolate.new.values in
    let second = c.interpolate-2.new.values in
    let kept = c.interpolate.ensures.kept in
    let half = half_length a.f a.images.now a.lanes.now a.count a.m a.shift a.values.now c.requires pos in
    let part = second-arg a.f a.images.now a.lanes.now a.count a.m a.shift a.values.now c.requires pos a.values.now refl first kept in
    let part-is = second-arg-is a.f a.images.now a.lanes.now a.count a.m a.shift a.values.now c.requires pos a.values.now refl first kept in
    let back = back_is a.f a.images.now a.lanes.now a.count a.m a.shift a.values.now c.requires pos a.values.now refl first kept second in (
      c.requires.lane-symbols,
      subst (Below (2 ^ degree a.f.modulus)) (sym back)
          (both_below a.f.modulus a.images.now a.lanes.now a.count a.m a.shift a.values.now c.requires.few pos c.requires.long (length a.values.now / 2) half
          c.shifted-upper.result c.shifted-upper.ensures first part second c.interpolate.ensures part-is c.interpolate-2.ensures),
      ap length back
          ∙ length_both a.f.modulus a.images.now a.lanes.now a.count a.m a.shift a.values.now c.requires.few pos c.requires.long (length a.values.now / 2) half
          c.shifted-upper.result c.shifted-upper.ensures first part second c.interpolate.ensures part-is c.interpolate-2.ensures,
    )

pub returns : goal.returns
returns t c =
    let a = c.args in
    let pos : 0 < a.m = omega arith in
    let first = c.interpolate.new.values in
    let second = c.interpolate-2.new.values in
    let kept = c.interpolate.ensures.kept in
    let new = c.inverse_layer.new.values in
    interpolated_step a.f.modulus a.images.now a.lanes.now a.count a.m a.shift a.values.now c.requires.few pos c.requires.long
    (length a.values.now / 2) (half_length a.f a.images.now a.lanes.now a.count a.m a.shift a.values.now c.requires pos)
    c.shifted-upper.result c.shifted-upper.ensures first
    (second-arg a.f a.images.now a.lanes.now a.count a.m a.shift a.values.now c.requires pos a.values.now refl first kept) second
    c.interpolate.ensures
    (second-arg-is a.f a.images.now a.lanes.now a.count a.m a.shift a.values.now c.requires pos a.values.now refl first kept)
    c.interpolate-2.ensures new
    (subst (λ (l : List ℕ). Unlayered a.f.modulus (a.m - 1) a.count (λ (r : ℕ). lane_shift a.lanes.now a.count a.shift r (a.m - 1)) l new)
    (back_is a.f a.images.now a.lanes.now a.count a.m a.shift a.values.now c.requires pos a.values.now refl first kept second)
    c.inverse_layer.ensures)
