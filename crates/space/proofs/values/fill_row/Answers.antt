use mathlib.Core.Path.{◌≡◌, sym, ap, ◌∙◌, subst}
use mathlib.Core.List.{List}
use Prim.Native.Nat.{ℕ, ◌*◌, ◌<◌, ◌^◌}
use native.Mathlib.Omega.{arith}
use lib.ListN.{get_or}
use Rattle.lists.specs.Filled.{Filled, filled_none, filled_next}
use Rattle.field.specs.Binary.{◌⊕◌, degree, product}
use Rattle.field.specs.Xor.{xor_below}
use Rattle.space.specs.Values.{value_at, image_at}
use Rattle.space.proofs.Laws.{sized_positive, symbol_at, value_none, value-next, value-below}
use Rattle.space.proofs.values.fill_row.Goals.{At-loop-j}
use Rattle.space.proofs.values.fill_row.Goals as goal

pub loop-j-init : goal.loop-j-init
loop-j-init c = let a = c.args in
    (sym (value_none a.f.modulus a.steps.now a.x), filled_none (16 * a.i) (image_at a.f.modulus a.steps.now a.inverses.now a.x) a.images.now)

-- y at the loop's head is a symbol
module _ (c : goal.At-loop-j) where
  abbrev m : ℕ
  m = c.args.f.modulus

  abbrev steps : List ℕ
  steps = c.args.steps.now

  y-symbol : c.loop-j.y < 2 ^ degree m
  y-symbol = value-below m steps (sized_positive c.requires.sized.0) c.loop-j.j c.args.x c.loop-j.y c.requires.sized.2 c.loop-j.invariant.0

pub mul-requires : goal.mul-requires
mul-requires c = let here = (goal.at.mul-requires c).At-loop-j in
    (here.requires.sized.0, y-symbol here, symbol_at (m here) here.args.inverses.now here.requires.below.1 here.loop-j.j)

pub mul-y-requires : goal.mul-y-requires
unfolding ◌⊕◌
mul-y-requires c = let here = (goal.at.mul-y-requires c).At-loop-j in
    (here.requires.sized.0, y-symbol here, xor_below (degree (m here)) (y-symbol here) (symbol_at (m here) (steps here) here.requires.below.0 here.loop-j.j))

pub loop-j-preserved : goal.loop-j-preserved
unfolding ◌⊕◌ image_at
loop-j-preserved c = let here = (goal.at.loop-j-preserved c).At-loop-j in
    let a = here.args in
    let image : c.mul.result ≡ image_at (m here) (steps here) a.inverses.now a.x here.loop-j.j =
    c.mul.ensures ∙ ap (λ (t : ℕ). product (m here) t (get_or a.inverses.now here.loop-j.j 0)) here.loop-j.invariant.0 in (
      c.mul-y.ensures ∙ value-next (m here) (steps here) here.loop-j.j a.x here.loop-j.y here.loop-j.invariant.0,
      filled_next c.mul.result (omega arith) image here.loop-j.invariant.1,
    )

pub shape_of-images : goal.shape_of-images
shape_of-images c = c.loop-j.invariant.1.kept

pub returns : goal.returns
returns c = let here = (goal.at.returns c).At-loop-j in
    let a = here.args in
    let last : here.loop-j.j ≡ a.i = omega arith in (
      here.loop-j.invariant.0 ∙ ap (λ (k : ℕ). value_at (m here) (steps here) k a.x) last,
      subst (λ (k : ℕ). Filled (16 * a.i) k (image_at (m here) (steps here) a.inverses.now a.x) a.images.now here.loop-j.images) last here.loop-j.invariant.1,
    )
