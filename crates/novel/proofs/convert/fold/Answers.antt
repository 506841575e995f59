-- `novel::convert::fold` meets its contract. Assumes nothing.
use mathlib.Core.Path.{◌≡◌, refl, sym, ap, ◌∙◌, subst}
use mathlib.Core.List.{List}
use Prim.Native.Nat.{ℕ, ◌+◌, ◌-◌, ◌*◌, ◌/◌, ◌≤◌, ◌<◌, ◌^◌}
use native.Mathlib.Omega.{arith}
use lib.ListN.{length, take}
use lib.Pow.{pow_pos, pow_mono}
use lib.Seq.{length-take-le}
use Rattle.space.specs.Sizes.{max_dim, max_word}
use Rattle.lists.specs.All.{All-at, All-take, IsZero, zeros-below}
use Rattle.lists.specs.Stretch.{Apart}
use Rattle.field.specs.Binary.{degree}
use Rattle.novel.specs.Convert.{Folded}
use Rattle.novel.proofs.Folding.{term_fits, folded-none, fold_turn, fold_apart}
use Rattle.novel.proofs.convert.fold.Goals.{Start, At-loop-i, After-power-p}
use Rattle.novel.proofs.convert.fold.Goals as goal

-- what is known at the loop's head
module _ (c : goal.At-loop-i) where
  abbrev start : goal.Start
  start = (goal.at.At-loop-i c).Start

  abbrev j : ℕ
  j = start.args.j

  abbrev half : ℕ
  half = c.power-half.result

  half_is : half ≡ 2 ^ j
  half_is = c.power-half.ensures

  half-small : half ≤ max_word / 2
  half-small = omega (arith, half_is, pow_mono {i = j} {j = max_dim - 1} (omega (arith, start.requires.0.few)))

  abbrev zeros : List ℕ
  zeros = take (half / 2) start.args.none.now

  length-zeros : length zeros ≡ half / 2
  length-zeros = length-take-le (half / 2) start.args.none.now (omega (arith, half-small, start.requires.0.zeros.many))

  folded : Folded start.args.f.modulus start.args.table.now j c.loop-i.i start.args.at start.args.values.now c.loop-i.values
  folded = c.loop-i.invariant.1 start.requires.0.irreducible start.requires.1

pub power-half-requires : goal.power-half-requires
power-half-requires c = omega (arith, c.requires.0.few)

pub loop-i-init : goal.loop-i-init
loop-i-init c = let a = c.args in
    (refl, λ irr b. folded-none a.f.modulus irr a.table.now a.j a.at a.values.now b)

pub power-p-requires : goal.power-p-requires
power-p-requires c = omega (arith, (start (goal.at.power-p-requires c).At-loop-i).requires.0.few)

pub slice_bounds-add_products-end : goal.slice_bounds-add_products-end
slice_bounds-add_products-end c = sym (length-zeros (goal.at.slice_bounds-add_products-end c).At-loop-i)

pub overflow_add-at-in-loop-i : goal.overflow_add-at-in-loop-i
overflow_add-at-in-loop-i c = let here = (goal.at.overflow_add-at-in-loop-i c).At-loop-i in
    omega (arith, c.power-p.ensures, term_fits here.loop-i.i (j here) (omega arith))

pub add_products-requires : goal.add_products-requires
add_products-requires c = let here = (goal.at.add_products-requires c).At-loop-i in
    let a = (start here).args in
    let m : ℕ = a.f.modulus in
    let pre = (start here).requires in
    let apart = fold_apart m pre.0.irreducible a.table.now (j here) here.loop-i.i a.at a.values.now here.loop-i.values (zeros here) (omega arith) pre.2
    (All-take IsZero (half here / 2) a.none.now pre.0.zeros.zero) (length-zeros here ∙ ap (λ (n : ℕ). n / 2) (half_is here)) (folded here) in record {
      sized = (pre.0.sized, All-at (λ (x : ℕ). x < 2 ^ degree m) a.table.now 0 pre.0.below (pow_pos (degree m)) (max_dim * j here + here.loop-i.i));
      below = (
        zeros-below (2 ^ degree m) (zeros here) (pow_pos (degree m)) (All-take IsZero (half here / 2) a.none.now pre.0.zeros.zero),
        (folded here).below,
        subst (λ (h : ℕ). Apart (length (zeros here)) (a.at + h) (a.at + c.power-p.result) (length here.loop-i.values)) (sym (half_is here))
            (subst (λ (p : ℕ). Apart (length (zeros here)) (a.at + 2 ^ j here) (a.at + p) (length here.loop-i.values)) (sym c.power-p.ensures) apart),
      );
    }

pub loop-i-preserved : goal.loop-i-preserved
loop-i-preserved c = let at = (goal.at.loop-i-preserved c).After-power-p in
    let here = (goal.at.After-power-p at).At-loop-i in
    let a = (start here).args in (
      c.add_products.auto.values ∙ here.loop-i.invariant.0,
      λ irr b. fold_turn a.f.modulus irr a.table.now (j here) here.loop-i.i a.at (half here) at.power-p.result a.values.now here.loop-i.values _ (zeros here)
          (half_is here) at.power-p.ensures (omega arith) (start here).requires.2
          (All-take IsZero (half here / 2) a.none.now (start here).requires.0.zeros.zero) (length-zeros here ∙ ap (λ (n : ℕ). n / 2) (half_is here))
          c.add_products.ensures (here.loop-i.invariant.1 irr b),
    )

pub returns : goal.returns
returns c = let here = (goal.at.returns c).At-loop-i in
    let a = (start here).args in
    let last : here.loop-i.i ≡ j here = omega arith in
    subst (λ (i : ℕ). Folded a.f.modulus a.table.now (j here) i a.at a.values.now here.loop-i.values) last (folded here)
