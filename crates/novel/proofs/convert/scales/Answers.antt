-- `novel::convert::scales` meets its contract. Assumes nothing.
use mathlib.Core.Path.{◌≡◌, sym, ◌∙◌, subst}
use mathlib.Core.List.{List}
use Prim.Native.Nat.{ℕ, ◌+◌, ◌-◌, ◌<◌, ◌^◌}
use native.Mathlib.Omega.{arith}
use lib.ListN.{length, get_or, take}
use lib.Pow.{pow_pos, pow_mono}
use lib.Seq.{length-take-le}
use Rattle.space.specs.Sizes.{max_dim}
use Rattle.lists.specs.All.{All, All-at, All-take, IsZero, zeros-below}
use Rattle.lists.specs.Stretch.{Apart}
use Rattle.field.specs.Binary.{degree, Irreducible}
use Rattle.field.specs.Products.{accumulated}
use Rattle.novel.proofs.Scaling.{Doubled, doubled_start, doubled_next, double_apart, scales_all}
use Rattle.novel.proofs.convert.scales.Goals.{Start, At-loop-j, After-power-n}
use Rattle.novel.proofs.convert.scales.Goals as goal

-- a turn, once the power of 2 is known
module _ (c : goal.After-power-n) where
  abbrev head : goal.At-loop-j
  head = (goal.at.After-power-n c).At-loop-j

  abbrev start : goal.Start
  start = (goal.at.After-power-n c).Start

  abbrev m : ℕ
  m = start.args.f.modulus

  abbrev steps : List ℕ
  steps = start.args.steps.now

  abbrev j : ℕ
  j = head.loop-j.j

  abbrev n : ℕ
  n = c.power-n.result

  few : j < max_dim
  few = omega (arith, c.loop-j-test.true, start.requires.2)

  n-is : n ≡ 2 ^ j
  n-is = c.power-n.ensures

  abbrev zeros : List ℕ
  zeros = take n start.args.none.now

  length-zeros : length zeros ≡ n
  length-zeros = length-take-le n start.args.none.now (omega (arith, n-is, pow_mono {i = j} {j = max_dim - 1} (omega (arith, few)), start.requires.4.many))

  all-zero : All IsZero zeros
  all-zero = All-take IsZero n start.args.none.now start.requires.4.zero

  doubled : (irr : Irreducible m) → Doubled m irr steps j head.loop-j.out
  doubled irr = head.loop-j.invariant irr

  more : (irr : Irreducible m) → Doubled m irr steps (j + 1) (accumulated m (get_or steps j 0) zeros 0 n head.loop-j.out)
  more irr =
      subst (λ (k : ℕ). Doubled m irr steps (j + 1) (accumulated m (get_or steps j 0) zeros 0 k head.loop-j.out)) length-zeros
      (doubled_next m irr steps j head.loop-j.out zeros few all-zero (length-zeros ∙ n-is) (doubled irr))

pub loop-j-init : goal.loop-j-init
loop-j-init c = let a = c.args in
    λ irr. doubled_start a.f.modulus irr a.steps.now c.room-out.result c.room-out.ensures

pub power-n-requires : goal.power-n-requires
power-n-requires c = omega (arith, c.requires.2)

pub slice_bounds-add_products-end : goal.slice_bounds-add_products-end
slice_bounds-add_products-end c = sym (length-zeros c)

pub slice_bounds-add_products-end-in-loop-j : goal.slice_bounds-add_products-end-in-loop-j
slice_bounds-add_products-end-in-loop-j c = let at = (goal.at.slice_bounds-add_products-end-in-loop-j c).After-power-n in
    sym (doubled at (start at).requires.1).count

pub add_products-requires : goal.add_products-requires
add_products-requires c = let at = (goal.at.add_products-requires c).After-power-n in
    let pre = (start at).requires in
    let d = doubled at pre.1 in record {
      sized = (pre.0, All-at (λ (x : ℕ). x < 2 ^ degree (m at)) (steps at) 0 pre.3 (pow_pos (degree (m at))) (j at));
      below = (
        zeros-below (2 ^ degree (m at)) (zeros at) (pow_pos (degree (m at))) (all-zero at),
        d.below,
        subst (λ (k : ℕ). Apart (length (zeros at)) 0 k (length (head at).loop-j.out)) (length-zeros at)
            (double_apart (m at) pre.1 (steps at) (j at) (head at).loop-j.out (zeros at) (few at) (all-zero at) (length-zeros at ∙ n-is at) d),
      );
    }

pub loop-j-preserved : goal.loop-j-preserved
loop-j-preserved c = let at = (goal.at.loop-j-preserved c).After-power-n in
    λ irr. subst (Doubled (m at) irr (steps at) (j at + 1)) (sym c.add_products.ensures) (more at irr)

pub returns : goal.returns
returns c = let head = (goal.at.returns c).At-loop-j in
    let start = (goal.at.At-loop-j head).Start in
    scales_all start.args.f.modulus start.requires.1 start.args.steps.now (omega arith) (head.loop-j.invariant start.requires.1)
