-- `novel::convert::add_high` meets its contract. Assumes nothing.
use mathlib.Core.Path.{◌≡◌, sym}
use mathlib.Core.List.{List}
use Prim.Native.Nat.{ℕ, ◌-◌, ◌/◌, ◌^◌, ◌≤◌, ◌<◌}
use native.Mathlib.Omega.{arith}
use lib.ListN.{length, take}
use lib.Pow.{pow_pos, pow_mono}
use lib.Seq.{length-take-le}
use Rattle.space.specs.Sizes.{max_dim, max_word}
use Rattle.lists.specs.All.{All, All-at, All-take, IsZero, zeros-below}
use Rattle.field.specs.Binary.{degree}
use Rattle.novel.proofs.Shifting.{high-apart, high_expanded}
use Rattle.novel.proofs.convert.add_high.Goals.{Start, After-power-half}
use Rattle.novel.proofs.convert.add_high.Goals as goal

pub power-half-requires : goal.power-half-requires
power-half-requires c = omega (arith, c.requires.0.few)

module _ (c : goal.After-power-half) where
  abbrev start : goal.Start
  start = (goal.at.After-power-half c).Start

  abbrev half : ℕ
  half = c.power-half.result

  half_is : half ≡ 2 ^ start.args.j
  half_is = c.power-half.ensures

  half-small : half ≤ max_word / 2
  half-small = omega (arith, half_is, pow_mono {i = start.args.j} {j = max_dim - 1} (omega (arith, start.requires.0.few)))

  abbrev zeros : List ℕ
  zeros = take half start.args.none.now

  zero : All IsZero zeros
  zero = All-take IsZero half start.args.none.now start.requires.0.zeros.zero

  length-zeros : length zeros ≡ half
  length-zeros = length-take-le half start.args.none.now (omega (arith, half-small, start.requires.0.zeros.many))

pub slice_bounds-add_products-end : goal.slice_bounds-add_products-end
slice_bounds-add_products-end c = sym (length-zeros c)

pub bounds-table-j : goal.bounds-table-j
bounds-table-j c = omega (arith, (start (goal.at.bounds-table-j c).After-power-half).requires.0.few)

pub add_products-requires : goal.add_products-requires
add_products-requires c = let at = (goal.at.add_products-requires c).After-power-half in
    let s = start at in
    let q : ℕ = s.args.f.modulus in record {
      sized = (s.requires.0.sized, All-at (λ (x : ℕ). x < 2 ^ degree q) s.args.table.now 0 s.requires.0.below (pow_pos (degree q)) _);
      below = (
        zeros-below (2 ^ degree q) (zeros at) (pow_pos (degree q)) (zero at),
        s.requires.1,
        high-apart q s.requires.0.irreducible s.args.table.now s.args.j (half at) (zeros at) s.args.values.now (half_is at) (length-zeros at) s.requires.2,
      );
    }

pub returns : goal.returns
returns c = let at = (goal.at.returns c).After-power-half in
    let s = start at in
    high_expanded s.args.f.modulus s.requires.0.irreducible s.args.table.now s.args.j (half at) (zeros at) s.args.values.now (half_is at) (length-zeros at) s.requires.2 _ (zero at) s.requires.1 c.add_products.ensures
