use mathlib.Core.Path.{◌≡◌, refl, sym, ◌∙◌}
use mathlib.Core.Bool.{false}
use mathlib.Core.List.{List}
use Prim.Native.Nat.{ℕ, ◌≤◌}
use native.Mathlib.Omega.{arith}
use lib.ListN.{length, take}
use lib.Seq.{length-take-le}
use Rattle.stored.specs.Packed.{front_length, front-numbers}
use Rattle.delivery.proofs.parts.numbers_at.Goals.{Start, After-no_numbers-out, After-numbers_at}
use Rattle.delivery.proofs.parts.numbers_at.Goals as goal

-- the part that is lent
module _ (c : goal.After-no_numbers-out) where
  abbrev start : goal.Start
  start = (goal.at.After-no_numbers-out c).Start

  abbrev count : ℕ
  count = start.args.count

  abbrev zeros : List ℕ
  zeros = c.no_numbers-out.result

  fits : count ≤ length zeros
  fits = omega (arith, start.requires.0, c.no_numbers-out.ensures)

  part : length (take count zeros) ≡ count
  part = length-take-le count zeros fits

pub slice_bounds-out-end : goal.slice_bounds-out-end
slice_bounds-out-end c = fits c

pub slice_bounds-numbers_at-end : goal.slice_bounds-numbers_at-end
slice_bounds-numbers_at-end c = sym (part (goal.at.slice_bounds-numbers_at-end c).After-no_numbers-out)

pub numbers_at-requires : goal.numbers_at-requires
numbers_at-requires c = omega (arith, part (goal.at.numbers_at-requires c).After-no_numbers-out, (start (goal.at.numbers_at-requires c).After-no_numbers-out).requires.1)

pub returns : goal.returns
returns c = let e = (goal.at.returns c).After-numbers_at in
    let z = (goal.at.After-numbers_at e).After-no_numbers-out in
    let a = (start z).args in
    let new : List ℕ = e.numbers_at.new.out in (
      front_length false a.message.now a.at (count z) (zeros z) new (fits z) e.numbers_at.ensures ∙ z.no_numbers-out.ensures,
      front-numbers false a.message.now a.at (count z) (zeros z) new (fits z) e.numbers_at.ensures refl,
    )
