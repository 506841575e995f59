use mathlib.Core.Path.{◌≡◌}
use mathlib.Core.List.{List}
use Prim.Native.Nat.{ℕ, ◌+◌}
use native.Mathlib.Omega.{arith}
use lib.ListN.{length, take}
use lib.Seq.{length-take-le}
use Rattle.lists.specs.All.{All-take, IsZero}
use Rattle.field.specs.Product.{positive}
use Rattle.correction.specs.Rows.{Added}
use Rattle.correction.proofs.RowLaws.{added_next}
use Rattle.correction.proofs.rows.add_multiple.Goals.{Start, At-loop-i, After-part_of-size, After-add_products}
use Rattle.correction.proofs.rows.add_multiple.Goals as goal

-- after a turn
turn : (c : goal.After-add_products) (k : ℕ) → k ≡ c.loop-i.i + c.part_of-size.result → Added c.args.f.modulus c.args.c c.args.from c.args.to k c.args.values.now c.add_products.new.values
turn c k e = let a = c.args in
    let size = c.part_of-size.result in
    let none : List ℕ = take size c.zeros-none.result in
    let long : length none ≡ size = length-take-le size c.zeros-none.result (omega (arith, c.zeros-none.ensures.0, c.part_of-size.ensures)) in
    let all-zero = All-take IsZero size c.zeros-none.result c.zeros-none.ensures.1 in
    rw c.add_products.ensures
    (added_next a.f.modulus a.c a.from a.to a.n (positive a.f.modulus c.requires.1) a.values.now c.requires.4 c.loop-i.i none all-zero (omega (arith, long, c.part_of-size.ensures)) c.loop-i.values c.loop-i.invariant.1 k (omega (arith, long)))

pub loop-i-preserved : goal.loop-i-preserved
loop-i-preserved c = (omega arith, turn (goal.at.loop-i-preserved c).After-add_products (c.loop-i.i + 256) (omega (arith, c.part_of-size.ensures)))

pub returns-2 : goal.returns-2
returns-2 c = turn (goal.at.returns-2 c).After-add_products c.args.n (omega (arith, c.part_of-size.ensures))
