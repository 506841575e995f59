use mathlib.Core.Path.{◌∙◌}
use Prim.Native.Nat.{ℕ, ◌^◌, ◌<◌}
use native.Mathlib.Omega.{arith}
use Rattle.field.specs.Binary.{degree, Irreducible}
use Rattle.field.specs.Laws.{IsField, ⊗_1}
use Rattle.field.specs.Product.{positive, product-below}
use Rattle.field.specs.Symbols.{symbols, symbols-field}
use Rattle.field.specs.Checks.{symbols-small, modulus_small}
use Rattle.field.specs.Euclid.{remainder_less, remainder_positive, quotient_below, turn, inverse_unique}
use Rattle.field.proofs.inverse.inverse.Goals.{Start, At-loop-y, After-divide-t}
use Rattle.field.proofs.inverse.inverse.Goals as goal

pub loop-y-init : goal.loop-y-init
loop-y-init c = let m = c.args.f.modulus in
    let F : IsField (symbols m) = symbols-field m c.requires.sized.1 in
    (c.requires.x_nonzero.0, c.requires.x_nonzero.1, F.sym_one, ⊗_1 F c.args.x c.requires.x_nonzero.1)

pub overflow_cast-y : goal.overflow_cast-y
overflow_cast-y c = omega (arith, symbols-small c.requires.sized.0)

pub divide-t-requires : goal.divide-t-requires
divide-t-requires c = let s = c.requires.sized.0 in (modulus_small s, omega arith, omega (arith, symbols-small s))

-- a turn: the modulus is divided by y
module _ (c : goal.After-divide-t) where
  abbrev head : goal.At-loop-y
  head = (goal.at.After-divide-t c).At-loop-y

  abbrev start : goal.Start
  start = (goal.at.After-divide-t c).Start

  abbrev m : ℕ
  m = start.args.f.modulus

  abbrev y : ℕ
  y = head.loop-y.y

  abbrev q : ℕ
  q = c.divide-t.result.quotient

  abbrev r : ℕ
  r = c.divide-t.result.remainder

  abbrev irr : Irreducible m
  irr = start.requires.sized.1

  q-below : q < 2 ^ degree m
  q-below = quotient_below m irr y q r (omega arith) head.loop-y.invariant.1 c.divide-t.ensures

  r-less : r < y
  r-less = remainder_less m irr y q r (omega arith) head.loop-y.invariant.1 c.divide-t.ensures

pub overflow_cast-q : goal.overflow_cast-q
overflow_cast-q c = omega (arith, symbols-small (start (goal.at.overflow_cast-q c).After-divide-t).requires.sized.0, q-below (goal.at.overflow_cast-q c).After-divide-t)

pub mul-acc-requires : goal.mul-acc-requires
mul-acc-requires c = ((start (goal.at.mul-acc-requires c).After-divide-t).requires.sized.0, (head (goal.at.mul-acc-requires c).After-divide-t).loop-y.invariant.2, q-below (goal.at.mul-acc-requires c).After-divide-t)

pub overflow_cast-y-in-loop-y : goal.overflow_cast-y-in-loop-y
overflow_cast-y-in-loop-y c = let d = (goal.at.overflow_cast-y-in-loop-y c).After-divide-t in omega (arith, symbols-small (start d).requires.sized.0, r-less d)

pub loop-y-smaller : goal.loop-y-smaller
loop-y-smaller c = r-less (goal.at.loop-y-smaller c).After-divide-t

pub loop-y-preserved : goal.loop-y-preserved
loop-y-preserved c = let d = (goal.at.loop-y-preserved c).After-divide-t in
    let e = c.mul-acc.ensures in
    let inv = (head d).loop-y.invariant in (
      remainder_positive (m d) (irr d) (y d) (q d) (r d) (omega arith) inv.1 d.divide-t.ensures,
      omega (arith, r-less d),
      rw e (product-below (m d) (positive (m d) (irr d)) (head d).loop-y.acc (q d)),
      rw e (turn (m d) (irr d) (y d) (q d) (r d) (omega arith) inv.1 d.divide-t.ensures (start d).args.x (head d).loop-y.acc inv.3),
    )

pub returns : goal.returns
returns c = let s = (goal.at.returns c).Start in
    let inv = c.loop-y.invariant in
    inverse_unique s.args.f.modulus s.requires.sized.1 s.args.x c.loop-y.acc s.requires.x_nonzero.0 s.requires.x_nonzero.1 inv.2 (inv.3 ∙ omega arith)
