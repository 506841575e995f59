use mathlib.Core.Path.{sym, subst}
use mathlib.Core.List.{List}
use Prim.Native.Nat.{ℕ, ◌+◌, ◌<◌, ◌^◌}
use lib.ListN.{get_or, set, length-set}
use lib.Pow.{pow_pos}
use Rattle.lists.specs.All.{All-at}
use Rattle.field.specs.Binary.{degree}
use Rattle.field.specs.Product.{positive, product-below}
use Rattle.correction.specs.Quotient.{DividedStep}
use Rattle.correction.proofs.DivisionLaws.{step-apart, set_below, divided_step}
use Rattle.correction.proofs.division.divide_step.Goals.{Start, After-mul-c, After-add_multiple}
use Rattle.correction.proofs.division.divide_step.Goals as goal

pub mul-c-requires : goal.mul-c-requires
mul-c-requires c = let s = (goal.at.mul-c-requires c).Start in
    let q = s.args.f.modulus in
    (s.requires.sized, All-at (λ (x : ℕ). x < 2 ^ degree q) s.args.work.now 0 s.requires.below (pow_pos (degree q)) (s.args.at + (s.args.j + s.args.e)), s.requires.symbol)

module _ (c : goal.After-mul-c) where
  abbrev start : goal.Start
  start = (goal.at.After-mul-c c).Start

  abbrev q : ℕ
  q = start.args.f.modulus

  abbrev place : ℕ
  place = start.args.at + (start.args.j + start.args.e)

  abbrev put : List ℕ
  put = set start.args.work.now place c.mul-c.result

  factor-symbol : c.mul-c.result < 2 ^ degree q
  factor-symbol =
      subst (λ (t : ℕ). t < 2 ^ degree q) (sym c.mul-c.ensures) (product-below q (positive q start.requires.irreducible) (get_or start.args.work.now place 0) start.args.v)

pub add_multiple-requires : goal.add_multiple-requires
add_multiple-requires c = let a = (goal.at.add_multiple-requires c).After-mul-c in
    let s = start a in (
      s.requires.sized,
      s.requires.irreducible,
      factor-symbol a,
      set_below s.args.j s.requires (2 ^ degree (q a)) (place a) a.mul-c.result s.requires.below (factor-symbol a),
      step-apart s.args.j s.requires (put a) (length-set s.args.work.now (place a) a.mul-c.result),
    )

module _ (c : goal.After-add_multiple) where
  abbrev after : goal.After-mul-c
  after = (goal.at.After-add_multiple c).After-mul-c

  abbrev new : List ℕ
  new = c.add_multiple.new.values

  done : DividedStep (q after) (start after).args.n (start after).args.e (start after).args.v (start after).args.at (start after).args.j (start after).args.work.now new
  done = divided_step (start after).args.j (start after).requires after.mul-c.result after.mul-c.ensures new c.add_multiple.ensures

pub shape_of-work : goal.shape_of-work
shape_of-work c = (done (goal.at.shape_of-work c).After-add_multiple).kept

pub returns : goal.returns
returns c = done (goal.at.returns c).After-add_multiple
