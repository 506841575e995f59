use mathlib.Core.Path.{◌≡◌, refl, ap}
use Prim.Native.Nat.{◌+◌, ◌-◌, ◌*◌}
use native.Mathlib.Omega.{arith}
use lib.ListN.{get_or}
use Rattle.lists.specs.Upto.{upto_none, upto_next}
use Rattle.space.specs.Images.{upper_filled}
use Rattle.space.specs.Sizes.{cells}
use Rattle.space.proofs.upper.upper_images.Goals.{Start}
use Rattle.space.proofs.upper.upper_images.Goals as goal

pub loop-p-init : goal.loop-p-init
loop-p-init c =
    let none : 17 * c.args.h - 17 * c.args.h ≡ 0 = omega arith in
    (refl, rw none (upto_none cells (λ p. get_or c.args.images.now (p + 17 * c.args.h) 0)))

pub loop-p-preserved : goal.loop-p-preserved
loop-p-preserved c = let l = c.loop-p in
    let s = 17 * c.args.h in
    let next : l.p + 1 - s ≡ l.p - s + 1 = omega arith in
    let place : l.p ≡ l.p - s + s = omega arith in
    (refl, rw next (upto_next _ (omega arith) (ap (λ p. get_or c.args.images.now p 0) place) l.invariant.1))

pub returns : goal.returns
returns c = let s = (goal.at.returns c).Start in upper_filled s.args.h s.args.images.now s.requires.1 (omega arith) c.loop-p.invariant.1
