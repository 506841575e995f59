use mathlib.Core.Path.{◌≡◌, refl, subst}
use Prim.Native.Nat.{ℕ}
use native.Mathlib.Omega.{arith}
use lib.ListN.{length}
use Rattle.lists.specs.Filled.{Filled, filled-all}
use Rattle.stored.specs.Bytes.{number_at}
use Rattle.stored.proofs.bytes.numbers_at.Goals.{At-loop-i}
use Rattle.stored.proofs.bytes.numbers_at.Goals as goal

pub returns : goal.returns
returns c = let h = (goal.at.returns c).At-loop-i in
    let a = h.args in
    let old = a.out.now in
    let last : h.loop-i.i ≡ length old = omega arith in
    filled-all refl (subst (λ (i : ℕ). Filled 0 i (λ j. number_at a.narrow a.file.now a.at j) old h.loop-i.out) last h.loop-i.invariant)
