use mathlib.Core.Path.{subst}
use Prim.Native.Nat.{ℕ, suc, ◌-◌}
use native.Mathlib.Omega.{arith}
use Rattle.correction.proofs.DivisionLaws.{Dividing_at, division_next, division_ends}
use Rattle.correction.proofs.division.divide.Goals as goal

pub loop-j-preserved : goal.loop-j-preserved
loop-j-preserved c = let a = c.args in
    let j = c.loop-j.j in
    division_next a.f.modulus c.requires.irreducible a.n a.e a.v a.at a.d a.work.now (j - 1) (omega arith) c.loop-j.work _
    (subst (λ (k : ℕ). Dividing_at a.f.modulus a.n a.e a.v a.at a.d a.work.now k c.loop-j.work) {x = j} {y = suc (j - 1)} (omega arith) c.loop-j.invariant)
    c.divide_step.ensures

pub returns : goal.returns
returns c = let a = c.args in
    division_ends a.f.modulus c.requires.irreducible a.n a.e a.v a.at a.d a.work.now c.requires.room c.requires.fits c.loop-j.work
    (subst (λ (k : ℕ). Dividing_at a.f.modulus a.n a.e a.v a.at a.d a.work.now k c.loop-j.work) {x = c.loop-j.j} {y = 0} (omega arith) c.loop-j.invariant)
