-- `novel::convert::divide` meets its contract: two folds, that of the upper coefficients first.
use mathlib.Core.Path.{refl, ap, subst}
use mathlib.Core.List.{List}
use Prim.Native.Nat.{ℕ, ◌/◌}
use native.Mathlib.Omega.{arith}
use Rattle.novel.specs.Convert.{Folded}
use Rattle.novel.proofs.Folding.{divided}
use Rattle.novel.proofs.convert.divide.Goals.{Start}
use Rattle.novel.proofs.convert.divide.Goals as goal

pub returns : goal.returns
returns c = let start = (goal.at.returns c).Start in
    let a = start.args in
    let mid : List ℕ = c.fold.new.values in
    let new : List ℕ = c.fold-2.new.values in
    let half = ap (λ (n : ℕ). n / 2) c.power.ensures in
    divided a.f.modulus start.requires.0.irreducible a.table.now a.j a.values.now mid new start.requires.2 (start.requires.0.lead refl a.j (omega arith)) start.requires.1
    (subst (λ (h : ℕ). Folded a.f.modulus a.table.now a.j a.j h a.values.now mid) half c.fold.ensures)
    c.fold-2.ensures
