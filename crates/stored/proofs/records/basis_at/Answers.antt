use mathlib.Core.Path.{◌≡◌, refl, sym}
use mathlib.Core.Bool.{false}
use mathlib.Core.List.{List}
use Prim.Native.Nat.{ℕ, ◌≤◌}
use native.Mathlib.Omega.{arith}
use lib.ListN.{length, take, replicate}
use lib.Seq.{length-take-le}
use Rattle.stored.specs.Packed.{front_length, front-numbers}
use Rattle.stored.proofs.records.basis_at.Goals.{After-numbers_at}
use Rattle.stored.proofs.records.basis_at.Goals as goal

abbrev zeros : List ℕ
zeros = replicate 16 0

part : (k : ℕ) → k ≤ 16 → length (take k zeros) ≡ k
part k h = length-take-le k zeros h

pub slice_bounds-numbers_at-end : goal.slice_bounds-numbers_at-end
slice_bounds-numbers_at-end c = sym (part c.args.k (omega arith))

pub numbers_at-requires : goal.numbers_at-requires
numbers_at-requires c = let a = c.args in omega (arith, part a.k (omega arith))

pub returns : goal.returns
returns c = let e = (goal.at.returns c).After-numbers_at in
    let a = e.args in
    let new : List ℕ = e.numbers_at.new.out in (
      front_length false a.file.now 7 a.k zeros new (omega arith) e.numbers_at.ensures,
      front-numbers false a.file.now 7 a.k zeros new (omega arith) e.numbers_at.ensures refl,
    )
