use mathlib.Core.Path.{◌≡◌, ap}
use mathlib.Core.List.{[], ◌∷◌}
use Prim.Native.Nat.{ℕ, ◌/◌, ◌%◌}
use native.Mathlib.Omega.{arith}
use lib.ListN.{length-set}
use Rattle.filing.specs.Put.{put_both, put_same}
use Rattle.filing.proofs.put.put_two.Goals as goal

pub bounds-out-at-2 : goal.bounds-out-at-2
bounds-out-at-2 c = simp length-set (omega arith)

pub returns : goal.returns
returns c = let a = c.args in
    let high : a.x / 256 ≡ a.x / 256 % 256 = omega arith in
    put_same (ap (λ (y : ℕ). a.x % 256 ∷ y ∷ []) high) (put_both a.at (a.x % 256) (a.x / 256) a.out.now c.requires)
