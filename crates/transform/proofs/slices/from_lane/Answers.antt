use mathlib.Core.Path.{◌≡◌, sym, ap, ◌∙◌}
use Prim.Native.Nat.{ℕ}
use native.Mathlib.Omega.{arith}
use lib.ListN.{length}
use Rattle.lists.specs.Filled.{filled-all}
use Rattle.lists.specs.Lanes.{lane}
use Rattle.transform.proofs.slices.from_lane.Goals as goal

pub returns : goal.returns
unfolding lane
returns c = let a = c.args in
    let last : length a.to.now ≡ c.loop-o.o = omega arith in
    filled-all last c.loop-o.invariant ∙ ap (λ (n : ℕ). lane a.rows a.r n a.from.now) (sym last)
