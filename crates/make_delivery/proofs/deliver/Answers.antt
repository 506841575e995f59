use mathlib.Core.Path.{sym, subst}
use mathlib.Core.List.{List}
use Prim.Native.Nat.{ℕ, ◌≤◌}
use native.Mathlib.Omega.{arith}
use lib.ListN.{length}
use lib.Seq.{length-take-le}
use Rattle.delivery.specs.Delivered.{written-fits}
use Rattle.delivery.specs.Message.{Told}
use Rattle.make_delivery.proofs.deliver.Goals.{After-make, In-Ok}
use Rattle.make_delivery.proofs.deliver.Goals as goal

-- the bytes written fit
module _ (c : goal.In-Ok) where
  abbrev n : ℕ
  n = c.in-Ok.n

  abbrev called : goal.After-make
  called = (goal.at.In-Ok c).After-make

  abbrev new : List ℕ
  new = called.make.new.out

  fits : n ≤ length new
  fits =
      let a = called.before.before in
      let old = a.room-out.result in
      let t = a.before.before.args.message.now in
      omega (arith, called.make.auto.out, written-fits t old new n (subst (Told t old new) c.in-Ok.is called.make.ensures))

pub slice_bounds-out-end : goal.slice_bounds-out-end
slice_bounds-out-end c = fits c

pub slice_bounds-written-end : goal.slice_bounds-written-end
slice_bounds-written-end c = sym (length-take-le (n (goal.at.slice_bounds-written-end c).In-Ok) (new (goal.at.slice_bounds-written-end c).In-Ok) (fits (goal.at.slice_bounds-written-end c).In-Ok))
