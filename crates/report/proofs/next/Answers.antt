use mathlib.Core.Path.{refl}
use mathlib.Core.Logic.{inl}
use Prim.Native.Nat.{◌<◌}
use lib.ListN.{length}
use Rattle.std.proofs.Common.{rules}
use Rattle.lists.specs.Decides.{decides_true}
use Rattle.report.specs.Bounds.{countable}
use Rattle.report.specs.Report.{GoesOn}
use Rattle.report.proofs.next.Goals as goal

pub with-requires : goal.with-requires
with-requires c = let on = decides_true (GoesOn c.args.report) c.goes_on.ensures c.if-not-goes_on.false in
    countable c.args.bytes.now c.args.report.read c.args.report.total on.fair on.room c.front-latest.result c.front-latest.ensures

pub returns : goal.returns
returns c = let on = decides_true (GoesOn c.args.report) c.goes_on.ensures c.if-not-goes_on.false in
    let some : 0 < length c.args.bytes.now = search rules in
    inl (on, some, record { entry = c.front-latest.result; read = refl; latest = refl; told = c.front-latest.ensures; total = c.with.ensures })
