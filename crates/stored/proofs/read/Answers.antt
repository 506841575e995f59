use native.Mathlib.Omega.{arith}
use Rattle.std.proofs.lemmas.Result.{err_from_is_err_and}
use Rattle.stored.proofs.Accepted.{told-prefix_refused, told-end, told-longer, told-whole}
use Rattle.stored.proofs.read.Goals as goal

pub returns-in_err-r : goal.returns-in_err-r
returns-in_err-r c = let out = err_from_is_err_and c.from_residual.result c.from_residual.ensures.1 in
    rw (out.1, out.2) (told-prefix_refused c.args.file.now c.in_err-r.field-0.0 c.in_err-r.ensures)

pub returns-then-r-file : goal.returns-then-r-file
returns-then-r-file c = let f = c.args.file.now in
    let same = told-end f c.in_ok-r.r c.in_ok-r.ensures in
    told-longer f c.in_ok-r.r c.in_ok-r.ensures (omega (arith, c.if-r-file.true))

pub returns : goal.returns
returns c = let f = c.args.file.now in
    let same = told-end f c.in_ok-r.r c.in_ok-r.ensures in
    told-whole f c.in_ok-r.r c.in_ok-r.ensures (omega (arith, c.if-r-file.false))
