use mathlib.Core.Path.{◌≡◌, refl}
use mathlib.Core.List.{List}
use Prim.Native.Nat.{ℕ}
use native.Mathlib.Omega.{arith}
use lib.ListN.{length}
use Rattle.std.proofs.lemmas.Result.{err_from_is_err_and}
use Rattle.lists.specs.Answers.{Passes}
use Rattle.refusals.specs.Refusal.{number}
use Rattle.filing.specs.Convert.{converted_end, shift_checks, convert_checks}
use Rattle.filing.specs.ConvertLaws.{convert_refused, convert_long, convert_passes}
use Rattle.filing.proofs.convert.Goals.{In_ok-length, Else-out-length, After-copy}
use Rattle.filing.proofs.convert.Goals as goal

pub returns-in_err-length : goal.returns-in_err-length
returns-in_err-length c = let a = c.args in
    let e = c.in_err-length.field-0.0 in
    let out = err_from_is_err_and c.from_residual.result c.from_residual.ensures.1 in
    let r = c.in_err-length.ensures in
    rw (out.1, out.2) ((r.0, convert_refused a.file.now (length a.out.now) (number e) r.0 r.1), refl)

-- the file may be converted
module _ (c : goal.In_ok-length) where
  abbrev bytes : List ℕ
  bytes = c.args.file.now

  abbrev room : ℕ
  room = length c.args.out.now

  told : Passes (shift_checks bytes) × (c.in_ok-length.length ≡ converted_end bytes)
  told = c.in_ok-length.ensures

pub returns-then-out-length : goal.returns-then-out-length
returns-then-out-length c = let e = (goal.at.returns-then-out-length c).In_ok-length in
    ((omega arith, convert_long (bytes e) (room e) (told e).0 (λ z. omega (arith, c.if-out-length.true, (told e).1))), refl)

passed : (c : goal.Else-out-length) → Passes (convert_checks (bytes (goal.at.Else-out-length c).In_ok-length) (room (goal.at.Else-out-length c).In_ok-length))
passed c = let e = (goal.at.Else-out-length c).In_ok-length in convert_passes (bytes e) (room e) (told e).0 (omega (arith, c.if-out-length.false, (told e).1))

pub copy-requires : goal.copy-requires
copy-requires c = passed (goal.at.copy-requires c).Else-out-length

pub returns : goal.returns
returns c = let p = (goal.at.returns c).After-copy in (passed (goal.at.After-copy p).Else-out-length, p.copy.ensures)
