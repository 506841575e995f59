use mathlib.Core.Path.{◌≡◌, refl, sym, ap, ◌∙◌}
use mathlib.Core.List.{List, ◌++◌}
use Prim.Native.Nat.{ℕ, ◌≤◌}
use native.Mathlib.Omega.{arith}
use lib.ListN.{length, take, drop}
use lib.Seq.{length-take-le}
use Rattle.std.proofs.lemmas.Result.{err_from_is_err_and}
use Rattle.lists.specs.Answers.{Passes}
use Rattle.space.specs.Ready.{Ready}
use Rattle.space.specs.declared.Setting.{Setting}
use Rattle.stored.proofs.Accepted.{setting_ready}
use Rattle.stored.specs.File.{file_of, form_in, modulus_in, basis_in, shift_in, end_in}
use Rattle.stored.specs.Reader.{SettingRead}
use Rattle.delivery.specs.Parts.{Passed}
use Rattle.delivery.specs.Message.{word_from, message_checks}
use Rattle.delivery.specs.MessageLaws.{message_passed, message_read, layout-end}
use Rattle.delivery.proofs.make.Goals.{Start, In_ok-setting, After-layout-p}
use Rattle.delivery.proofs.make.Goals as goal

pub returns-in_err-setting : goal.returns-in_err-setting
returns-in_err-setting c = let out = err_from_is_err_and c.from_residual.result c.from_residual.ensures.1 in rw (out.1, out.2) (c.in_err-setting.ensures, refl)

-- the checks pass
module _ (c : goal.In_ok-setting) where
  abbrev start : goal.Start
  start = (goal.at.In_ok-setting c).Start

  abbrev t : List ℕ
  t = start.args.message.now

  abbrev old : List ℕ
  old = start.args.out.now

  abbrev found : Setting
  found = c.in_ok-setting.setting

  passes : Passes (message_checks t (length old))
  passes = (message_read t (length old) found c.in_ok-setting.ensures).0

  given : SettingRead t found
  given = (message_read t (length old) found c.in_ok-setting.ensures).1

  fit : Ready (modulus_in t) (basis_in t) found
  fit = setting_ready t found given

  held : Passed t
  held = (message_passed t (length old) passes).0

  room : end_in t ≤ length old
  room = (message_passed t (length old) passes).1

pub layout-p-requires : goal.layout-p-requires
layout-p-requires c = let r = fit (goal.at.layout-p-requires c).In_ok-setting in (r.sized, omega (arith, r.dimension, r.sound.high))

-- the part that is lent
module _ (c : goal.After-layout-p) where
  abbrev here : goal.In_ok-setting
  here = (goal.at.After-layout-p c).In_ok-setting

  abbrev end : ℕ
  end = c.layout-p.result.end

  right : end ≡ end_in (t here)
  right = layout-end (t here) (found here) c.form_of-form.result c.layout-p.result (given here) c.form_of-form.ensures c.layout-p.ensures

  fits : end ≤ length (old here)
  fits = omega (arith, right, room here)

  part : length (take end (old here)) ≡ end
  part = length-take-le end (old here) fits

pub slice_bounds-write_file-end : goal.slice_bounds-write_file-end
slice_bounds-write_file-end c = fits c

pub slice_bounds-write_file-end-2 : goal.slice_bounds-write_file-end-2
slice_bounds-write_file-end-2 c = sym (part (goal.at.slice_bounds-write_file-end-2 c).After-layout-p)

pub write_file-requires : goal.write_file-requires
write_file-requires c = let h = (goal.at.write_file-requires c).After-layout-p in (held (here h), given (here h), part h ∙ right h)

pub returns : goal.returns
returns c = let h = (goal.at.returns c).After-layout-p in
    let w = c.write_file.ensures in
    let bytes = t (here h) in (
      passes (here h),
      right h,
      (w.0, w.1, ap (λ (file : List ℕ). file ++ drop (end h) (old (here h))) {y = file_of (form_in bytes) (modulus_in bytes) (basis_in bytes) (shift_in bytes) (word_from bytes) w.0} w.2),
    )
