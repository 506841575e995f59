use mathlib.Core.Path.{◌≡◌, sym, ap, ◌∙◌}
use mathlib.Core.List.{List}
use Prim.Native.Nat.{ℕ}
use native.Mathlib.Omega.{arith}
use Rattle.std.proofs.lemmas.Result.{err_from_is_err_and}
use Rattle.lists.specs.Answers.{Passes}
use Rattle.field.specs.Binary.{degree}
use Rattle.refusals.specs.Refusal.{number}
use Rattle.space.specs.Ready.{Ready}
use Rattle.space.specs.Setting.{setting_of}
use Rattle.stored.proofs.Accepted.{read_places}
use Rattle.stored.proofs.CheckLaws.{read-passes, read_ready, read_dimension}
use Rattle.stored.specs.File.{layout_of, form_in, modulus_in, dim_in, basis_in, shift_in}
use Rattle.stored.specs.Reader.{file_checks, read_of}
use Rattle.stored.specs.declared.Layout.{Layout}
use Rattle.stored.specs.declared.Reading.{Reading}
use Rattle.filing.specs.Convert.{other}
use Rattle.filing.specs.ConvertLaws.{file_refused, shift_refused, shift_passes}
use Rattle.filing.proofs.converted_length.Goals.{In_ok-r}
use Rattle.filing.proofs.converted_length.Goals as goal

pub returns-in_err-r : goal.returns-in_err-r
returns-in_err-r c = let e = c.in_err-r.field-0.0 in
    let out = err_from_is_err_and c.from_residual.result c.from_residual.ensures.1 in
    let r = c.in_err-r.ensures in
    rw (out.1, out.2) (r.0, file_refused c.args.file.now (number e) r.0 r.1)

-- the file is accepted
module _ (c : goal.In_ok-r) where
  abbrev bytes : List ℕ
  bytes = c.args.file.now

  abbrev found : Reading
  found = c.in_ok-r.r

  passes : Passes (file_checks bytes)
  passes = read-passes bytes found c.in_ok-r.ensures

  fit : Ready (modulus_in bytes) (basis_in bytes) found.setting
  fit = read_ready bytes found c.in_ok-r.ensures

  shift : found.setting.shift ≡ shift_in bytes
  unfolding read_of setting_of
  shift = ap (λ (x : Reading). x.setting.shift) c.in_ok-r.ensures.1

pub returns-then-setting-ne0 : goal.returns-then-setting-ne0
returns-then-setting-ne0 c = let e = (goal.at.returns-then-setting-ne0 c).In_ok-r in
    (omega arith, shift_refused (bytes e) (passes e) (λ z. c.if-setting-ne0.true (shift e ∙ z)))

pub layout-p-requires : goal.layout-p-requires
layout-p-requires c = let r = fit (goal.at.layout-p-requires c).In_ok-r in (r.sized, omega (arith, r.dimension, r.sound.high))

pub returns : goal.returns
returns c = let e = (goal.at.returns c).In_ok-r in
    let f = bytes e in
    let r = found e in
    let t = e.in_ok-r.ensures in
    let form : c.other_form.result ≡ other (form_in f) = c.other_form.ensures ∙ ap other (read_places f r t).form in
    let dimension = read_dimension f r t in
    let laid : c.layout-p.result ≡ layout_of (other (form_in f)) (degree (modulus_in f)) (dim_in f) =
    c.layout-p.ensures ∙ λ i. layout_of (form i) (degree ((fit e).modulus i)) (dimension i) in
    (shift_passes f (passes e) (sym (shift e) ∙ c.if-setting-ne0.false), ap (λ (x : Layout). x.end) laid)
