use mathlib.Core.Path.{◌≡◌, sym, subst, transport}
use mathlib.Core.List.{List}
use Prim.Native.Nat.{ℕ, ◌≤◌}
use native.Mathlib.Omega.{arith}
use lib.ListN.{length}
use Rattle.std.proofs.lemmas.Result.{err_from_is_err_and}
use Rattle.lists.specs.Answers.{Answers}
use Rattle.field.specs.Binary.{degree}
use Rattle.refusals.specs.Gives.{number_positive}
use Rattle.refusals.specs.Refusal.{number, answer_of}
use Rattle.space.specs.Ready.{Ready}
use Rattle.space.specs.Sizes.{max_dim}
use Rattle.space.specs.declared.Setting.{Setting}
use Rattle.stored.proofs.Accepted.{setting-passed, setting_ready, setting_dimension}
use Rattle.stored.specs.File.{modulus_in, dim_in, basis_in, end_in}
use Rattle.stored.specs.Passed.{Head}
use Rattle.delivery.specs.Message.{coefficient_record_at, room_checks, coefficient_checks}
use Rattle.delivery.specs.MessageLaws.{room_refused, coefficient-answer, layout-end}
use Rattle.delivery.proofs.checks.check_rest.Goals.{Start, After-form_of-form, After-layout-p, In_ok-check_room}
use Rattle.delivery.proofs.checks.check_rest.Goals as goal

-- the setting that was read
module _ (c : goal.Start) where
  abbrev t : List ℕ
  t = c.args.message.now

  abbrev room : ℕ
  room = c.args.room

  abbrev found : Setting
  found = c.args.setting

  fit : Ready (modulus_in t) (basis_in t) found
  fit = setting_ready t found c.requires

  head : Head t
  head = (setting-passed t c.requires.0).0

  dimension : found.space.k ≡ dim_in t
  dimension = setting_dimension t found c.requires

  few : found.space.k ≤ max_dim
  few = omega (arith, dimension, head.high)

pub layout-p-requires : goal.layout-p-requires
layout-p-requires c = let s = (goal.at.layout-p-requires c).Start in ((fit s).sized, few s)

-- where the stored file ends
module _ (c : goal.After-layout-p) where
  abbrev formed : goal.After-form_of-form
  formed = (goal.at.After-layout-p c).After-form_of-form

  abbrev start : goal.Start
  start = (goal.at.After-layout-p c).Start

  -- check 6
  six : (n : ℕ) → Answers (room_checks c.layout-p.result.end (room start)) n → Answers (room_checks (end_in (t start)) (room start)) n
  six n =
      subst (λ (end : ℕ). Answers (room_checks end (room start)) n)
      (layout-end (t start) (found start) formed.form_of-form.result c.layout-p.result start.requires formed.form_of-form.ensures c.layout-p.ensures)

pub returns-in_err-check_room : goal.returns-in_err-check_room
returns-in_err-check_room c = let p = (goal.at.returns-in_err-check_room c).After-layout-p in
    let s = start p in
    let e = c.in_err-check_room.field-0.0 in
    let out = err_from_is_err_and c.from_residual.result c.from_residual.ensures.1 in
    rw (out.1, out.2) (room_refused (t s) (room s) (number e) (number_positive e) (six p (number e) c.in_err-check_room.ensures))

pub check_coefficients-requires : goal.check_coefficients-requires
check_coefficients-requires c = let p = (goal.at.check_coefficients-requires c).After-layout-p in
    let s = start p in
    let form = (formed p).form_of-form.ensures in (
      (fit s).sized,
      omega (arith, dimension s, (head s).low),
      few s,
      transport (λ i. coefficient_record_at (sym form i) (sym (dimension s) i) ≤ length (t s)) (head s).basis,
    )

pub returns : goal.returns
returns c = let o = (goal.at.returns c).In_ok-check_room in
    let p = (goal.at.returns c).After-layout-p in
    let s = start p in
    let form = (formed p).form_of-form.ensures in
    let n : ℕ = answer_of c.check_coefficients.result in
    coefficient-answer (t s) (room s) n (six p 0 o.in_ok-check_room.ensures)
    (transport (λ i. Answers (coefficient_checks (form i) (t s) (dimension s i) (degree ((fit s).modulus i))) n) c.check_coefficients.ensures)
