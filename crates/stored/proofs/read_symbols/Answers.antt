use mathlib.Core.Path.{◌≡◌, sym, ◌∙◌, transport}
use mathlib.Core.List.{List}
use Prim.Native.Nat.{ℕ, ◌≤◌}
use native.Mathlib.Omega.{arith}
use lib.ListN.{length}
use Rattle.std.proofs.lemmas.Result.{err_from_is_err_and}
use Rattle.lists.specs.Answers.{Answers}
use Rattle.field.specs.Binary.{degree}
use Rattle.refusals.specs.Gives.{number_positive}
use Rattle.refusals.specs.Refusal.{number}
use Rattle.space.specs.Ready.{Ready}
use Rattle.space.specs.Sizes.{max_dim}
use Rattle.space.specs.declared.Setting.{Setting}
use Rattle.stored.proofs.Accepted.{setting-passed, setting_ready, setting_dimension, read_made}
use Rattle.stored.specs.File.{word_record_at, layout_of, form_in, modulus_in, degree_in, dim_in, basis_in}
use Rattle.stored.specs.Passed.{Head}
use Rattle.stored.specs.Reader.{symbol_checks}
use Rattle.stored.proofs.read_symbols.Goals.{Start, After-form_of-form}
use Rattle.stored.proofs.read_symbols.Goals as goal

-- the setting that was read
module _ (c : goal.Start) where
  abbrev bytes : List ℕ
  bytes = c.args.file.now

  abbrev found : Setting
  found = c.args.setting

  fit : Ready (modulus_in bytes) (basis_in bytes) found
  fit = setting_ready bytes found c.requires

  head : Head bytes
  head = (setting-passed bytes c.requires.0).0

  dimension : found.space.k ≡ dim_in bytes
  dimension = setting_dimension bytes found c.requires

  few : found.space.k ≤ max_dim
  few = omega (arith, dimension, head.high)

-- and the form
module _ (c : goal.After-form_of-form) where
  abbrev start : goal.Start
  start = (goal.at.After-form_of-form c).Start

  -- the checks of word and proof are those of the file
  tested : (r : ℕ) → Answers (symbol_checks c.form_of-form.result (bytes start) (found start).space.k (degree (found start).field.modulus)) r → Answers (symbol_checks (form_in (bytes start)) (bytes start) (dim_in (bytes start)) (degree_in (bytes start))) r
  tested r a = transport (λ i. Answers (symbol_checks (c.form_of-form.ensures i) (bytes start) (dimension start i) (degree ((fit start).modulus i))) r) a

pub check_symbols-requires : goal.check_symbols-requires
check_symbols-requires c = let s = (goal.at.check_symbols-requires c).Start in
    ((fit s).sized, few s, transport (λ i. word_record_at (sym c.form_of-form.ensures i) (sym (dimension s) i) ≤ length (bytes s)) (head s).basis)

pub returns-in_err-check_symbols : goal.returns-in_err-check_symbols
returns-in_err-check_symbols c = let t = (goal.at.returns-in_err-check_symbols c).After-form_of-form in
    let e = c.in_err-check_symbols.field-0.0 in
    let out = err_from_is_err_and c.from_residual.result c.from_residual.ensures.1 in
    rw (out.1, out.2) (number_positive e, tested t (number e) c.in_err-check_symbols.ensures)

pub layout-p-requires : goal.layout-p-requires
layout-p-requires c = let s = (goal.at.layout-p-requires c).Start in ((fit s).sized, few s)

pub returns : goal.returns
returns c = let t = (goal.at.returns c).After-form_of-form in
    let s = start t in
    let form = t.form_of-form.ensures in (
      tested t 0 c.in_ok-check_symbols.ensures,
      read_made (bytes s) t.form_of-form.result (found s) c.layout-p.result form s.requires.1
          (c.layout-p.ensures ∙ λ i. layout_of (form i) (degree ((fit s).modulus i)) (dimension s i)),
    )
