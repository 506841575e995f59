use mathlib.Core.Path.{◌≡◌, sym, ap, ◌∙◌, subst}
use mathlib.Core.List.{List}
use Prim.Native.Nat.{ℕ, ◌≤◌}
use native.Mathlib.Omega.{arith}
use lib.ListN.{length, take}
use lib.Seq.{length-take-le}
use Rattle.std.proofs.lemmas.Result.{err_from_is_err_and}
use Rattle.lists.specs.Answers.{Checks, Passes}
use Rattle.field.specs.Binary.{degree}
use Rattle.refusals.specs.Refusal.{number}
use Rattle.space.specs.Ready.{Ready}
use Rattle.space.specs.declared.Setting.{Setting}
use Rattle.stored.proofs.Accepted.{setting-passed, setting_ready, setting_dimension}
use Rattle.stored.specs.File.{layout_of, file_limit, form_in, modulus_in, degree_in, dim_in, basis_in, end_in}
use Rattle.stored.specs.Passed.{Head}
use Rattle.stored.specs.Reader.{symbol_checks, SettingRead, read_of}
use Rattle.stored.specs.declared.Layout.{Layout}
use Rattle.stored.specs.declared.Reading.{Reading}
use Rattle.coins.specs.Totals.{Swept}
use Rattle.report.specs.Entry.{entry_checks, file_in}
use Rattle.report.specs.EntryLaws.{setting_refused, size_refused, records-answer, entry_present, entry_limit, entry_readable, file_length}
use Rattle.report.proofs.front.Goals.{In_ok-setting, After-layout-p, In_ok-r}
use Rattle.report.proofs.front.Goals as goal

pub returns-in_err-setting : goal.returns-in_err-setting
returns-in_err-setting c = let e = c.in_err-setting.field-0.0 in
    let (l, a) = c.in_err-setting.ensures in
    let out = err_from_is_err_and c.from_residual.result c.from_residual.ensures.1 in
    rw (out.1, out.2) ((l, setting_refused c.args.bytes.now (number e) l a))

-- the setting passed
module _ (c : goal.In_ok-setting) where
  abbrev bytes : List ℕ
  bytes = c.args.bytes.now

  abbrev found : Setting
  found = c.in_ok-setting.setting

  given : SettingRead bytes found
  given = c.in_ok-setting.ensures

  head : Head bytes
  head = (setting-passed bytes given.0).0

  fit : Ready (modulus_in bytes) (basis_in bytes) found
  fit = setting_ready bytes found given

  dimension : found.space.k ≡ dim_in bytes
  dimension = setting_dimension bytes found given

  abbrev checks : Checks
  checks = symbol_checks (form_in bytes) bytes (dim_in bytes) (degree_in bytes)

pub layout-p-requires : goal.layout-p-requires
layout-p-requires c = let e = (goal.at.layout-p-requires c).In_ok-setting in ((fit e).sized, omega (arith, dimension e, (head e).high))

-- the size of the file
module _ (c : goal.After-layout-p) where
  abbrev passed : goal.In_ok-setting
  passed = (goal.at.After-layout-p c).In_ok-setting

  size : c.layout-p.result.end ≡ end_in (bytes passed)
  size = ap (λ (p : Layout). p.end) (c.layout-p.ensures ∙ λ i. layout_of (c.form_of.ensures i) (degree ((fit passed).modulus i)) (dimension passed i))

pub returns-then-p-gt-FILE_LIMIT : goal.returns-then-p-gt-FILE_LIMIT
returns-then-p-gt-FILE_LIMIT c = let z = (goal.at.returns-then-p-gt-FILE_LIMIT c).After-layout-p in
    (omega arith, size_refused (bytes (passed z)) (given (passed z)).0 (omega (arith, size z, c.if-p-gt-FILE_LIMIT.true)))

pub returns-in_err-r : goal.returns-in_err-r
returns-in_err-r c = let z = (goal.at.returns-in_err-r c).After-layout-p in
    let e = c.in_err-r.field-0.0 in
    let (l, a) = c.in_err-r.ensures in
    let out = err_from_is_err_and c.from_residual-in_err-r.result c.from_residual-in_err-r.ensures.1 in
    rw (out.1, out.2) ((l, records-answer (bytes (passed z)) (number e) (given (passed z)).0 (omega (arith, size z, c.if-p-gt-FILE_LIMIT.false)) a))

-- the file is accepted
module _ (c : goal.In_ok-r) where
  abbrev laid : goal.After-layout-p
  laid = (goal.at.In_ok-r c).After-layout-p

  abbrev s : List ℕ
  s = bytes (passed laid)

  passes : end_in s ≤ file_limit → Passes (entry_checks s)
  passes few = records-answer s 0 (given (passed laid)).0 few c.in_ok-r.ensures.0

  end : c.in_ok-r.r.end ≡ end_in s
  unfolding read_of
  end = ap (λ (x : Reading). x.end) c.in_ok-r.ensures.1

  inside : end_in s ≤ file_limit → c.in_ok-r.r.end ≤ length s
  inside few = omega (arith, end, entry_present s (passes few))

  file-is : take c.in_ok-r.r.end s ≡ file_in s
  file-is = ap (λ (n : ℕ). take n s) end

pub slice_bounds-all_coins-end : goal.slice_bounds-all_coins-end
slice_bounds-all_coins-end c = sym (length-take-le _ _ (inside c (omega (arith, size (laid c), c.if-p-gt-FILE_LIMIT.false))))

pub all_coins-sweep-requires : goal.all_coins-sweep-requires
all_coins-sweep-requires c =
    let few : end_in (s c) ≤ file_limit = omega (arith, size (laid c), c.if-p-gt-FILE_LIMIT.false) in
    subst (λ (f : List ℕ). Rattle.coins.specs.Tally.Readable f c.in_ok-r.r × (length f ≤ file_limit)) (sym (file-is c))
    (entry_readable (s c) (passes c few) c.in_ok-r.r c.in_ok-r.ensures.1, omega (arith, file_length (s c) (passes c few), entry_limit (s c) (passes c few)))

pub returns : goal.returns
returns c = let e = (goal.at.returns c).In_ok-r in
    let t = c.all_coins-sweep.result in
    let few : end_in (s e) ≤ file_limit = omega (arith, size (laid e), c.if-p-gt-FILE_LIMIT.false) in
    (passes e few, (subst (λ (f : List ℕ). Swept f t.k t.coins t.rejects t.most) (file-is e) c.all_coins-sweep.ensures, end e))
