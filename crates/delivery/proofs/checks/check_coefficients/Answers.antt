use mathlib.Core.Path.{◌≡◌, refl, transport}
use mathlib.Core.Logic.{inl, inr}
use mathlib.Core.Bool.{false}
use mathlib.Core.List.{List, [], ◌∷◌}
use Prim.Native.Nat.{ℕ, ◌+◌, ◌*◌, ◌-◌, ◌^◌, ◌≤◌, ◌<◌}
use native.Mathlib.Omega.{arith}
use lib.ListN.{length}
use Rattle.std.proofs.lemmas.Result.{err_from_is_err_and}
use Rattle.lists.specs.Answers.{Checks, Answers}
use Rattle.field.specs.Binary.{degree}
use Rattle.refusals.specs.Gives.{number_positive}
use Rattle.refusals.specs.Refusal.{number}
use Rattle.space.specs.Sizes.{max_dim}
use Rattle.stored.specs.Passed.{record_size}
use Rattle.stored.specs.Reader.{record_checks}
use Rattle.stored.specs.declared.Form.{Form}
use Rattle.delivery.specs.Message.{coefficient_record_at, message_end, coefficient_checks}
use Rattle.delivery.specs.MessageLaws.{record_refused, record_after}
use Rattle.delivery.proofs.Laws.{at_most}
use Rattle.delivery.proofs.checks.check_coefficients.Goals.{Start, After-setting_size-at, In_ok-check_record}
use Rattle.delivery.proofs.checks.check_coefficients.Goals as goal

pub setting_size-at-requires : goal.setting_size-at-requires
setting_size-at-requires c = omega (arith, c.requires.2)

-- where the record stands, and how many coefficients there are
module _ (c : goal.After-setting_size-at) where
  abbrev start : goal.Start
  start = (goal.at.After-setting_size-at c).Start

  abbrev form : Form
  form = start.args.form

  abbrev t : List ℕ
  t = start.args.message.now

  abbrev k : ℕ
  k = start.args.k

  abbrev l : ℕ
  l = degree start.args.f.modulus

  abbrev checks : Checks
  checks = record_checks false t (coefficient_record_at form k) 67 79 (2 ^ (k - 3)) l

  at : c.setting_size-at.result ≡ coefficient_record_at form k
  at = c.setting_size-at.ensures

  count : c.power-n.result ≡ 2 ^ (k - 3)
  count = c.power-n.ensures

  few : c.power-n.result ≤ 2 ^ max_dim
  few = at_most max_dim count (omega (arith, start.requires.2))

  near : c.setting_size-at.result ≤ 9 + 2 * max_dim
  near = omega (arith, at, record_size form k, start.requires.2)

  -- the record's checks
  answered : (r : ℕ) → Answers (record_checks false t c.setting_size-at.result 67 79 c.power-n.result l) r → Answers checks r
  answered r = transport (λ i. Answers (record_checks false t (at i) 67 79 (count i) l) r)

pub check_record-requires : goal.check_record-requires
check_record-requires c = ((start c).requires.0, omega (arith, at c, (start c).requires.3), omega (arith, few c))

pub returns-in_err-check_record : goal.returns-in_err-check_record
returns-in_err-check_record c = let h = (goal.at.returns-in_err-check_record c).After-setting_size-at in
    let e = c.in_err-check_record.field-0.0 in
    let out = err_from_is_err_and c.from_residual.result c.from_residual.ensures.1 in
    rw (out.1, out.2) (record_refused (form h) (t h) (k h) (l h) (number e) (number_positive e) (answered h (number e) c.in_err-check_record.ensures))

-- past them
module _ (c : goal.In_ok-check_record) where
  abbrev here : goal.After-setting_size-at
  here = (goal.at.In_ok-check_record c).After-setting_size-at

  after : (n : ℕ) → Answers ((12, message_end (form here) (k here) < length (t here)) ∷ []) n → Answers (coefficient_checks (form here) (t here) (k here) (l here)) n
  after n = record_after (form here) (t here) (k here) (l here) n (answered here 0 c.in_ok-check_record.ensures)

pub overflow_add-at : goal.overflow_add-at
overflow_add-at c = omega (arith, near (here (goal.at.overflow_add-at c).In_ok-check_record))

pub overflow_mul-n : goal.overflow_mul-n
overflow_mul-n c = omega (arith, few (here (goal.at.overflow_mul-n c).In_ok-check_record))

pub overflow_add-at-2 : goal.overflow_add-at-2
overflow_add-at-2 c = let h = here (goal.at.overflow_add-at-2 c).In_ok-check_record in omega (arith, near h, few h)

pub returns-then-at-n : goal.returns-then-at-n
returns-then-at-n c = let e = (goal.at.returns-then-at-n c).In_ok-check_record in
    let h = here e in
    after e 12 (inl (omega (arith, at h, count h, c.if-at-n.true), refl))

pub returns : goal.returns
returns c = let e = (goal.at.returns c).In_ok-check_record in
    let h = here e in
    after e 0 (inr ((λ g. omega (arith, at h, count h, c.if-at-n.false)), refl))
