use mathlib.Core.Path.{◌≡◌, sym, ap, ◌∙◌, transport}
use mathlib.Core.Bool.{false}
use mathlib.Core.List.{List}
use Prim.Native.Nat.{ℕ, ◌+◌, ◌-◌, ◌^◌, ◌≤◌}
use native.Mathlib.Omega.{arith}
use lib.ListN.{length, take}
use lib.Seq.{length-take-le}
use Rattle.field.specs.Binary.{degree}
use Rattle.space.specs.Setting.{setting_of}
use Rattle.space.specs.declared.Setting.{Setting}
use Rattle.stored.proofs.Accepted.{setting_ready, setting_dimension}
use Rattle.stored.specs.Bytes.{numbers_at}
use Rattle.stored.specs.File.{Carries, file_end, word_record_at, small_dim, form_in, modulus_in, dim_in, basis_in, shift_in}
use Rattle.stored.specs.Passed.{basis-first, length_basis, record_size}
use Rattle.delivery.specs.Parts.{Small, Coefficients, Passed, StoredFile}
use Rattle.delivery.specs.Message.{coefficients_at, coefficients_in}
use Rattle.delivery.specs.MessageLaws.{message_carries, message_coefficients}
use Rattle.delivery.proofs.Laws.{at_most}
use Rattle.delivery.proofs.parts.write_file.Goals.{Start, After-form_of-form, After-setting_size-at, After-numbers_at-coefficients, After-write_coefficients}
use Rattle.delivery.proofs.parts.write_file.Goals as goal

-- the setting that was read
module _ (c : goal.Start) where
  abbrev t : List ℕ
  t = c.args.message.now

  abbrev found : Setting
  found = c.args.setting

  abbrev k : ℕ
  k = found.space.k

  held : Passed t
  held = c.requires.0

  modulus : found.field.modulus ≡ modulus_in t
  modulus = (setting_ready t found c.requires.1).modulus

  shift : found.shift ≡ shift_in t
  unfolding setting_of
  shift = ap (λ (s : Setting). s.shift) c.requires.1.1

  dimension : k ≡ dim_in t
  dimension = setting_dimension t found c.requires.1

  small : k ≤ small_dim
  small = omega (arith, dimension, length_basis t, held.setting.few)

pub overflow_sub-k : goal.overflow_sub-k
overflow_sub-k c = let s = (goal.at.overflow_sub-k c).Start in omega (arith, dimension s, (held s).head.low)

pub power-n-requires : goal.power-n-requires
power-n-requires c = let s = (goal.at.power-n-requires c).Start in omega (arith, small s)

pub setting_size-at-requires : goal.setting_size-at-requires
setting_size-at-requires c = let s = (goal.at.setting_size-at-requires c).Start in omega (arith, small s)

-- where the coefficients stand, and how many there are
module _ (c : goal.After-setting_size-at) where
  abbrev formed : goal.After-form_of-form
  formed = (goal.at.After-setting_size-at c).After-form_of-form

  abbrev start : goal.Start
  start = (goal.at.After-setting_size-at c).Start

  abbrev n : ℕ
  n = c.power-n.result

  form : formed.form_of-form.result ≡ form_in (t start)
  form = formed.form_of-form.ensures

  at : c.setting_size-at.result + 6 ≡ coefficients_at (form_in (t start)) (dim_in (t start))
  at = ap (λ (p : ℕ). p + 6) (c.setting_size-at.ensures ∙ λ i. word_record_at (form i) (dimension start i))

  few : n ≤ 2 ^ (small_dim - 3)
  few = at_most (small_dim - 3) c.power-n.ensures (omega (arith, small start))

  count : n ≡ 2 ^ (dim_in (t start) - 3)
  count = c.power-n.ensures ∙ ap (λ (j : ℕ). 2 ^ (j - 3)) (dimension start)

pub overflow_add-at : goal.overflow_add-at
overflow_add-at c = let s = start c in
    omega (arith, c.setting_size-at.ensures, record_size (formed c).form_of-form.result (k s), small s)

pub basis_at-basis-requires : goal.basis_at-basis-requires
basis_at-basis-requires c = let s = start c in
    (omega (arith, small s), omega (arith, dimension s, (held s).head.basis, basis-first (form_in (t s)) (dim_in (t s))))

pub numbers_at-coefficients-requires : goal.numbers_at-coefficients-requires
numbers_at-coefficients-requires c = let h = (goal.at.numbers_at-coefficients-requires c).After-setting_size-at in (few h, omega (arith, at h, count h, (held (start h)).coefficients.present))

-- what was read
module _ (c : goal.After-numbers_at-coefficients) where
  abbrev here : goal.After-setting_size-at
  here = (goal.at.After-numbers_at-coefficients c).After-setting_size-at

  abbrev got : goal.Start
  got = (goal.at.After-numbers_at-coefficients c).Start

  abbrev bs : List ℕ
  bs = take (k got) c.basis_at-basis.result

  abbrev xs : List ℕ
  xs = take (n here) c.numbers_at-coefficients.result

  basis-fits : k got ≤ length c.basis_at-basis.result
  basis-fits = omega (arith, small got, c.basis_at-basis.ensures.0)

  fits : n here ≤ length c.numbers_at-coefficients.result
  fits = omega (arith, few here, c.numbers_at-coefficients.ensures.0)

  basis : bs ≡ basis_in (t got)
  unfolding basis_in
  basis = c.basis_at-basis.ensures.1 ∙ ap (numbers_at false (t got) 7) (dimension got)

  coefficients : xs ≡ coefficients_in (t got)
  unfolding coefficients_in
  coefficients = c.numbers_at-coefficients.ensures.1 ∙ λ i. numbers_at false (t got) (at here i) (count here i)

pub slice_bounds-basis-end : goal.slice_bounds-basis-end
slice_bounds-basis-end c = basis-fits c

pub slice_bounds-write_coefficients-end : goal.slice_bounds-write_coefficients-end
slice_bounds-write_coefficients-end c = sym (length-take-le _ _ (basis-fits (goal.at.slice_bounds-write_coefficients-end c).After-numbers_at-coefficients))

pub slice_bounds-coefficients-end : goal.slice_bounds-coefficients-end
slice_bounds-coefficients-end c = fits (goal.at.slice_bounds-coefficients-end c).After-numbers_at-coefficients

pub slice_bounds-write_coefficients-end-2 : goal.slice_bounds-write_coefficients-end-2
slice_bounds-write_coefficients-end-2 c = sym (length-take-le _ _ (fits (goal.at.slice_bounds-write_coefficients-end-2 c).After-numbers_at-coefficients))

pub write_coefficients-requires : goal.write_coefficients-requires
write_coefficients-requires c = let h = (goal.at.write_coefficients-requires c).After-numbers_at-coefficients in
    let s = got h in
    let m = modulus s in
    let g = form (here h) in (
      transport (λ i. Carries (sym g i) (sym (shift s) i)) (message_carries (t s)),
      transport (λ i. Small (sym m i) (sym (basis h) i) (sym (shift s) i)) (held s).setting,
      transport (λ i. Coefficients (sym m i) (sym (basis h) i) (sym (coefficients h) i)) (message_coefficients (t s) (held s)),
      s.requires.2 ∙ ap (file_end (form_in (t s)) (degree (modulus_in (t s)))) (sym (length_basis (t s))) ∙ λ i. file_end (sym g i) (degree (sym m i)) (length (sym (basis h) i)),
    )

pub returns : goal.returns
returns c = let w = (goal.at.returns c).After-write_coefficients in
    let h = (goal.at.After-write_coefficients w).After-numbers_at-coefficients in
    let s = got h in
    transport (λ i. StoredFile (form (here h) i) (modulus s i) (basis h i) (shift s i) (coefficients h i) w.write_coefficients.new.out)
    w.write_coefficients.ensures
