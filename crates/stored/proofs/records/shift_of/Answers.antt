use mathlib.Core.Path.{◌≡◌, sym, ap, ◌∙◌, subst}
use mathlib.Core.List.{List}
use Prim.Native.Nat.{ℕ, ◌+◌, ◌*◌, ◌≤◌}
use native.Mathlib.Omega.{arith}
use lib.ListN.{length}
use Rattle.stored.specs.File.{word_record_at, form_in, dim_in, shift_at, shift_in}
use Rattle.stored.specs.declared.Form.{Form}
use Rattle.stored.specs.declared.Form.TheVariants.{One, Two}
use Rattle.stored.proofs.records.shift_of.Goals.{After-form_of, In-Two}
use Rattle.stored.proofs.records.shift_of.Goals as goal

-- the shift by the form
by_form : (f : List ℕ) (g : Form) → form_in f ≡ g → shift_at g f ≡ shift_in f
unfolding shift_in
by_form f g e = sym (ap (λ (x : Form). shift_at x f) e)

-- form 2
module _ (c : goal.In-Two) where
  abbrev begun : goal.After-form_of
  begun = (goal.at.In-Two c).After-form_of

  abbrev bytes : List ℕ
  bytes = begun.args.file.now

  two : form_in bytes ≡ Two
  two = sym begun.form_of.ensures ∙ c.in-Two.is

  present : 9 + 2 * dim_in bytes ≤ length bytes
  present = subst (λ (g : Form). word_record_at g (dim_in bytes) ≤ length bytes) two begun.requires.1

pub two_at-requires : goal.two_at-requires
two_at-requires c = omega (arith, present (goal.at.two_at-requires c).In-Two)

pub returns-in-One : goal.returns-in-One
returns-in-One c = let b = (goal.at.returns-in-One c).After-form_of in
    let f = b.args.file.now in
    by_form f One (sym b.form_of.ensures ∙ c.in-One.is)

pub returns-in-Two : goal.returns-in-Two
returns-in-Two c = let p = (goal.at.returns-in-Two c).In-Two in c.two_at.ensures ∙ by_form (bytes p) Two (two p)
