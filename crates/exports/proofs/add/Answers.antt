use mathlib.Core.Path.{refl, ap, ◌∙◌, subst}
use mathlib.Core.List.{List}
use Prim.Native.Nat.{ℕ}
use native.Mathlib.Omega.{arith}
use lib.ListN.{length}
use Rattle.std.proofs.lemmas.Result.{err_from_is_err_and}
use Rattle.lists.specs.Answers.{Answers, Passes, answers-after}
use Rattle.refusals.specs.Gives.{number_positive}
use Rattle.refusals.specs.Refusal.{number}
use Rattle.field.specs.Calls.{modulus_numbered}
use Rattle.field.specs.Checks.{modulus_checks}
use Rattle.field.specs.Products.{accumulated}
use Rattle.exports.specs.Lists.{list_checks, product_checks}
use Rattle.exports.proofs.ListLaws.{Fine, fine}
use Rattle.exports.proofs.add.Goals.{Start, In_ok-f, In_ok-check_lists}
use Rattle.exports.proofs.add.Goals as goal

-- the modulus passes
module _ (c : goal.In_ok-f) where
  abbrev start : goal.Start
  start = (goal.at.In_ok-f c).Start

  abbrev m : ℕ
  m = start.args.modulus

  abbrev factors : List ℕ
  factors = start.args.factors.now

  abbrev values : List ℕ
  values = start.args.values.now

  -- the checks of the lists answer
  later : (r : ℕ) → Answers (list_checks c.in_ok-f.f.modulus factors values) r → Answers (product_checks m factors values) r
  later r a =
      answers-after (modulus_checks m) (list_checks m factors values) r (modulus_numbered m) c.in_ok-f.ensures.0
      (subst (λ (n : ℕ). Answers (list_checks n factors values) r) c.in_ok-f.ensures.1.modulus a)

-- no check refuses
module _ (c : goal.In_ok-check_lists) where
  abbrev before : goal.In_ok-f
  before = (goal.at.In_ok-check_lists c).In_ok-f

  passes : Passes (product_checks (m before) (factors before) (values before))
  passes = later before 0 c.in_ok-check_lists.ensures

  good : Fine (m before) (factors before) (values before)
  good = fine (m before) (factors before) (values before) passes

pub returns-in_err-check_lists : goal.returns-in_err-check_lists
returns-in_err-check_lists c = let e = c.in_err-check_lists.field-0.0 in
    let out = err_from_is_err_and c.from_residual-in_err-check_lists.result c.from_residual-in_err-check_lists.ensures.1 in
    rw (out.1, out.2)
    (later (goal.at.returns-in_err-check_lists c).In_ok-f (number e) c.in_err-check_lists.ensures, record { done = λ z. absurd (omega (arith, number_positive e)); refused = λ l. refl })

pub add_products-requires-clause-below : goal.add_products-requires-clause-below
add_products-requires-clause-below c = let e = (goal.at.add_products-requires-clause-below c).In_ok-check_lists in
    let f = (before e).in_ok-f.ensures.1 in
    let g = good e in
    (rw f.modulus g.first, rw f.modulus g.second, g.places)

pub returns : goal.returns
returns c = let e = (goal.at.returns c).In_ok-check_lists in
    let b = before e in (
      passes e,
      record {
        done = λ z. c.add_products.ensures ∙ ap (λ (n : ℕ). accumulated n 0 (factors b) (length (factors b)) 0 (values b)) b.in_ok-f.ensures.1.modulus;
        refused = λ l. absurd (omega arith);
      },
    )
