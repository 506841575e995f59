use mathlib.Core.Path.{ap, subst}
use mathlib.Core.List.{List}
use Prim.Native.Nat.{ℕ}
use native.Mathlib.Omega.{arith}
use lib.ListN.{length}
use Rattle.std.proofs.lemmas.Result.{err_from_is_err_and}
use Rattle.lists.specs.Answers.{Answers}
use Rattle.field.specs.Binary.{degree}
use Rattle.field.specs.Checks.{degree_range}
use Rattle.refusals.specs.Gives.{number_positive}
use Rattle.refusals.specs.Refusal.{number}
use Rattle.space.specs.Ready.{Ready, ready}
use Rattle.stored.specs.declared.Form.{Form}
use Rattle.filing.specs.Writer.{length_checks, range_checks, writer_checks}
use Rattle.filing.specs.WriterLaws.{setting_refused, length_refused, range_answer}
use Rattle.filing.proofs.writer.check.Goals.{Start, In_ok-s, In_ok-check_lengths}
use Rattle.filing.proofs.writer.check.Goals as goal

pub returns-in_err-s : goal.returns-in_err-s
returns-in_err-s c = let a = c.args in
    let e = c.in_err-s.field-0.0 in
    let out = err_from_is_err_and c.from_residual.result c.from_residual.ensures.1 in
    rw (out.1, out.2) (number_positive e, setting_refused a.form a.modulus a.basis.now a.shift a.word.now a.proof.now a.out (number e) (number_positive e) c.in_err-s.ensures.1)

-- past checks 1 to 5
module _ (c : goal.In_ok-s) where
  abbrev start : goal.Start
  start = (goal.at.In_ok-s c).Start

  abbrev g : Form
  g = start.args.form

  abbrev m : ℕ
  m = start.args.modulus

  abbrev bs : List ℕ
  bs = start.args.basis.now

  abbrev σ : ℕ
  σ = start.args.shift

  abbrev w : List ℕ
  w = start.args.word.now

  abbrev π : List ℕ
  π = start.args.proof.now

  abbrev out : ℕ
  out = start.args.out

  found : Ready m bs c.in_ok-s.s
  found = ready m bs σ c.in_ok-s.s c.in_ok-s.ensures

  -- check 6, of the modulus that was lent
  measured : (n : ℕ) → Answers (length_checks g (degree c.in_ok-s.s.field.modulus) (length bs) (length w) (length π) out) n → Answers (length_checks g (degree m) (length bs) (length w) (length π) out) n
  measured n = subst (λ (q : ℕ). Answers (length_checks g (degree q) (length bs) (length w) (length π) out) n) found.modulus

  -- and check 9
  ranged : (n : ℕ) → Answers (range_checks c.in_ok-s.s.field.modulus w π) n → Answers (range_checks m w π) n
  ranged n = subst (λ (q : ℕ). Answers (range_checks q w π) n) found.modulus

pub check_lengths-requires : goal.check_lengths-requires
check_lengths-requires c = let s = (goal.at.check_lengths-requires c).In_ok-s in ((found s).sized, (found s).sound.high)

pub returns-in_err-check_lengths : goal.returns-in_err-check_lengths
returns-in_err-check_lengths c = let s = (goal.at.returns-in_err-check_lengths c).In_ok-s in
    let e = c.in_err-check_lengths.field-0.0 in
    let r = err_from_is_err_and c.from_residual-in_err-check_lengths.result c.from_residual-in_err-check_lengths.ensures.1 in
    rw (r.1, r.2) (
      number_positive e,
      length_refused (g s) (m s) (bs s) (σ s) (w s) (π s) (out s) s.in_ok-s.ensures.0 (number e) (number_positive e) (measured s (number e) c.in_err-check_lengths.ensures),
    )

pub check_range-requires : goal.check_range-requires
check_range-requires c = (found (goal.at.check_range-requires c).In_ok-s).sized

-- past check 6
module _ (c : goal.In_ok-check_lengths) where
  abbrev here : goal.In_ok-s
  here = (goal.at.In_ok-check_lengths c).In_ok-s

  last : (n : ℕ) → Answers (range_checks here.in_ok-s.s.field.modulus (w here) (π here)) n → Answers (writer_checks (g here) (m here) (bs here) (σ here) (w here) (π here) (out here)) n
  last n a =
      range_answer (g here) (m here) (bs here) (σ here) (w here) (π here) (out here) here.in_ok-s.ensures.0
      (measured here 0 c.in_ok-check_lengths.ensures) n (ranged here n a)

pub returns-in_err-check_range : goal.returns-in_err-check_range
returns-in_err-check_range c = let l = (goal.at.returns-in_err-check_range c).In_ok-check_lengths in
    let e = c.in_err-check_range.field-0.0 in
    let r = err_from_is_err_and c.from_residual-in_err-check_range.result c.from_residual-in_err-check_range.ensures.1 in
    rw (r.1, r.2) (number_positive e, last l (number e) c.in_err-check_range.ensures)

pub returns : goal.returns
returns c = let l = (goal.at.returns c).In_ok-check_lengths in
    let f = found (here l) in (
      last l 0 c.in_ok-check_range.ensures,
      record {
        modulus = f.modulus;
        sized = f.sized;
        low = omega (arith, f.sized.right, ap degree f.modulus, (degree_range (m (here l)) f.sound.modulus).0);
      },
    )
