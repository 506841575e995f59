use mathlib.Core.Path.{◌≡◌, sym, ap, ◌∙◌, subst}
use mathlib.Core.List.{List, ◌++◌}
use Prim.Native.Nat.{ℕ, ◌-◌, ◌*◌, ◌%◌, ◌^◌}
use native.Mathlib.Omega.{arith}
use lib.ListN.{length, take, drop, length-append, length-drop}
use lib.Seq.{take_all, length-take-le}
use Rattle.rows.specs.Rows.{Coefficients, Stored}
use Rattle.rows.proofs.Passes.{power, stored_next}
use Rattle.rows.proofs.fill_rows.Goals.{Start, After-last_lanes-last, At-loop-j, After-evaluate_rows, After-store_rows}
use Rattle.rows.proofs.fill_rows.Goals as goal

-- what is lent of work
module _ (s : goal.Start) where
  abbrev n : ℕ
  n = 1 * 2 ^ s.args.k % 18446744073709551616

  n-is : n ≡ 2 ^ s.args.k
  n-is = power s.args.k s.requires.in_table.0.high

  length_front : length (take n s.args.work.now) ≡ n
  length_front = length-take-le n s.args.work.now (omega (arith, n-is, s.requires.k_in_bounds.1))

-- work once the coefficients stand in it
module _ (c : goal.After-last_lanes-last) where
  abbrev at-start : goal.Start
  at-start = (goal.at.After-last_lanes-last c).Start

  abbrev front : List ℕ
  front = c.interpolate_rows.new.work

  length_new : length front ≡ n at-start
  length_new = c.interpolate_rows.auto.work ∙ length_front at-start

  abbrev begun : List ℕ
  begun = front ++ drop (n at-start) at-start.args.work.now

  length-begun : length begun ≡ length at-start.args.work.now
  length-begun =
      length-append front (drop (n at-start) at-start.args.work.now)
      ∙ omega (arith, length_new, length-drop (n at-start) at-start.args.work.now, n-is at-start, at-start.requires.k_in_bounds.1)

-- in the loop
module _ (c : goal.At-loop-j) where
  abbrev begin : goal.Start
  begin = (goal.at.At-loop-j c).Start

-- after the pass
module _ (c : goal.After-evaluate_rows) where
  abbrev head : goal.At-loop-j
  head = (goal.at.After-evaluate_rows c).At-loop-j

  abbrev work : List ℕ
  work = c.evaluate_rows.new.work

  length_next : length work ≡ length head.loop-j.work
  length_next = c.evaluate_rows.auto.work

  abbrev m : ℕ
  m = n (begin head)

  rest-is : take (length work - m) (drop m work) ≡ drop (2 ^ (begin head).args.k) work
  rest-is =
      take_all (length work - m) (drop m work) (omega (arith, length-drop m work)) ∙ ap (λ (x : ℕ). drop x work) (n-is (begin head))

pub loop-j-preserved : goal.loop-j-preserved
loop-j-preserved c = let store = (goal.at.loop-j-preserved c).After-store_rows in
    let pass = (goal.at.After-store_rows store).After-evaluate_rows in
    let h = head pass in
    let l = h.loop-j in
    let s = begin h in
    let a = s.args in (
      length_next pass ∙ l.invariant.0,
      subst (Coefficients a.f.modulus a.k a.images.now a.word.now) (sym pass.evaluate_rows.ensures.first) l.invariant.1,
      stored_next a.f.modulus a.k l.j a.images.now a.word.now l.work (work pass) _ l.proof _ (omega arith) l.invariant.1 pass.evaluate_rows.ensures (rest-is pass) store.store_rows.ensures l.invariant.2,
    )

pub shape_of-work : goal.shape_of-work
shape_of-work c = c.loop-j.invariant.0 ∙ length-begun (goal.at.shape_of-work c).After-last_lanes-last

pub returns : goal.returns
returns c = let l = c.loop-j in
    let a = (begin (goal.at.returns c).At-loop-j).args in
    let last : l.j ≡ 8 = omega arith in
    subst (λ (j : ℕ). Stored a.f.modulus a.k a.images.now a.word.now j l.proof) last l.invariant.2
