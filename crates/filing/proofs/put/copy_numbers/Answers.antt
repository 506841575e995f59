use mathlib.Core.Path.{◌≡◌, sym, ◌∙◌, subst}
use mathlib.Core.List.{List, [], ◌∷◌}
use Prim.Native.Nat.{ℕ, ◌+◌, ◌<◌}
use native.Mathlib.Omega.{arith}
use lib.ListN.{length, get_or}
use Rattle.lists.specs.All.{All-inside}
use Rattle.stored.specs.Bytes.{packed, packed_size, numbers_at}
use Rattle.stored.specs.Packed.{number_top, size-more, length_numbers, get_or_numbers}
use Rattle.filing.specs.Put.{Put, put_next, put_all}
use Rattle.filing.proofs.put.copy_numbers.Goals.{Start, At-loop-i, In-loop-i, After-number_at-x, After-put_number}
use Rattle.filing.proofs.put.copy_numbers.Goals as goal

-- number i
module _ (c : goal.In-loop-i) where
  abbrev head : goal.At-loop-i
  head = (goal.at.In-loop-i c).At-loop-i

  abbrev start : goal.Start
  start = (goal.at.In-loop-i c).Start

  abbrev i : ℕ
  i = head.loop-i.i

  less : i < start.args.count
  less = omega arith

  abbrev xs : List ℕ
  xs = numbers_at start.args.narrow start.args.file.now start.args.from start.args.count

  inside : i < length xs
  inside = omega (arith, less, length_numbers start.args.narrow start.args.file.now start.args.from start.args.count)

-- the number that was read
module _ (c : goal.After-number_at-x) where
  abbrev here : goal.In-loop-i
  here = (goal.at.After-number_at-x c).In-loop-i

  read : get_or (xs here) (i here) 0 ≡ c.number_at-x.result
  read =
      get_or_numbers (start here).args.narrow (start here).args.file.now (start here).args.from (start here).args.count (i here) (less here)
      ∙ sym c.number_at-x.ensures

pub put_number-requires : goal.put_number-requires
put_number-requires c = let s = (goal.at.put_number-requires c).After-number_at-x in
    let l = here s in
    let a = start l in (
      omega (arith, size-more a.args.target (less l), a.requires.1, (head l).loop-i.invariant.kept),
      subst (λ (x : ℕ). x < number_top a.args.target) (read s) (All-inside (λ (x : ℕ). x < number_top a.args.target) (xs l) 0 a.requires.2 (i l) (inside l)),
    )

pub loop-i-preserved : goal.loop-i-preserved
loop-i-preserved c = let p = (goal.at.loop-i-preserved c).After-put_number in
    let s = (goal.at.After-put_number p).After-number_at-x in
    let l = here s in
    let h = head l in
    let a = (start l).args in
    let t = a.target in
    put_next t (xs l) (inside l) h.loop-i.invariant
    (subst (λ (x : ℕ). Put (a.at + packed_size t (i l)) (packed t (x ∷ [])) h.loop-i.out p.put_number.new.out) (sym (read s)) p.put_number.ensures)

pub returns : goal.returns
returns c = let h = (goal.at.returns c).At-loop-i in
    let a = h.args in
    put_all a.target {i = h.loop-i.i} (numbers_at a.narrow a.file.now a.from a.count) (omega (arith, length_numbers a.narrow a.file.now a.from a.count)) h.loop-i.invariant
