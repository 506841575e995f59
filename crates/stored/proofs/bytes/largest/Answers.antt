use mathlib.Core.Path.{◌≡◌, sym, ◌∙◌}
use mathlib.Core.Logic.{inl, inr}
use mathlib.Core.Bool.{Bool}
use mathlib.Core.List.{List}
use Prim.Native.Nat.{ℕ}
use native.Mathlib.Omega.{arith}
use lib.ListN.{length, get_or, drop_of_length-le}
use Rattle.field.specs.Ranges.{largest_next}
use Rattle.stored.specs.Bytes.{numbers_at}
use Rattle.stored.specs.Packed.{length_numbers, get_or_numbers}
use Rattle.stored.proofs.bytes.largest.Goals.{At-loop-i, After-number_at-x, then-top-x, else-top-x}
use Rattle.stored.proofs.bytes.largest.Goals as goal

-- number i of the stretch
module _ (c : goal.After-number_at-x) where
  abbrev head : goal.At-loop-i
  head = (goal.at.After-number_at-x c).At-loop-i

  abbrev bytes : List ℕ
  bytes = head.args.file.now

  abbrev t : Bool
  t = head.args.narrow

  abbrev place : ℕ
  place = head.args.at

  abbrev count : ℕ
  count = head.args.count

  abbrev i : ℕ
  i = head.loop-i.i

  long : length (numbers_at t bytes place count) ≡ count
  long = length_numbers t bytes place count

  here : get_or (numbers_at t bytes place count) i 0 ≡ c.number_at-x.result
  here = get_or_numbers t bytes place count i (omega arith) ∙ sym c.number_at-x.ensures

pub loop-i-preserved : goal.loop-i-preserved
loop-i-preserved c = let p = (goal.at.loop-i-preserved c).After-number_at-x in
    let e = here p in
    let l = long p in
    largest_next (numbers_at (t p) (bytes p) (place p) (count p)) (i p) (head p).loop-i.top c.if-top-x.top (omega arith)
    (elim c.if-top-x.branch [ then-top-x w ↦ omega arith | else-top-x w ↦ omega arith ])
    (elim c.if-top-x.branch [ then-top-x w ↦ omega arith | else-top-x w ↦ omega arith ])
    (elim c.if-top-x.branch [ then-top-x w ↦ inr (omega arith) | else-top-x w ↦ inl (omega arith) ])
    (head p).loop-i.invariant

pub returns : goal.returns
returns c = let h = (goal.at.returns c).At-loop-i in
    let a = h.args in
    let xs = numbers_at a.narrow a.file.now a.at a.count in
    let l : length xs ≡ a.count = length_numbers a.narrow a.file.now a.at a.count in
    λ n p. let w = h.loop-i.invariant n p in
    (λ q. w.0 (q, rw (drop_of_length-le xs {i = h.loop-i.i} (omega arith)) tt), λ b. (w.1 b).0)
