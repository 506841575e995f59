use mathlib.Core.Path.{refl}
use mathlib.Core.List.{List, ◌∷◌}
use Prim.Native.Nat.{ℕ}
use native.Mathlib.Omega.{arith}
use lib.ListN.{length}
use Rattle.stored.specs.Bytes.{four_bytes, packed}
use Rattle.stored.specs.File.{symbol_record}
use Rattle.filing.specs.Put.{Put, put_then}
use Rattle.filing.proofs.put.put_record.Goals.{Start, After-put_head, After-put_numbers}
use Rattle.filing.proofs.put.put_record.Goals as goal

pub put_head-requires : goal.put_head-requires
put_head-requires c = let s = (goal.at.put_head-requires c).Start in omega (arith, s.requires.1)

-- mark and count
module _ (c : goal.After-put_head) where
  abbrev start : goal.Start
  start = (goal.at.After-put_head c).Start

  abbrev xs : List ℕ
  xs = start.args.xs.now

  head : Put start.args.at (start.args.first ∷ start.args.second ∷ four_bytes (length xs)) start.args.out.now c.put_head.new.out
  head = c.put_head.ensures

pub put_numbers-requires : goal.put_numbers-requires
put_numbers-requires c = let t = (goal.at.put_numbers-requires c).After-put_head in (omega (arith, (head t).kept, (start t).requires.1), (start t).requires.2)

module _ (c : goal.After-put_numbers) where
  abbrev here : goal.After-put_head
  here = (goal.at.After-put_numbers c).After-put_head

  whole : Put (start here).args.at (symbol_record (start here).args.narrow (start here).args.first (start here).args.second (xs here)) (start here).args.out.now c.put_numbers.new.out
  whole =
      put_then {xs = (start here).args.first ∷ (start here).args.second ∷ four_bytes (length (xs here))} {ys = packed (start here).args.narrow (xs here)} refl (head here) c.put_numbers.ensures

pub shape_of-out : goal.shape_of-out
shape_of-out c = (whole (goal.at.shape_of-out c).After-put_numbers).kept

pub returns : goal.returns
returns c = whole (goal.at.returns c).After-put_numbers
