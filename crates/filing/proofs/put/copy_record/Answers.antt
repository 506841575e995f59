use mathlib.Core.Path.{refl, sym, subst}
use mathlib.Core.List.{List, ◌∷◌}
use Prim.Native.Nat.{ℕ}
use native.Mathlib.Omega.{arith}
use lib.ListN.{length}
use Rattle.stored.specs.Packed.{length_numbers}
use Rattle.stored.specs.Bytes.{four_bytes, packed, numbers_at}
use Rattle.stored.specs.File.{symbol_record}
use Rattle.filing.specs.Put.{Put, put_then}
use Rattle.filing.proofs.put.copy_record.Goals.{Start, After-put_head, After-copy_numbers}
use Rattle.filing.proofs.put.copy_record.Goals as goal

pub put_head-requires : goal.put_head-requires
put_head-requires c = let s = (goal.at.put_head-requires c).Start in omega (arith, s.requires.2)

-- mark and count
module _ (c : goal.After-put_head) where
  abbrev start : goal.Start
  start = (goal.at.After-put_head c).Start

  abbrev xs : List ℕ
  xs = numbers_at start.args.narrow start.args.file.now start.args.from start.args.count

  head : Put start.args.at (start.args.first ∷ start.args.second ∷ four_bytes (length xs)) start.args.out.now c.put_head.new.out
  head =
      subst (λ (n : ℕ). Put start.args.at (start.args.first ∷ start.args.second ∷ four_bytes n) start.args.out.now c.put_head.new.out)
      (sym (length_numbers start.args.narrow start.args.file.now start.args.from start.args.count)) c.put_head.ensures

pub overflow_add-at : goal.overflow_add-at
overflow_add-at c = let t = (goal.at.overflow_add-at c).After-put_head in omega (arith, (start t).requires.2, (start t).well_formed)

pub copy_numbers-requires : goal.copy_numbers-requires
copy_numbers-requires c = let t = (goal.at.copy_numbers-requires c).After-put_head in ((start t).requires.1, omega (arith, (head t).kept, (start t).requires.2), (start t).requires.3)

module _ (c : goal.After-copy_numbers) where
  abbrev here : goal.After-put_head
  here = (goal.at.After-copy_numbers c).After-put_head

  whole : Put (start here).args.at (symbol_record (start here).args.target (start here).args.first (start here).args.second (xs here)) (start here).args.out.now c.copy_numbers.new.out
  whole =
      put_then {xs = (start here).args.first ∷ (start here).args.second ∷ four_bytes (length (xs here))} {ys = packed (start here).args.target (xs here)} refl (head here) c.copy_numbers.ensures

pub shape_of-out : goal.shape_of-out
shape_of-out c = (whole (goal.at.shape_of-out c).After-copy_numbers).kept

pub returns : goal.returns
returns c = whole (goal.at.returns c).After-copy_numbers
