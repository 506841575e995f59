use mathlib.Core.Path.{refl}
use mathlib.Core.List.{List, [], ◌∷◌}
use Prim.Native.Nat.{ℕ, ◌+◌, ◌/◌}
use native.Mathlib.Omega.{arith}
use lib.ListN.{set, length-set}
use Rattle.stored.specs.Bytes.{two_bytes, four_bytes}
use Rattle.filing.specs.Put.{Put, put_both, put_then, put_same, low_half}
use Rattle.filing.proofs.put.put_head.Goals.{Start, After-put_two, After-put_two-2}
use Rattle.filing.proofs.put.put_head.Goals as goal

pub bounds-out-at-2 : goal.bounds-out-at-2
bounds-out-at-2 c = simp length-set (omega arith)

-- the mark
module _ (start : goal.Start) where
  abbrev old : List ℕ
  old = start.args.out.now

  abbrev marked : List ℕ
  marked = set (set old start.args.at start.args.first) (start.args.at + 1) start.args.second

  mark : Put start.args.at (start.args.first ∷ start.args.second ∷ []) old marked
  mark = put_both start.args.at start.args.first start.args.second old (omega (arith, start.requires))

pub put_two-requires : goal.put_two-requires
put_two-requires c = omega (arith, (mark (goal.at.put_two-requires c).Start).kept, (goal.at.put_two-requires c).Start.requires)

-- the lower half
module _ (c : goal.After-put_two) where
  abbrev first : goal.Start
  first = (goal.at.After-put_two c).Start

  abbrev x : ℕ
  x = first.args.x

  abbrev mid : List ℕ
  mid = c.put_two.new.out

  lower : Put first.args.at (first.args.first ∷ first.args.second ∷ two_bytes x) (old first) mid
  lower = put_then {xs = first.args.first ∷ first.args.second ∷ []} {ys = two_bytes x} refl (mark first) (put_same (low_half x) c.put_two.ensures)

pub put_two-requires-2 : goal.put_two-requires-2
put_two-requires-2 c = let t = (goal.at.put_two-requires-2 c).After-put_two in omega (arith, (lower t).kept, (first t).requires)

-- the upper half
module _ (c : goal.After-put_two-2) where
  abbrev low : goal.After-put_two
  low = (goal.at.After-put_two-2 c).After-put_two

  whole : Put (first low).args.at ((first low).args.first ∷ (first low).args.second ∷ four_bytes (x low)) (old (first low)) c.put_two-2.new.out
  whole =
      put_then {xs = (first low).args.first ∷ (first low).args.second ∷ two_bytes (x low)} {ys = two_bytes (x low / 65536)} refl (lower low) c.put_two-2.ensures

pub shape_of-out : goal.shape_of-out
shape_of-out c = (whole (goal.at.shape_of-out c).After-put_two-2).kept

pub returns : goal.returns
returns c = whole (goal.at.returns c).After-put_two-2
