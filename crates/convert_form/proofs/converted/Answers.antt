-- `convert_form::converted` is safe and ends.
use mathlib.Core.Path.{◌≡◌, sym}
use mathlib.Core.List.{List, ◌++◌}
use Prim.Native.Nat.{ℕ, ◌≤◌}
use native.Mathlib.Omega.{arith}
use lib.ListN.{length, take, drop, length-append}
use lib.Seq.{length-take-le}
use Rattle.filing.specs.ConvertLaws.{converted-short, shift_passed}
use Rattle.convert_form.proofs.converted.Goals.{After-room-out, After-convert}
use Rattle.convert_form.proofs.converted.Goals as goal

-- the other form is within the limit
module _ (c : goal.After-room-out) where
  abbrev n : ℕ
  n = c.in_ok-n.n

  abbrev zeros : List ℕ
  zeros = c.room-out.result

  fits : n ≤ length zeros
  fits =
      let f = c.args.file.now in
      let t = c.in_ok-n.ensures in
      omega (arith, t.1, converted-short f (shift_passed f t.0).0 c.requires, c.room-out.ensures)

pub slice_bounds-out-end : goal.slice_bounds-out-end
slice_bounds-out-end c = fits (goal.at.slice_bounds-out-end c).After-room-out

pub slice_bounds-convert-end : goal.slice_bounds-convert-end
slice_bounds-convert-end c = let r = (goal.at.slice_bounds-convert-end c).After-room-out in sym (length-take-le (n r) (zeros r) (fits r))

-- the array is as long as before
module _ (c : goal.After-convert) where
  abbrev given : goal.After-room-out
  given = (goal.at.After-convert c).After-room-out

  abbrev new : List ℕ
  new = c.convert.new.out

  whole : n given ≤ length (new ++ drop (n given) (zeros given))
  whole =
      let p : length (take (n given) (zeros given)) ≡ n given = length-take-le (n given) (zeros given) (fits given) in
      omega (arith, c.convert.auto.out, p, length-append new (drop (n given) (zeros given)))

pub slice_bounds-out-end-2 : goal.slice_bounds-out-end-2
slice_bounds-out-end-2 c = whole (goal.at.slice_bounds-out-end-2 c).After-convert

pub slice_bounds-written-end : goal.slice_bounds-written-end
slice_bounds-written-end c = sym (length-take-le _ _ (whole (goal.at.slice_bounds-written-end c).After-convert))
