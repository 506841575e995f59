use mathlib.Core.Path.{◌≡◌, sym, subst, ◌∙◌}
use mathlib.Core.List.{List}
use Prim.Native.Nat.{ℕ, ◌*◌, ◌^◌, ◌≤◌}
use native.Mathlib.Omega.{arith}
use lib.ListN.{length, take}
use lib.Seq.{length-take-le}
use Rattle.transform.specs.Slices.{Transposed}
use Rattle.transform.proofs.BlockLaws.{eight}
use Rattle.evaluation.proofs.WordLaws.{lanes_transposed}
use Rattle.codec.proofs.encoder.write_word.Goals.{Start, After-write_lanes, After-transpose}
use Rattle.codec.proofs.encoder.write_word.Goals as goal

-- ---- once the scratch holds the lanes
module _ (c : goal.After-write_lanes) where
  abbrev start : goal.Start
  start = (goal.at.After-write_lanes c).Start

  abbrev k : ℕ
  k = start.args.s.space.k

  abbrev p : List ℕ
  p = start.args.coefficients.now

  abbrev word : List ℕ
  word = start.args.word.now

  abbrev scratch : List ℕ
  scratch = c.write_lanes.new.scratch

  room : length word ≤ length scratch
  room = omega (arith, c.write_lanes.auto.scratch, start.requires.1.whole, start.requires.1.room)

  length_front : length (take (length word) scratch) ≡ length word
  length_front = length-take-le (length word) scratch room

  n-is : length word ≡ length p * 8
  n-is = omega (arith, start.requires.1.whole, start.requires.1.eighth, eight k start.requires.0.low)

pub write_lanes-requires : goal.write_lanes-requires
write_lanes-requires c = let s = (goal.at.write_lanes-requires c).Start in
    (s.requires.0, record { eighth = s.requires.1.eighth; room = omega (arith, s.requires.1.room) }, s.requires.2)

pub slice_bounds-transpose-end : goal.slice_bounds-transpose-end
slice_bounds-transpose-end c = omega (arith, room (goal.at.slice_bounds-transpose-end c).After-write_lanes)

pub slice_bounds-transpose-end-2 : goal.slice_bounds-transpose-end-2
slice_bounds-transpose-end-2 c = sym (length_front (goal.at.slice_bounds-transpose-end-2 c).After-write_lanes)

pub transpose-requires : goal.transpose-requires
transpose-requires c = let here = (goal.at.transpose-requires c).After-write_lanes in
    (omega (arith, length_front here, n-is here), omega (arith, n-is here))

pub returns : goal.returns
returns c bs r = let t = (goal.at.returns c).After-transpose in
    let here = (goal.at.After-transpose t).After-write_lanes in
    let s = start here in
    let new : List ℕ = t.transpose.new.to in
    lanes_transposed r (p here) (scratch here) here.write_lanes.ensures (word here) new
    (subst (λ (i : ℕ). Transposed i 8 (take (2 ^ k here) (scratch here)) (word here) new) s.requires.1.eighth
    (subst (λ (i : ℕ). Transposed (length (p here)) 8 (take i (scratch here)) (word here) new) s.requires.1.whole t.transpose.ensures))
    (t.transpose.ensures.kept ∙ s.requires.1.whole)
