use mathlib.Core.Path.{◌≡◌, sym, ap, subst, ◌∙◌}
use mathlib.Core.List.{List}
use Prim.Native.Nat.{ℕ, ◌+◌, ◌-◌, ◌*◌, ◌^◌, ◌≤◌, ◌<◌}
use native.Mathlib.Omega.{arith}
use lib.ListN.{length, take, drop}
use Rattle.lists.specs.All.{Below, All-take, All-drop}
use Rattle.lists.specs.Lanes.{lane}
use Rattle.lists.specs.Overwrite.{copy-whole}
use Rattle.lists.specs.Stretch.{stretch, length_stretch}
use Rattle.field.specs.Binary.{degree}
use Rattle.transform.proofs.BlockLaws.{eight}
use Rattle.novel.proofs.Loading.{part-stretch}
use Rattle.novel.specs.Settings.{stepped, stepped_inverses}
use Rattle.codec.proofs.WordLaws.{read}
use Rattle.codec.proofs.decoder.read_coefficients.Goals.{Start, After-from_lane, After-powers_of}
use Rattle.codec.proofs.decoder.read_coefficients.Goals as goal

-- ---- the lengths
module _ (c : goal.Start) where
  abbrev k : ℕ
  k = c.args.s.space.k

  abbrev size : ℕ
  size = length c.args.coefficients.now

  abbrev scratch : List ℕ
  scratch = c.args.scratch.now

  size_is : size ≡ 2 ^ (k - 3)
  size_is = c.requires.1

  room : size * 8 ≤ length scratch
  room = omega (arith, eight k c.requires.0.low, size_is, c.requires.2)

-- ---- once the coefficients of block 0 are read
module _ (c : goal.After-from_lane) where
  abbrev start : goal.Start
  start = (goal.at.After-from_lane c).Start

  abbrev q : ℕ
  q = start.args.s.field.modulus

  abbrev d : List ℕ
  d = c.from_lane.new.to

  d-is : d ≡ lane 8 0 (2 ^ (k start - 3)) (scratch start)
  d-is = c.from_lane.ensures ∙ ap (λ (i : ℕ). lane 8 0 i (scratch start)) (size_is start)

  length_d : length d ≡ size start
  length_d = c.from_lane.auto.to

-- ---- once they are changed
module _ (c : goal.After-powers_of) where
  abbrev at : goal.After-from_lane
  at = (goal.at.After-powers_of c).After-from_lane

  abbrev work : List ℕ
  work = c.powers_of.new.work

  length-work : length work ≡ length (scratch (start at))
  length-work = c.powers_of.auto.work

  fits : size (start at) + size (start at) ≤ length work
  fits = omega (arith, length-work, room (start at))

  abbrev src : List ℕ
  src = take (size (start at) + size (start at) - size (start at)) (drop (size (start at)) work)

  src-is : src ≡ stretch (2 ^ (k (start at) - 3)) (2 ^ (k (start at) - 3)) work
  src-is = part-stretch (size (start at)) (2 ^ (k (start at) - 3)) work (size_is (start at)) fits

  length-src : length src ≡ 2 ^ (k (start at) - 3)
  length-src = ap length src-is ∙ length_stretch (2 ^ (k (start at) - 3)) (2 ^ (k (start at) - 3)) work (omega (arith, fits, size_is (start at)))

  src_below : Below (2 ^ degree (q at)) src
  src_below =
      All-take (λ (x : ℕ). x < 2 ^ degree (q at)) (size (start at) + size (start at) - size (start at)) (drop (size (start at)) work)
      (All-drop (λ (x : ℕ). x < 2 ^ degree (q at)) (size (start at)) work c.powers_of.ensures.below)

pub from_lane-requires : goal.from_lane-requires
from_lane-requires c = (omega arith, omega (arith, room (goal.at.from_lane-requires c).Start))

pub powers_of-requires : goal.powers_of-requires
powers_of-requires c = let at = (goal.at.powers_of-requires c).After-from_lane in
    let begin = start at in record {
      stepped = (stepped begin.requires.0 (k begin - 3) (omega arith), stepped_inverses begin.requires.0 (k begin - 3) (omega arith));
      below = (
        subst (Below (2 ^ degree (q at))) (sym (d-is at)) begin.requires.3,
        length_d at ∙ size_is begin,
        omega (arith, room begin, size_is begin),
      );
    }

pub slice_bounds-copy-end : goal.slice_bounds-copy-end
slice_bounds-copy-end c = fits (goal.at.slice_bounds-copy-end c).After-powers_of

pub returns : goal.returns
returns c = let here = (goal.at.returns c).After-powers_of in
    let begin = start (at here) in
    let same = c.copy.ensures ∙ copy-whole (src here) (d (at here)) (length-src here ∙ sym (length_d (at here) ∙ size_is begin)) in
    let below = subst (Below (2 ^ degree (q (at here)))) (sym same) (src_below here) in (
      below,
      λ bs r word z. read r word (d (at here)) (scratch begin) _ z (d-is (at here)) (work here) here.powers_of.ensures (same ∙ src-is here) (ap length same ∙ length-src here) below,
    )
