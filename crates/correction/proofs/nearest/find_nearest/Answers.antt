use mathlib.Core.Path.{◌≡◌, sym, ◌∙◌}
use mathlib.Core.List.{List}
use Prim.Native.Nat.{ℕ, ◌*◌, ◌/◌, ◌≤◌}
use native.Mathlib.Omega.{arith}
use lib.ListN.{length}
use lib.Pow.{pow_mono}
use lib.Seq.{length-take-le}
use Rattle.poly.specs.Blocks.{eighths}
use Rattle.space.specs.Usable.{usable}
use Rattle.space.specs.Sizes.{max_dim, max_coefficients, max_word}
use Rattle.space.specs.declared.Setting.{Setting}
use Rattle.correction.specs.Start.{InSetting}
use Rattle.correction.proofs.NearestLaws.{length_p, symbols-p, nearest_found, nearest_none}
use Rattle.correction.proofs.nearest.find_nearest.Goals as goal

-- the sizes of a word
module _ {s : Setting} {word : List ℕ} (g : InSetting s word) where
  largest : length word ≤ max_word
  largest = omega (arith, g.whole, pow_mono {i = s.space.k} {j = max_dim} (usable g.ready).high)

  small : length word / 8 ≤ max_coefficients
  small = omega (arith, largest)

  eights : length word ≡ 8 * (length word / 8)
  eights = omega (arith, g.whole, eighths s.space.k (usable g.ready).low)

pub taken-p-requires : goal.taken-p-requires
taken-p-requires c = let g = c.requires.0 in
    (omega (arith, c.candidate-at.ensures.fits, g.whole, eighths c.args.s.space.k (usable g.ready).low), small g)

pub slice_bounds-p-end : goal.slice_bounds-p-end
slice_bounds-p-end c = omega (arith, small c.requires.0, c.taken-p.ensures.count)

pub slice_bounds-write_lanes-end : goal.slice_bounds-write_lanes-end
slice_bounds-write_lanes-end c = sym (length-take-le (length c.args.word.now / 8) c.taken-p.result (omega (arith, c.taken-p.ensures.count, small c.requires.0)))

pub write_lanes-requires : goal.write_lanes-requires
write_lanes-requires c = let g = c.requires.0 in (
  usable g.ready,
  record {
    eighth = length_p g _ _ _ c.candidate-at.ensures _ c.taken-p.ensures;
    room = omega (arith, g.whole, c.candidate-at.ensures.kept, c.requires.1);
  },
  symbols-p g _ _ _ c.candidate-at.ensures _ c.taken-p.ensures,
)

pub differing-count-requires : goal.differing-count-requires
differing-count-requires c = let e = eights c.requires.0 in (
  e,
  length-take-le (length c.args.word.now) c.write_lanes.new.scratch (omega (arith, c.write_lanes.auto.scratch, c.candidate-at.ensures.kept, c.requires.1)) ∙ e,
)

pub radius-most-requires : goal.radius-most-requires
radius-most-requires c = largest c.requires.0

pub returns-then-most-count : goal.returns-then-most-count
returns-then-most-count c =
    nearest_none c.requires.0 _ _ _ c.candidate-at.ensures _ c.taken-p.ensures _ c.write_lanes.ensures _ c.differing-count.ensures
    (omega (arith, c.radius-most.ensures, c.if-most-count.true)) c.args.corrected.now

pub returns : goal.returns
returns c =
    nearest_found c.requires.0 _ _ _ c.candidate-at.ensures _ c.taken-p.ensures _ c.write_lanes.ensures _ c.differing-count.ensures
    (omega (arith, c.radius-most.ensures, c.if-most-count.false)) _ _ c.transpose.ensures c.requires.2
