-- `evaluation::write_lanes` meets its contract. Assumes nothing.
--
-- ---- the lengths
use mathlib.Core.Path.{◌≡◌, sym, ap, subst, ◌∙◌}
use mathlib.Core.List.{List, ◌++◌}
use Prim.Native.Nat.{ℕ, ◌-◌, ◌*◌, ◌^◌, ◌≤◌, ◌<◌}
use native.Mathlib.Omega.{arith}
use lib.ListN.{length, take, drop}
use lib.Pow.{pow_mono}
use lib.Seq.{length-take-le, take_at}
use Rattle.lists.specs.All.{Below, All-take, All-drop}
use Rattle.lists.specs.Stretch.{stretch}
use Rattle.field.specs.Binary.{degree}
use Rattle.space.specs.Sizes.{max_dim, max_coefficients}
use Rattle.transform.specs.Blocks.{block}
use Rattle.transform.proofs.BlockLaws.{eight}
use Rattle.novel.specs.Settings.{stepped}
use Rattle.evaluation.specs.Words.{LanesOf}
use Rattle.evaluation.proofs.WordLaws.{blocks_written}
use Rattle.evaluation.proofs.write_lanes.Goals.{Start, After-novel_of, After-taken-d, After-fill_lanes}
use Rattle.evaluation.proofs.write_lanes.Goals as goal

module _ (c : goal.Start) where
  abbrev k : ℕ
  k = c.args.s.space.k

  abbrev q : ℕ
  q = c.args.s.field.modulus

  abbrev p : List ℕ
  p = c.args.coefficients.now

  abbrev size : ℕ
  size = length p

  size_is : size ≡ 2 ^ (k - 3)
  size_is = c.requires.1.eighth

  whole : 8 * size ≡ 2 ^ k
  whole = omega (arith, size_is, eight k c.requires.0.low)

  few : size ≤ max_coefficients
  few = omega (arith, size_is, pow_mono {i = k - 3} {j = max_dim - 3} (omega (arith, c.requires.0.high)))

  room : 8 * size ≤ length c.args.scratch.now
  room = omega (arith, whole, c.requires.1.room)

-- ---- once the scratch holds the coefficients over the novel basis
module _ (c : goal.After-novel_of) where
  abbrev start : goal.Start
  start = (goal.at.After-novel_of c).Start

  abbrev work : List ℕ
  work = c.novel_of.new.work

  long : 8 * size start ≤ length work
  long = omega (arith, c.novel_of.auto.work, room start)

-- ---- once they are taken
module _ (c : goal.After-taken-d) where
  abbrev at : goal.After-novel_of
  at = (goal.at.After-taken-d c).After-novel_of

  abbrev d : List ℕ
  d = take (size (start at)) c.taken-d.result

  length_d : length d ≡ size (start at)
  length_d = length-take-le (size (start at)) c.taken-d.result (omega (arith, c.taken-d.ensures.count, few (start at)))

  d-is : d ≡ stretch (2 ^ (k (start at) - 3)) (2 ^ (k (start at) - 3)) (work at)
  d-is = c.taken-d.ensures.right ∙ ap (λ (i : ℕ). stretch i i (work at)) (size_is (start at))

  d-below : Below (2 ^ degree (q (start at))) d
  unfolding stretch
  d-below =
      subst (Below (2 ^ degree (q (start at)))) (sym c.taken-d.ensures.right)
      (All-take (λ (x : ℕ). x < 2 ^ degree (q (start at))) (size (start at)) (drop (size (start at)) (work at))
      (All-drop (λ (x : ℕ). x < 2 ^ degree (q (start at))) (size (start at)) (work at) at.novel_of.ensures.below))

-- ---- once the lanes are filled
module _ (c : goal.After-fill_lanes) where
  abbrev took : goal.After-taken-d
  took = (goal.at.After-fill_lanes c).After-taken-d

  abbrev lanes : List ℕ
  lanes = c.fill_lanes.new.lanes

  abbrev rest : List ℕ
  rest = drop (8 * size (start (at took))) (work (at took))

  length-lanes : length lanes ≡ 8 * size (start (at took))
  length-lanes = c.fill_lanes.auto.lanes ∙ length-take-le (8 * size (start (at took))) (work (at took)) (long (at took))

  front : take (2 ^ k (start (at took))) (lanes ++ rest) ≡ lanes
  front = take_at lanes rest (2 ^ k (start (at took))) (length-lanes ∙ whole (start (at took)))

pub overflow_mul-n : goal.overflow_mul-n
overflow_mul-n c = omega (arith, few (goal.at.overflow_mul-n c).Start)

pub novel_of-requires : goal.novel_of-requires
novel_of-requires c = let s = (goal.at.novel_of-requires c).Start in
    (stepped s.requires.0 (k s - 3) (omega arith), s.requires.2, size_is s, omega (arith, room s, size_is s))

pub taken-d-requires : goal.taken-d-requires
taken-d-requires c = let a = (goal.at.taken-d-requires c).After-novel_of in (omega (arith, long a), few (start a))

pub slice_bounds-d-end : goal.slice_bounds-d-end
slice_bounds-d-end c = omega (arith, few (start (at (goal.at.slice_bounds-d-end c).After-taken-d)), c.taken-d.ensures.count)

pub slice_bounds-fill_lanes-end : goal.slice_bounds-fill_lanes-end
slice_bounds-fill_lanes-end c = sym (length_d (goal.at.slice_bounds-fill_lanes-end c).After-taken-d)

pub slice_bounds-fill_lanes-end-2 : goal.slice_bounds-fill_lanes-end-2
slice_bounds-fill_lanes-end-2 c = omega (arith, long (at (goal.at.slice_bounds-fill_lanes-end-2 c).After-taken-d))

pub slice_bounds-fill_lanes-end-3 : goal.slice_bounds-fill_lanes-end-3
slice_bounds-fill_lanes-end-3 c = let a = at (goal.at.slice_bounds-fill_lanes-end-3 c).After-taken-d in
    sym (length-take-le (8 * size (start a)) (work a) (long a))

pub fill_lanes-requires : goal.fill_lanes-requires
fill_lanes-requires c = let t = (goal.at.fill_lanes-requires c).After-taken-d in
    let a = at t in
    let s = start a in
    let u = s.requires.0 in (
      record {
        sized = u.sized;
        irreducible = u.irreducible;
        low = u.low;
        high = u.high;
        image-symbols = u.images;
        symbols = d-below t;
        count = length_d t ∙ size_is s;
      },
      length-take-le (8 * size s) (work a) (long a) ∙ whole s,
    )

pub returns : goal.returns
returns c bs r i h = let here = (goal.at.returns c).After-fill_lanes in
    let t = took here in
    let s = start (at t) in
    ap (block (k s) i) (front here)
    ∙ blocks_written r (p s) (work (at t)) (lanes here) (at t).novel_of.ensures
    (subst (λ (l : List ℕ). LanesOf (q s) s.args.s.space.images (k s) l (lanes here)) (d-is t) here.fill_lanes.ensures) i h
