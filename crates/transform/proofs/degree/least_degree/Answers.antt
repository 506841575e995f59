use mathlib.Core.Path.{◌≡◌, sym, ap, ◌∙◌, subst}
use mathlib.Core.List.{List, ◌++◌}
use Prim.Native.Nat.{ℕ, ◌*◌, ◌/◌, ◌%◌, ◌^◌, ◌≤◌}
use native.Mathlib.Omega.{arith}
use lib.ListN.{length, take, drop}
use lib.Seq.{take_at, length-take-le, length_front}
use Rattle.lists.specs.Decides.{Decides}
use Rattle.transform.specs.Blocks.{InBlocks, BlocksInterpolated, EqualLanes}
use Rattle.transform.specs.Degree.{Highest}
use Rattle.transform.proofs.Layers.{power}
use Rattle.transform.proofs.DegreeLaws.{told-within, work_blocks, told-above}
use Rattle.transform.proofs.degree.least_degree.Goals.{Start, After-interpolate_blocks, After-equal_lanes, Else-equal_lanes}
use Rattle.transform.proofs.degree.least_degree.Goals as goal

-- the front of the array
module _ (c : goal.Start) where
  abbrev n : ℕ
  n = (1 * 2 ^ c.args.k) % 18446744073709551616

  size : n ≡ 2 ^ c.args.k
  size = power c.args.k (omega (arith, c.requires.1))

  fits : n ≤ length c.args.symbols
  fits = omega (arith, size, lib.ListN.length-take (2 ^ c.args.k) c.args.symbols, c.requires.0.long)

  length-front-part : length (take n c.args.symbols) ≡ n
  length-front-part = length-take-le n c.args.symbols fits

pub slice_bounds-work-end : goal.slice_bounds-work-end
slice_bounds-work-end c = fits c

pub slice_bounds-interpolate_blocks-end : goal.slice_bounds-interpolate_blocks-end
slice_bounds-interpolate_blocks-end c = sym (length-front-part (goal.at.slice_bounds-interpolate_blocks-end c).Start)

pub interpolate_blocks-requires : goal.interpolate_blocks-requires
interpolate_blocks-requires c = let a = c.args in
    subst (λ (n : ℕ). InBlocks a.f a.images.now a.k (take n a.symbols)) (sym (size (goal.at.interpolate_blocks-requires c).Start)) c.requires.0

-- the array after the transform
module _ (c : goal.After-interpolate_blocks) where
  abbrev start : goal.Start
  start = (goal.at.After-interpolate_blocks c).Start

  abbrev new : List ℕ
  new = c.interpolate_blocks.new.values

  abbrev work : List ℕ
  work = new ++ drop (n start) start.args.symbols

  length_new : length new ≡ n start
  length_new = c.interpolate_blocks.ensures.kept ∙ length-front-part start

  length-work : length work ≡ length start.args.symbols
  length-work = length_front start.args.symbols new (n start) c.interpolate_blocks.ensures.kept

  front-is : take (n start) work ≡ new
  front-is = take_at new (drop (n start) start.args.symbols) (n start) length_new

  front-whole : take (2 ^ start.args.k) work ≡ new
  front-whole = ap (λ (m : ℕ). take m work) (sym (size start)) ∙ front-is

  made : BlocksInterpolated start.args.f.modulus start.args.images.now start.args.k (take (2 ^ start.args.k) start.args.symbols) new
  made =
      subst (λ (m : ℕ). BlocksInterpolated start.args.f.modulus start.args.images.now start.args.k (take m start.args.symbols) new) (size start) c.interpolate_blocks.ensures

pub slice_bounds-work-end-2 : goal.slice_bounds-work-end-2
slice_bounds-work-end-2 c = let here = (goal.at.slice_bounds-work-end-2 c).After-interpolate_blocks in omega (arith, length-work here, fits (start here))

pub slice_bounds-equal_lanes-end : goal.slice_bounds-equal_lanes-end
slice_bounds-equal_lanes-end c = let here = (goal.at.slice_bounds-equal_lanes-end c).After-interpolate_blocks in
    sym (ap length (front-is here) ∙ length_new here)

-- the test
module _ (c : goal.After-equal_lanes) where
  abbrev here : goal.After-interpolate_blocks
  here = (goal.at.After-equal_lanes c).After-interpolate_blocks

  test : Decides c.equal_lanes.result (EqualLanes (length (new here) / 8) (new here))
  test = subst (λ (l : List ℕ). Decides c.equal_lanes.result (EqualLanes (length l / 8) l)) (front-is here) c.equal_lanes.ensures

pub returns-then-equal_lanes : goal.returns-then-equal_lanes
returns-then-equal_lanes c = let t = (goal.at.returns-then-equal_lanes c).After-equal_lanes in
    let s = start (here t) in
    let a = s.args in
    told-within a.f a.images.now a.k a.symbols s.requires.0 (new (here t)) (made (here t)) t.equal_lanes.result (test t) c.if-equal_lanes.true

pub join_blocks-coefficients-requires : goal.join_blocks-coefficients-requires
join_blocks-coefficients-requires c = let t = (goal.at.join_blocks-coefficients-requires c).After-equal_lanes in
    let s = start (here t) in
    let a = s.args in (
      work_blocks a.f a.images.now a.k a.symbols s.requires.0 (new (here t)) (made (here t)) t.equal_lanes.result (test t) (work (here t)) (front-whole (here t)),
      s.requires.1,
      length-work (here t) ∙ s.requires.2,
      s.requires.3,
    )

pub slice_bounds-coefficients-end : goal.slice_bounds-coefficients-end
slice_bounds-coefficients-end c = let s = start (here (goal.at.slice_bounds-coefficients-end c).After-equal_lanes) in
    omega (arith, c.join_blocks-coefficients.ensures.0, fits s, s.requires.2)

pub slice_bounds-highest-end : goal.slice_bounds-highest-end
slice_bounds-highest-end c = let s = start (here (goal.at.slice_bounds-highest-end c).After-equal_lanes) in
    sym (length-take-le (n s) c.join_blocks-coefficients.result (omega (arith, c.join_blocks-coefficients.ensures.0, fits s, s.requires.2)))

pub returns : goal.returns
returns c = let e = (goal.at.returns c).Else-equal_lanes in
    let t = (goal.at.Else-equal_lanes e).After-equal_lanes in
    let s = start (here t) in
    let a = s.args in
    let ys = c.join_blocks-coefficients.result in
    told-above a.f a.images.now a.k a.symbols s.requires.0 (new (here t)) (made (here t)) t.equal_lanes.result (test t) (work (here t)) (front-whole (here t)) e.if-equal_lanes.false ys
    c.join_blocks-coefficients.ensures c.highest.result
    (subst (λ (m : ℕ). Highest (take m ys) c.highest.result) (size s) c.highest.ensures)
