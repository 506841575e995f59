use mathlib.Core.List.{List}
use Prim.Native.Nat.{ℕ, ◌+◌, ◌-◌, ◌*◌, ◌<◌, ◌≤◌}
use native.Mathlib.Omega.{arith}
use lib.ListN.{length}
use lib.Pow.{pow_mono}
use Rattle.space.specs.Sizes.{max_dim}
use Rattle.space.specs.Usable.{usable}
use Rattle.correction.specs.Near.{radius}
use Rattle.correction.proofs.FoundLaws.{at_most, lead-inside, lead_nonzero, lead_symbol, divides, found}
use Rattle.correction.proofs.candidate.candidate.Goals.{Start, After-prepare, After-reduce-r, After-inverse-v}
use Rattle.correction.proofs.candidate.candidate.Goals as goal

pub radius-t-requires : goal.radius-t-requires
radius-t-requires c = let s = (goal.at.radius-t-requires c).Start in
    omega (arith, s.requires.0.whole, pow_mono {i = s.args.s.space.k} {j = max_dim} (usable s.requires.0.ready).high)

pub overflow_sub-n : goal.overflow_sub-n
overflow_sub-n c = omega (arith, c.radius-t.ensures)

pub reduce-r-requires : goal.reduce-r-requires
reduce-r-requires c = let p = (goal.at.reduce-r-requires c).After-prepare in (p.prepare.ensures.held, omega arith)

-- ---- once the remainders are reduced
module _ (c : goal.After-reduce-r) where
  abbrev ready : goal.After-prepare
  ready = (goal.at.After-reduce-r c).After-prepare

  abbrev start : goal.Start
  start = (goal.at.After-reduce-r c).Start

  abbrev word : List ℕ
  word = start.args.word.now

  abbrev n : ℕ
  n = length word

  abbrev old : List ℕ
  old = start.args.scratch.now

  abbrev first : List ℕ
  first = ready.prepare.new.scratch

  abbrev work : List ℕ
  work = c.reduce-r.new.work

  abbrev a : ℕ
  a = c.reduce-r.result.a

  abbrev b : ℕ
  b = c.reduce-r.result.b

  abbrev at : ℕ
  at = c.reduce-r.result.at

  low : a ≤ n - radius n
  low = omega (arith, c.radius-t.ensures, c.reduce-r.ensures.1)

  high : n - radius n ≤ b
  high = omega (arith, c.radius-t.ensures, c.reduce-r.ensures.2)

  most : at ≤ 6 * n
  most = at_most start.requires.0 old first ready.prepare.ensures a b at work c.reduce-r.ensures.0 low high

  inside : 6 * n - at + 4 * n + (n - b) < length work
  inside = lead-inside start.requires.0 old first ready.prepare.ensures a b at work c.reduce-r.ensures.0 low high

pub overflow_sub-at : goal.overflow_sub-at
overflow_sub-at c = most (goal.at.overflow_sub-at c).After-reduce-r

pub overflow_add-at : goal.overflow_add-at
overflow_add-at c = omega (arith, inside (goal.at.overflow_add-at c).After-reduce-r)

pub overflow_add-at-2 : goal.overflow_add-at-2
overflow_add-at-2 c = omega (arith, inside (goal.at.overflow_add-at-2 c).After-reduce-r)

pub offset_bounds-scratch-at : goal.offset_bounds-scratch-at
offset_bounds-scratch-at c = omega (arith, inside (goal.at.offset_bounds-scratch-at c).After-reduce-r)

pub bounds-scratch-at : goal.bounds-scratch-at
bounds-scratch-at c = inside (goal.at.bounds-scratch-at c).After-reduce-r

pub inverse-v-requires : goal.inverse-v-requires
inverse-v-requires c = let r = (goal.at.inverse-v-requires c).After-reduce-r in
    let h = r.reduce-r.ensures.0.held in record {
      sized = (h.sized, h.irreducible);
      x_nonzero = (
        omega (arith, lead_nonzero (start r).requires.0 (old r) (first r) (ready r).prepare.ensures (a r) (b r) (at r) (work r) r.reduce-r.ensures.0 (low r) (high r)),
        lead_symbol (start r).requires.0 (old r) (first r) (ready r).prepare.ensures (a r) (b r) (at r) (work r) r.reduce-r.ensures.0 (low r) (high r),
      );
    }

pub divide-requires : goal.divide-requires
divide-requires c = let i = (goal.at.divide-requires c).After-inverse-v in
    let r = (goal.at.After-inverse-v i).After-reduce-r in
    divides (start r).requires.0 (old r) (first r) (ready r).prepare.ensures (a r) (b r) (at r) (work r) r.reduce-r.ensures.0 (low r) (high r) i.inverse-v.result i.inverse-v.ensures

pub returns : goal.returns
returns c = let i = (goal.at.returns c).After-inverse-v in
    let r = (goal.at.After-inverse-v i).After-reduce-r in
    found (start r).requires.0 (old r) (first r) (ready r).prepare.ensures (a r) (b r) (at r) (work r) r.reduce-r.ensures.0 (low r) (high r) i.inverse-v.result i.inverse-v.ensures
    c.divide.new.work c.divide.ensures
