use mathlib.Core.Path.{◌≡◌, sym, ap, ◌∙◌, subst}
use mathlib.Core.List.{List}
use Prim.Native.Nat.{ℕ, ◌+◌, ◌-◌, ◌*◌, ◌≤◌, ◌<◌}
use native.Mathlib.Omega.{arith}
use lib.ListN.{length, get_or, take, drop}
use Rattle.lists.specs.Lanes.{Strided}
use Rattle.transform.proofs.Written.{Written, written_none, written_next, written_all, length_list, cut}
use Rattle.verifier.specs.Parts.{joined, no_symbols}
use Rattle.verifier.proofs.Laws.{length_joined, length_no-symbols}
use Rattle.verifier.proofs.gather.gather.Goals.{Start, At-loop-b, After-block}
use Rattle.verifier.proofs.gather.gather.Goals as goal

pub loop-b-init : goal.loop-b-init
loop-b-init c = let e = c.no_symbols-out.ensures in
    let a = c.args in
    let p = c.requires in (
      ap length e ∙ length_no-symbols,
      subst (Written 8 (length a.near.now) 0 (joined a.near.now a.far.now a.slot) no_symbols) (sym e)
          (written_none 8 (length a.near.now) (joined a.near.now a.far.now a.slot) no_symbols (omega (arith, length_joined a.near.now a.far.now a.slot p.0))),
    )

pub block-requires : goal.block-requires
block-requires c = (c.requires.0, omega arith)

module _ (c : goal.After-block) where
  abbrev head : goal.At-loop-b
  head = (goal.at.After-block c).At-loop-b

  abbrev start : goal.Start
  start = (goal.at.After-block c).Start

  abbrev near : List ℕ
  near = start.args.near.now

  abbrev word : List ℕ
  word = joined near start.args.far.now start.args.slot

  fits : 8 * length near ≤ length word
  fits = omega (arith, length_joined near start.args.far.now start.args.slot start.requires.0)

  -- the block, as a list of the word
  here : c.block.result.now ≡ cut (length near) head.loop-b.b word
  here =
      let count : length near ≡ head.loop-b.b * length near + length near - head.loop-b.b * length near = omega arith in
      c.block.ensures ∙ ap (λ (n : ℕ). take n (drop (head.loop-b.b * length near) word)) count

  inside : head.loop-b.b < 8
  inside = c.loop-b-test.true

  long : length c.block.result.now ≡ length near
  long = ap length here ∙ length_list 8 (length near) word no_symbols fits head.loop-b.b inside

pub slice_bounds-to_lane-end : goal.slice_bounds-to_lane-end
slice_bounds-to_lane-end c = sym (head (goal.at.slice_bounds-to_lane-end c).After-block).loop-b.invariant.0

pub to_lane-requires : goal.to_lane-requires
to_lane-requires c = let b = (goal.at.to_lane-requires c).After-block in
    (inside b, omega (arith, long b, (head b).loop-b.invariant.0, (start b).requires.1))

pub loop-b-preserved : goal.loop-b-preserved
loop-b-preserved c = let b = (goal.at.loop-b-preserved c).After-block in
    let s = c.to_lane.ensures in (
      s.kept ∙ (head b).loop-b.invariant.0,
      written_next 8 (length (near b)) (word b) no_symbols (fits b) (head b).loop-b.b (inside b) (head b).loop-b.out _ (head b).loop-b.invariant.1
          (subst (λ (l : List ℕ). Strided 8 (head b).loop-b.b (length l) (λ (o : ℕ). get_or l o 0) (head b).loop-b.out c.to_lane.new.to) (here b) s),
    )

pub returns : goal.returns
returns c = let h = (goal.at.returns c).At-loop-b in
    let s = (goal.at.At-loop-b h).Start in
    let near' = s.args.near.now in
    written_all 8 (length near') (joined near' s.args.far.now s.args.slot) no_symbols
    (omega (arith, length_joined near' s.args.far.now s.args.slot s.requires.0)) h.loop-b.b h.loop-b.out (omega arith) h.loop-b.invariant.1
