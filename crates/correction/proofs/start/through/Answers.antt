use mathlib.Core.Path.{sym, ap, subst}
use mathlib.Core.List.{List}
use Prim.Native.Nat.{ℕ}
use native.Mathlib.Nat.{le_refl}
use lib.ListN.{length}
use Rattle.space.specs.Usable.{usable}
use Rattle.transform.specs.Blocks.{InBlocks}
use Rattle.novel.specs.Settings.{stepped, stepped_inverses}
use Rattle.correction.proofs.ThroughLaws.{word_blocks, front-is, mid-below, mid-room, mid-zero, through_word}
use Rattle.correction.proofs.start.through.Goals.{Start, After-copy, After-interpolate_word}
use Rattle.correction.proofs.start.through.Goals as goal

-- ---- once the word is copied
module _ (c : goal.After-copy) where
  abbrev start : goal.Start
  start = (goal.at.After-copy c).Start

  abbrev word : List ℕ
  word = start.args.word.now

  abbrev copied : List ℕ
  copied = c.copy.new.dst

pub slice_bounds-interpolate_word-end-2 : goal.slice_bounds-interpolate_word-end-2
slice_bounds-interpolate_word-end-2 c = let a = (goal.at.slice_bounds-interpolate_word-end-2 c).After-copy in
    let s = start a in
    sym (ap length (front-is s.requires.0 s.args.work.now (copied a) s.requires.1 s.requires.2 a.copy.ensures))

pub interpolate_word-requires : goal.interpolate_word-requires
interpolate_word-requires c = let a = (goal.at.interpolate_word-requires c).After-copy in
    let s = start a in
    subst (InBlocks s.args.s.field s.args.s.space.images s.args.s.space.k)
    (sym (front-is s.requires.0 s.args.work.now (copied a) s.requires.1 s.requires.2 a.copy.ensures)) (word_blocks s.requires.0)

-- ---- once the front is interpolated
module _ (c : goal.After-interpolate_word) where
  abbrev at : goal.After-copy
  at = (goal.at.After-interpolate_word c).After-copy

  abbrev d : List ℕ
  d = c.interpolate_word.new.values

pub powers_in-requires : goal.powers_in-requires
powers_in-requires c = let b = (goal.at.powers_in-requires c).After-interpolate_word in
    let a = at b in
    let s = start a in
    let g = s.requires.0 in
    let u = usable g.ready in
    let k : ℕ = s.args.s.space.k in record {
      stepped = (stepped u k (le_refl k), stepped_inverses u k (le_refl k));
      below = (
        mid-below g s.args.work.now (copied a) s.requires.1 s.requires.2 a.copy.ensures (d b) b.interpolate_word.ensures,
        mid-room g s.args.work.now (copied a) s.requires.1 s.requires.2 a.copy.ensures (d b) b.interpolate_word.ensures,
        mid-zero g s.args.work.now (copied a) s.requires.1 s.requires.2 a.copy.ensures (d b) b.interpolate_word.ensures,
      );
    }

pub returns : goal.returns
returns c = let b = (goal.at.returns c).After-interpolate_word in
    let a = at b in
    let s = start a in
    through_word s.requires.0 s.args.work.now (copied a) s.requires.1 s.requires.2 a.copy.ensures (d b) b.interpolate_word.ensures
    c.powers_in.new.work c.powers_in.ensures
