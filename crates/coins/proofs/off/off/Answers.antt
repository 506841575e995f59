use mathlib.Core.Path.{◌≡◌, sym}
use native.Mathlib.Omega.{arith}
use lib.ListN.{length, take}
use lib.Seq.{length-take-le}
use Rattle.coins.proofs.OffWord.{off_found}
use Rattle.coins.proofs.off.off.Goals.{Start, After-no_scratch-scratch, After-correct_with}
use Rattle.coins.proofs.off.off.Goals as goal

-- as many places as the word has symbols
module _ (c : goal.After-no_scratch-scratch) where
  abbrev start : goal.Start
  start = (goal.at.After-no_scratch-scratch c).Start

  part : length (take (length start.args.word.now) c.no_word-corrected.result) ≡ length start.args.word.now
  part = length-take-le _ _ (omega (arith, start.requires.1, c.no_word-corrected.ensures))

pub slice_bounds-correct_with-end : goal.slice_bounds-correct_with-end
slice_bounds-correct_with-end c = sym (part (goal.at.slice_bounds-correct_with-end c).After-no_scratch-scratch)

pub correct_with-requires : goal.correct_with-requires
correct_with-requires c = let at = (goal.at.correct_with-requires c).After-no_scratch-scratch in
    let p = (start at).requires.0 in
    record { basis = p.basis; ready = p.ready; whole = p.whole; same = part at; room = omega (arith, (start at).requires.1, at.no_scratch-scratch.ensures) }

pub returns : goal.returns
returns c = let at = (goal.at.returns c).After-correct_with in
    let here = start (goal.at.After-correct_with at).After-no_scratch-scratch in
    rw c.ok.ensures.value (off_found _ _ _ _ here.requires.0.symbols _ at.correct_with.ensures)
