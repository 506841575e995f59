use mathlib.Core.Path.{◌∙◌}
use mathlib.Core.List.{List}
use Prim.Native.Nat.{ℕ}
use native.Mathlib.Omega.{arith}
use Rattle.correction.proofs.CandidateLaws.{lent-zero, lent_length, loaded}
use Rattle.correction.proofs.candidate.load.Goals.{Start, After-clear}
use Rattle.correction.proofs.candidate.load.Goals as goal

module _ (c : goal.After-clear) where
  abbrev start : goal.Start
  start = (goal.at.After-clear c).Start

  abbrev cleared : List ℕ
  cleared = c.clear.new.values

pub through-requires : goal.through-requires
through-requires c = let a = (goal.at.through-requires c).After-clear in
    let s = start a in (
      s.requires.0,
      lent-zero s.requires.0 s.args.scratch.now (cleared a) a.clear.ensures s.requires.1,
      lent_length s.requires.0 s.args.scratch.now (cleared a) a.clear.ensures s.requires.1,
    )

pub returns : goal.returns
returns c = let a = (goal.at.returns c).After-clear in
    let s = start a in
    let after : List ℕ = c.through.new.work in
    loaded s.requires.0 s.args.scratch.now (cleared a) a.clear.ensures s.requires.1 after
    (c.through.auto.work ∙ lent_length s.requires.0 s.args.scratch.now (cleared a) a.clear.ensures s.requires.1 ∙ omega arith)
    c.through.ensures
