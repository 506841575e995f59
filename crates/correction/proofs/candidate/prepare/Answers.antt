use mathlib.Core.List.{List}
use Prim.Native.Nat.{ℕ}
use Rattle.correction.proofs.CandidateLaws.{beginning, prepared}
use Rattle.correction.proofs.candidate.prepare.Goals.{Start, After-load}
use Rattle.correction.proofs.candidate.prepare.Goals as goal

module _ (c : goal.After-load) where
  abbrev start : goal.Start
  start = (goal.at.After-load c).Start

  abbrev mid : List ℕ
  mid = c.load.new.scratch

pub begin-requires : goal.begin-requires
begin-requires c = let a = (goal.at.begin-requires c).After-load in
    let s = start a in
    beginning s.requires.0 s.args.scratch.now (mid a) s.requires.1 a.load.ensures

pub returns : goal.returns
returns c = let a = (goal.at.returns c).After-load in
    let s = start a in
    prepared s.requires.0 s.args.scratch.now (mid a) s.requires.1 a.load.ensures c.begin.new.work c.begin.ensures
