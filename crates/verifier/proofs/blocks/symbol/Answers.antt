use mathlib.Core.Path.{◌≡◌, ap, ◌∙◌}
use mathlib.Core.List.{List}
use Prim.Native.Nat.{ℕ, ◌+◌}
use native.Mathlib.Nat.{mod-lt}
use native.Mathlib.Omega.{arith}
use lib.ListN.{length, get_or, drop, length-drop}
use lib.Pow.{pow_pos}
use lib.Seq.{get_or-take, get_or-drop, length-take-le}
use Rattle.verifier.specs.Parts.{joined}
use Rattle.verifier.proofs.Laws.{length_joined}
use Rattle.verifier.proofs.blocks.symbol.Goals.{Start, After-stretch-s}
use Rattle.verifier.proofs.blocks.symbol.Goals as goal

pub stretch-s-requires : goal.stretch-s-requires
stretch-s-requires c = let start = (goal.at.stretch-s-requires c).Start in
    let p = start.requires in
    record { in_parts = (p.0, p.1, p.2); at_bound = (p.3, omega (arith, mod-lt start.args.at (pow_pos start.args.e))) }

module _ (c : goal.After-stretch-s) where
  abbrev start : goal.Start
  start = (goal.at.After-stretch-s c).Start

  abbrev word : List ℕ
  word = joined start.args.near.now start.args.far.now start.args.slot

  long : length c.stretch-s.result.now ≡ 1
  long =
      ap length c.stretch-s.ensures
      ∙ length-take-le 1 (drop start.args.at word) (omega (arith, length-drop start.args.at word, length_joined start.args.near.now start.args.far.now start.args.slot start.requires.0, start.requires.1, start.requires.3))

pub bounds-s-0 : goal.bounds-s-0
bounds-s-0 c = omega (arith, long (goal.at.bounds-s-0 c).After-stretch-s)

pub returns : goal.returns
returns c = let s = (goal.at.returns c).After-stretch-s in
    let here : (start s).args.at + 0 ≡ (start s).args.at = omega arith in
    ap (λ (l : List ℕ). get_or l 0 0) s.stretch-s.ensures ∙ get_or-take 1 (drop (start s).args.at (word s)) 0 0 (omega arith)
    ∙ get_or-drop (start s).args.at (word s) 0 0 ∙ ap (λ (n : ℕ). get_or (word s) n 0) here
