use mathlib.Core.Path.{◌≡◌, ◌∙◌}
use mathlib.Core.List.{List}
use Prim.Native.Nat.{ℕ, ◌-◌, ◌*◌}
use native.Mathlib.Omega.{arith}
use lib.ListN.{length, drop, length-drop}
use lib.Seq.{length-take-le}
use Rattle.field.specs.Symbols.{symbols-field}
use Rattle.correction.proofs.CandidateLaws.{vanish-zero, vanish-room, end-inside, begun}
use Rattle.correction.proofs.candidate.begin.Goals.{Start, After-vanishing}
use Rattle.correction.proofs.candidate.begin.Goals as goal

pub vanishing-requires : goal.vanishing-requires
vanishing-requires c = let s = (goal.at.vanishing-requires c).Start in (s.requires.stepped, vanish-zero s.requires, vanish-room s.requires)

module _ (c : goal.After-vanishing) where
  abbrev start : goal.Start
  start = (goal.at.After-vanishing c).Start

  abbrev n : ℕ
  n = start.args.n

  abbrev after : List ℕ
  after = c.vanishing.new.values

  length-after : length after ≡ 6 * n - 4 * n
  length-after =
      c.vanishing.auto.values
      ∙ length-take-le (6 * n - 4 * n) (drop (4 * n) start.args.work.now) (omega (arith, length-drop (4 * n) start.args.work.now, start.requires.room))

pub bounds-work-end : goal.bounds-work-end
bounds-work-end c = let v = (goal.at.bounds-work-end c).After-vanishing in end-inside (start v).requires (after v) (length-after v) v.vanishing.ensures

pub returns : goal.returns
returns c = let v = (goal.at.returns c).After-vanishing in
    begun (start v).requires (after v) (length-after v) v.vanishing.ensures (symbols-field (start v).args.f.modulus (start v).requires.stepped.irreducible).sym_one
