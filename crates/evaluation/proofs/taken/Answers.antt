-- `evaluation::taken` meets its contract. Assumes nothing.
use mathlib.Core.Path.{sym}
use mathlib.Core.List.{List}
use Prim.Native.Nat.{ℕ}
use native.Mathlib.Omega.{arith}
use Rattle.evaluation.proofs.Taking.{length_cut, length_front, taken_is}
use Rattle.evaluation.proofs.taken.Goals.{Start, After-no_coefficients-out}
use Rattle.evaluation.proofs.taken.Goals as goal

module _ (c : goal.After-no_coefficients-out) where
  abbrev start : goal.Start
  start = (goal.at.After-no_coefficients-out c).Start

  abbrev room : List ℕ
  room = c.no_coefficients-out.result

pub slice_bounds-copy-end-2 : goal.slice_bounds-copy-end-2
slice_bounds-copy-end-2 c = let a = (goal.at.slice_bounds-copy-end-2 c).After-no_coefficients-out in
    let s = start a in
    sym (length_front s.args.at s.args.d s.args.from.now (room a) a.no_coefficients-out.ensures s.requires.0 s.requires.1)

pub copy-requires : goal.copy-requires
copy-requires c = let a = (goal.at.copy-requires c).After-no_coefficients-out in
    let s = start a in
    omega (
      arith,
      length_cut s.args.at s.args.d s.args.from.now (room a) a.no_coefficients-out.ensures s.requires.0 s.requires.1,
      length_front s.args.at s.args.d s.args.from.now (room a) a.no_coefficients-out.ensures s.requires.0 s.requires.1,
    )

pub returns : goal.returns
returns c = let a = (goal.at.returns c).After-no_coefficients-out in
    let s = start a in
    taken_is s.args.at s.args.d s.args.from.now (room a) a.no_coefficients-out.ensures s.requires.0 s.requires.1 c.copy.new.dst c.copy.ensures
