use mathlib.Core.Path.{sym, ◌∙◌, subst}
use Prim.Native.Nat.{◌+◌}
use Rattle.lists.specs.Stretch.{Apart}
use Rattle.correction.proofs.remainders.add_pair.Goals.{Start, After-add_multiple, After-add_multiple-2}
use Rattle.correction.proofs.remainders.add_pair.Goals as goal

pub add_multiple-requires-2 : goal.add_multiple-requires-2
add_multiple-requires-2 c = let first = (goal.at.add_multiple-requires-2 c).After-add_multiple in
    let s = (goal.at.After-add_multiple first).Start in (
      s.requires.sized.0,
      s.requires.sized.1,
      s.requires.sized.2,
      first.add_multiple.ensures.below,
      subst (Apart s.args.v (s.args.from + s.args.far) (s.args.to + s.args.far)) (sym first.add_multiple.ensures.kept) s.requires.apart.1,
    )

pub returns : goal.returns
returns c = let second = (goal.at.returns c).After-add_multiple-2 in
    let first = (goal.at.After-add_multiple-2 second).After-add_multiple in
    record {
      kept = second.add_multiple-2.ensures.kept ∙ first.add_multiple.ensures.kept;
      below = second.add_multiple-2.ensures.below;
      middle = _;
      first = first.add_multiple.ensures;
      second = second.add_multiple-2.ensures;
    }
