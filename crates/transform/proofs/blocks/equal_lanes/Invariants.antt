-- The loop's invariant: o lists came, and bad is 0 exactly where each of them is eight times one number.
use mathlib.Core.Path.{◌≡◌}
use mathlib.Core.Logic.{◌↔◌}
use Prim.Native.Nat.{◌*◌, ◌≤◌}
use lib.ListN.{length, drop}
use Rattle.transform.proofs.Alike.{AlikeTo}
use Rattle.transform.proofs.blocks.equal_lanes.Given as goal

abbrev pub invariant-loop-list : goal.invariant-loop-list
invariant-loop-list l = let o = length l.yielded in
    record {
      eight : l.list-iterator.size ≡ 8;
      came : o * 8 ≤ length l.values;
      rest : l.list-iterator.rest.now ≡ drop (o * 8) l.values;
      alike : (l.bad ≡ 0) ↔ AlikeTo o l.values;
    }
