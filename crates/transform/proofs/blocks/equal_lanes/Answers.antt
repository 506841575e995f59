use mathlib.Core.Path.{◌≡◌, sym, ap, ◌∙◌, subst}
use mathlib.Core.Logic.{◌↔◌}
use mathlib.Core.List.{List, ◌++◌, ◌∷◌, []}
use Prim.Native.Nat.{ℕ, ◌+◌, ◌*◌, ◌/◌, ◌≤◌}
use native.Mathlib.Omega.{arith}
use lib.ListN.{length, drop, length-append, length-drop}
use Rattle.transform.proofs.Alike.{AlikeTo, alike_next, alike_rest, alike_decides}
use Rattle.transform.proofs.blocks.equal_lanes.Goals as goal

pub loop-list-preserved : goal.loop-list-preserved
loop-list-preserved c = let xs = c.args.values.now in
    let s = c.loop-list.invariant in
    let step = c.in-Some.ensures.steps in
    let o = length c.loop-list.yielded in
    let list = c.in-Some.list.now in
    let rest = c.next.new.self.rest.now in
    let more : length (c.loop-list.yielded ++ c.in-Some.list ∷ []) ≡ o + 1 = length-append c.loop-list.yielded (c.in-Some.list ∷ []) in
    let eight : length list ≡ 8 = step.1.1 ∙ s.eight in
    let parts : drop (o * 8) xs ≡ list ++ rest = sym s.rest ∙ step.1.0 in
    rw more
    record {
      eight = step.0 ∙ s.eight;
      came = omega (arith, ap (λ (t : List ℕ). length t) parts, length-append list rest, length-drop (o * 8) xs);
      rest = alike_rest xs list rest o parts eight;
      alike = alike_next xs list rest o c.loop-list.bad c.list_differs-bad.result parts eight s.alike c.list_differs-bad.ensures;
    }

pub returns : goal.returns
returns c = let xs = c.args.values.now in
    let s = c.loop-list.invariant in
    let few : length (drop (length c.loop-list.yielded * 8) xs) + 1 ≤ 8 = rw (sym s.rest) (omega (arith, c.in-None.ensures.steps, s.eight)) in
    let last : length c.loop-list.yielded ≡ length xs / 8 = omega (arith, few, length-drop (length c.loop-list.yielded * 8) xs, s.came) in
    alike_decides (length xs / 8) xs c.loop-list.bad (subst (λ (o : ℕ). (c.loop-list.bad ≡ 0) ↔ AlikeTo o xs) last s.alike)
