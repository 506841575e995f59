use mathlib.Core.Path.{◌≡◌, refl, sym, ap, ap₂, ◌∙◌}
use mathlib.Core.Logic.{inl}
use mathlib.Core.List.{List}
use Prim.Native.Nat.{ℕ, ◌+◌}
use native.Mathlib.Omega.{arith}
use lib.ListN.{length, get_or, set, take, length-set}
use lib.Seq.{get_or-take, length-take-le}
use Rattle.lists.specs.Stretch.{turned, turned_none, turned-all, turned-next, turned_outside}
use Rattle.transform.proofs.slices.copy_up.Goals as goal

pub loop-i-init : goal.loop-i-init
loop-i-init c = let a = c.args in
    (refl, sym (turned_none a.n a.n (take a.n a.values.now) a.values.now c.requires (length-take-le a.n a.values.now (omega (arith, c.requires)))))

pub loop-i-preserved : goal.loop-i-preserved
loop-i-preserved c = let i = c.loop-i.i in
    let n = c.args.n in
    let v = c.args.values.now in
    let fits = c.requires in
    let long : length (take n v) ≡ n = length-take-le n v (omega arith) in
    let same : get_or c.loop-i.values i 0 ≡ get_or (take n v) i 0 =
    ap (λ (x : List ℕ). get_or x i 0) c.loop-i.invariant.1 ∙ turned_outside n n (take n v) v fits long i i (inl (omega arith)) ∙ sym (get_or-take n v i 0 (omega arith)) in (
      length-set c.loop-i.values (n + i) (get_or c.loop-i.values i 0) ∙ c.loop-i.invariant.0,
      ap₂ (λ (x : List ℕ) (y : ℕ). set x (n + i) y) c.loop-i.invariant.1 same ∙ turned-next n n (take n v) v fits long i (omega arith),
    )

pub returns : goal.returns
returns c = let n = c.args.n in
    let v = c.args.values.now in
    let last : c.loop-i.i ≡ n = omega arith in
    c.loop-i.invariant.1 ∙ ap (turned n n (take n v) v) last ∙ turned-all n n (take n v) v c.requires (length-take-le n v (omega arith))
