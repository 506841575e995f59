use mathlib.Core.Path.{◌≡◌, refl, sym, ap, ◌∙◌}
use mathlib.Core.List.{List}
use Prim.Native.Nat.{ℕ}
use native.Mathlib.Omega.{arith}
use lib.ListN.{length, get_or, set, length-set}
use Rattle.lists.specs.Overwrite.{mix, mix-none, set-mix, mix-whole}
use Rattle.transform.proofs.slices.copy.Goals as goal

pub loop-i-init : goal.loop-i-init
loop-i-init c = (refl, sym (mix-none c.args.src.now c.args.dst.now))

pub loop-i-preserved : goal.loop-i-preserved
loop-i-preserved c = let a = c.args in
    let i = c.loop-i.i in (
      length-set c.loop-i.dst i (get_or a.src.now i 0) ∙ c.loop-i.invariant.0,
      ap (λ (x : List ℕ). set x i (get_or a.src.now i 0)) c.loop-i.invariant.1 ∙ set-mix i a.src.now a.dst.now (omega arith) (omega arith),
    )

pub returns : goal.returns
returns c = let a = c.args in
    let last : c.loop-i.i ≡ length a.src.now = omega arith in
    c.loop-i.invariant.1 ∙ ap (λ (k : ℕ). mix k a.src.now a.dst.now) last ∙ mix-whole (length a.src.now) a.src.now a.dst.now refl
