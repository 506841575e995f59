use mathlib.Core.Path.{◌≡◌, ap, ◌∙◌}
use Prim.Native.Nat.{ℕ, ◌+◌, ◌*◌, ◌%◌, ◌^◌, ◌≤◌}
use native.Mathlib.Omega.{arith}
use Rattle.lists.specs.Overwrite.{length_cut}
use Rattle.lists.specs.Tables.{part-fits}
use Rattle.space.specs.Sizes.{lane_cells}
use Rattle.transform.proofs.Layers.{power}
use Rattle.transform.proofs.SpanLists.{lanes_next}
use Rattle.transform.proofs.spans.span_lanes.Goals as goal

pub loop-j-preserved : goal.loop-j-preserved
loop-j-preserved c = let a = c.args in
    let l = c.loop-j in
    let n : ℕ = (1 * 2 ^ a.c) % 18446744073709551616 in
    let size : n ≡ 2 ^ a.c = power a.c (omega (arith, c.requires.1)) in
    let inside : l.j * n + n ≤ lane_cells = omega (arith, part-fits {i = l.j} {n = a.m} n (omega arith), ap (λ (t : ℕ). a.m * t) size, c.requires.0) in
    lanes_next a.images.now a.from a.c l.j n l.lanes c.span_list.new.list size inside l.invariant
    (c.span_list.auto.list ∙ length_cut (l.j * n) n l.lanes (omega (arith, inside, l.invariant.count))) c.span_list.ensures
