-- The loop's invariant: the first 2^i numbers are right.
use Prim.Native.Nat.{◌^◌}
use Rattle.transform.specs.Spans.{SpanList}
use Rattle.transform.proofs.spans.span_list.Given as goal

abbrev pub invariant-loop-i : goal.invariant-loop-i
invariant-loop-i l = SpanList l.images l.from l.c l.j (2 ^ l.i) l.list
