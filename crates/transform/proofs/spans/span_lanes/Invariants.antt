-- The loop's invariant: the first j lists are written.
use Rattle.transform.specs.Spans.{SpanLanes}
use Rattle.transform.proofs.spans.span_lanes.Given as goal

abbrev pub invariant-loop-j : goal.invariant-loop-j
invariant-loop-j l = SpanLanes l.images l.from l.c l.j l.lanes
