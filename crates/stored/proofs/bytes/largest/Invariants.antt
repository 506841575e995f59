-- The invariant: a number is above every number of the stretch where it is above `top` and the numbers left.
use Rattle.field.specs.Ranges.{LargestTo}
use Rattle.stored.specs.Bytes.{numbers_at}
use Rattle.stored.proofs.bytes.largest.Given as goal

abbrev pub invariant-loop-i : goal.invariant-loop-i
invariant-loop-i l = LargestTo (numbers_at l.narrow l.file l.at l.count) l.i l.top
