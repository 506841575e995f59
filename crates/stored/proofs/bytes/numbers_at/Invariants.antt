-- The loop's invariant: the first i numbers are written.
use Rattle.lists.specs.Filled.{Filled}
use Rattle.stored.specs.Bytes.{number_at}
use Rattle.stored.proofs.bytes.numbers_at.Given as goal

abbrev pub invariant-loop-i : goal.invariant-loop-i
invariant-loop-i l = Filled 0 l.i (λ j. number_at l.narrow l.file l.at j) l.initial.out l.out
