-- The loop's invariant: the first i numbers are written.
use lib.ListN.{take}
use Rattle.stored.specs.Bytes.{packed, numbers_at}
use Rattle.filing.specs.Put.{Put}
use Rattle.filing.proofs.put.copy_numbers.Given as goal

abbrev pub invariant-loop-i : goal.invariant-loop-i
invariant-loop-i l = Put l.at (packed l.target (take l.i (numbers_at l.narrow l.file l.from l.count))) l.initial.out l.out
