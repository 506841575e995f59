-- The loop's invariant: the first i numbers are written.
use lib.ListN.{take}
use Rattle.stored.specs.Bytes.{packed}
use Rattle.filing.specs.Put.{Put}
use Rattle.filing.proofs.put.put_numbers.Given as goal

abbrev pub invariant-loop-i : goal.invariant-loop-i
invariant-loop-i l = Put l.at (packed l.narrow (take l.i l.xs)) l.initial.out l.out
