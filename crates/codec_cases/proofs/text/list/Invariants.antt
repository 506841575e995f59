-- The loop's invariant: no more numbers begin than bytes were read.
use Prim.Native.Nat.{◌≤◌}
use Rattle.codec_cases.proofs.text.list.Given as goal

abbrev pub invariant-loop-c : goal.invariant-loop-c
invariant-loop-c l = l.n ≤ l.c-index
