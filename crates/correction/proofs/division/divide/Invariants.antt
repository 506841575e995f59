-- The loop's invariant: j coefficients of the quotient are left to find (`Dividing_at`).
use Rattle.correction.proofs.DivisionLaws.{Dividing_at}
use Rattle.correction.proofs.division.divide.Given as goal

abbrev pub invariant-loop-j : goal.invariant-loop-j
invariant-loop-j l = Dividing_at l.f.modulus l.n l.e l.v l.at l.d l.initial.work l.j l.work
