-- The measure is the dimension. The loop's invariant: the rows are stored, and the inner proofs of the first i lines are written.
use Rattle.prover.proofs.Progress.{Progress}
use Rattle.prover.proofs.write.+prove_in.Given as goal

abbrev pub decreases-prove_in : goal.decreases-prove_in
decreases-prove_in l = l.k

abbrev pub invariant-loop-i : goal.invariant-loop-i
invariant-loop-i l = Progress l.f.modulus l.k l.images l.word l.i l.proof
