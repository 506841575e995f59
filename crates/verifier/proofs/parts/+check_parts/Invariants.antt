-- The dimension falls with each call.
use Rattle.verifier.proofs.parts.+check_parts.Given as goal

abbrev pub decreases-check_parts : goal.decreases-check_parts
decreases-check_parts l = l.k
