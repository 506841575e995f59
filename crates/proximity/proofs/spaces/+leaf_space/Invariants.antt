-- The measure is the dimension.
use Rattle.proximity.proofs.spaces.+leaf_space.Given as goal

abbrev pub decreases-leaf_space : goal.decreases-leaf_space
decreases-leaf_space l = l.k
