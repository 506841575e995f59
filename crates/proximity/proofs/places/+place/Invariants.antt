-- The measure is the dimension.
use Rattle.proximity.proofs.places.+place.Given as goal

abbrev pub decreases-place : goal.decreases-place
decreases-place l = l.k
