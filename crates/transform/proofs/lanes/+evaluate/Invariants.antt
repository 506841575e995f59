-- The measure is m.
use Rattle.transform.proofs.lanes.+evaluate.Given as goal

abbrev pub decreases-evaluate : goal.decreases-evaluate
decreases-evaluate l = l.m
