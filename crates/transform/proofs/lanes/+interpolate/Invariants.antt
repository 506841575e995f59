-- The measure is m.
use Rattle.transform.proofs.lanes.+interpolate.Given as goal

abbrev pub decreases-interpolate : goal.decreases-interpolate
decreases-interpolate l = l.m
