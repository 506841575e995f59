-- The loop's invariant: what the bits that are left add to x makes the sum.
use Rattle.proximity.proofs.Rows.{Summed}
use Rattle.proximity.proofs.spaces.element_images.Given as goal

abbrev pub invariant-loop-i : goal.invariant-loop-i
invariant-loop-i l = Summed l.images l.h l.c l.r l.x l.rest l.i
