-- The measure: m.
use Rattle.novel.proofs.convert.+from_monomials.Given as goal

abbrev pub decreases-from_monomials : goal.decreases-from_monomials
decreases-from_monomials l = l.m
