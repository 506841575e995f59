-- The measure: m.
use Rattle.novel.proofs.convert.+to_monomials.Given as goal

abbrev pub decreases-to_monomials : goal.decreases-to_monomials
decreases-to_monomials l = l.m
