-- The loop's invariant: the products of the first j steps, and zeros behind (`Doubled`).
use Rattle.field.specs.Binary.{Irreducible}
use Rattle.novel.proofs.Scaling.{Doubled}
use Rattle.novel.proofs.convert.scales.Given as goal

abbrev pub invariant-loop-j : goal.invariant-loop-j
invariant-loop-j l = (irr : Irreducible l.f.modulus) → Doubled l.f.modulus irr l.steps l.j l.out
