-- The loop's invariant: the terms of W_j of number below i are added.
use mathlib.Core.Path.{◌≡◌}
use Prim.Native.Nat.{◌^◌}
use lib.ListN.{length}
use Rattle.lists.specs.All.{Below}
use Rattle.field.specs.Binary.{degree, Irreducible}
use Rattle.novel.specs.Convert.{Folded}
use Rattle.novel.proofs.convert.fold.Given as goal

abbrev pub invariant-loop-i : goal.invariant-loop-i
invariant-loop-i l = (length l.values ≡ length l.initial.values) × (Irreducible l.f.modulus → Below (2 ^ degree l.f.modulus) l.initial.values → Folded l.f.modulus l.table l.j l.i l.at l.initial.values l.values)
