-- The loop's invariant: the cells before `next` are filled, and the others are 0.
use Rattle.novel.specs.Sparse.{table_cells}
use Rattle.lists.specs.Upto.{Upto}
use Rattle.field.specs.Binary.{Irreducible}
use Rattle.novel.proofs.Cells.{cell}
use Rattle.novel.proofs.convert.table.Given as goal

abbrev pub invariant-loop-next : goal.invariant-loop-next
invariant-loop-next l = (irr : Irreducible l.f.modulus) → Upto table_cells l.next (cell l.f.modulus irr l.steps) l.t
