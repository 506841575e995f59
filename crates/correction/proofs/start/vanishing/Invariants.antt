-- The loop's invariant: the first i terms stand (`Terms`).
use Prim.Native.Nat.{ℕ, ◌+◌}
use lib.ListN.{length}
use Rattle.field.specs.Binary.{Irreducible}
use Rattle.novel.specs.Sparse.{Sparse}
use Rattle.correction.proofs.StartLaws.{Terms}
use Rattle.correction.proofs.start.vanishing.Given as goal

abbrev pub invariant-loop-i : goal.invariant-loop-i
invariant-loop-i l = (q : ℕ) → Irreducible q → Sparse q l.steps (l.k + 1) l.t → Terms q l.steps l.k l.i (length l.initial.values) l.values
