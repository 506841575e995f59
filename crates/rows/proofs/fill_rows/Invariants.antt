-- The loop's invariant: the coefficients stand in work, and of each row the blocks before j are stored.
use mathlib.Core.Path.{◌≡◌}
use Prim.Native.Nat.{◌^◌}
use lib.ListN.{length, take}
use Rattle.rows.specs.Rows.{Coefficients, Stored}
use Rattle.rows.proofs.fill_rows.Given as goal

abbrev pub invariant-loop-j : goal.invariant-loop-j
invariant-loop-j l = (length l.work ≡ length l.initial.work) × Coefficients l.f.modulus l.k l.images l.word (take (2 ^ l.k) l.work) × Stored l.f.modulus l.k l.images l.word l.j l.proof
