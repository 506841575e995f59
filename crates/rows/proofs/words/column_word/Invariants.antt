-- The loop's invariant: the symbols of the first r rows are gathered.
use mathlib.Core.List.{List}
use Prim.Native.Nat.{ℕ}
use lib.ListN.{get_or, replicate}
use Rattle.lists.specs.Filled.{Filled}
use Rattle.space.specs.Sizes.{max_line}
use Rattle.proximity.specs.Proof.{row}
use Rattle.rows.proofs.words.column_word.Given as goal

abbrev pub zeros : List ℕ
zeros = replicate {A = ℕ} max_line 0

abbrev pub invariant-loop-r : goal.invariant-loop-r
invariant-loop-r l = Filled 0 l.r (λ (r : ℕ). get_or (row l.k l.word l.proof r) l.a 0) zeros l.out
