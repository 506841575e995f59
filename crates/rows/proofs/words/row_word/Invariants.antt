-- The loop's invariant: the first j blocks are gathered.
use mathlib.Core.Path.{◌≡◌}
use Prim.Native.Nat.{ℕ, ◌^◌, ◌<◌}
use lib.ListN.{length}
use Rattle.lists.specs.Tables.{part}
use Rattle.space.specs.Sizes.{max_line}
use Rattle.proximity.specs.Dim.{half}
use Rattle.proximity.specs.Proof.{block}
use Rattle.rows.proofs.words.row_word.Given as goal

abbrev pub invariant-loop-j : goal.invariant-loop-j
invariant-loop-j l = (length l.out ≡ max_line) × ((i : ℕ) → i < l.j → part (2 ^ half l.k) i l.out ≡ block l.k l.word l.proof l.r i)
