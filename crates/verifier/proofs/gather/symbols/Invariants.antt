-- The loop's invariant: the first i symbols are gathered.
use mathlib.Core.Path.{◌≡◌}
use mathlib.Core.List.{List}
use Prim.Native.Nat.{ℕ}
use lib.ListN.{length}
use Rattle.lists.specs.Filled.{Filled}
use Rattle.proximity.specs.ByLine.{line_word, line_proof, place_at}
use Rattle.proximity.specs.Dim.{col_dim}
use Rattle.proximity.specs.Verifier.{read_at}
use Rattle.proximity.specs.declared.Line.TheVariants.{Column}
use Rattle.verifier.specs.Parts.{joined}
use Rattle.verifier.proofs.gather.symbols.Given as goal

-- symbol j of those that the bits left over read
abbrev pub entry : List ℕ → List ℕ → ℕ → List ℕ → ℕ → ℕ → ℕ → ℕ → ℕ
entry near far slot proof k a rest j = read_at (line_word k (joined near far slot) proof (Column a)) (line_proof k proof (Column a)) (place_at (col_dim k) rest j)

abbrev pub invariant-loop-i : goal.invariant-loop-i
invariant-loop-i l = (length l.initial.out ≡ 64) × Filled 0 l.i (entry l.near l.far l.slot l.proof l.k l.a l.rest) l.initial.out l.out
