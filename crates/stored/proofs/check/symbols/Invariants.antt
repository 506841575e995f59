-- The loop's invariant: the first i symbols are written.
use mathlib.Core.Bool.{Bool}
use mathlib.Core.List.{List}
use Prim.Native.Nat.{ℕ, ◌^◌}
use Rattle.lists.specs.Filled.{Filled}
use Rattle.proximity.specs.ByLine.{place_at}
use Rattle.proximity.specs.Dim.{S}
use Rattle.proximity.specs.Verifier.{read_at}
use Rattle.stored.specs.Bytes.{numbers_at}
use Rattle.stored.proofs.check.symbols.Given as goal

-- symbol j of those that the coin reads
abbrev pub entry : List ℕ → Bool → ℕ → ℕ → ℕ → ℕ → ℕ → ℕ
entry file narrow word proof k coin j = read_at (numbers_at narrow file word (2 ^ k)) (numbers_at narrow file proof (S k)) (place_at k coin j)

abbrev pub invariant-loop-i : goal.invariant-loop-i
invariant-loop-i l = Filled 0 l.i (entry l.file l.narrow l.word l.proof l.k l.coin) l.initial.out l.out
