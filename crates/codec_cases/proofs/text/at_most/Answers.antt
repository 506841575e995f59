use mathlib.Core.Path.{sym}
use mathlib.Core.List.{List}
use Prim.Native.Nat.{ℕ, ◌≤◌}
use native.Mathlib.Omega.{arith}
use lib.ListN.{length}
use lib.Seq.{length-take-le}
use Rattle.io.specs.Counts.{IsPrefixLen}
use Rattle.codec_cases.proofs.text.at_most.Goals as goal

counts : (n : ℕ) (xs : List ℕ) → n ≤ length xs → IsPrefixLen n xs
counts n xs h = (h, sym (length-take-le n xs h))

pub returns-then-n-xs : goal.returns-then-n-xs
returns-then-n-xs c = counts _ _ (omega arith)

pub returns : goal.returns
returns c = counts _ _ (omega arith)
