use mathlib.Core.Path.{sym, ◌∙◌}
use Prim.Native.Nat.{ℕ}
use lib.ListN.{length-replicate}
use Rattle.stored.specs.File.{small_proof}
use Rattle.stored.specs.Short.{small-proof}
use Rattle.stored.proofs.small.no_proof.Goals as goal

pub returns : goal.returns
returns c = length-replicate {A = ℕ} small_proof 0 ∙ sym small-proof
