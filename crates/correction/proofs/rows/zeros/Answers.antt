use mathlib.Core.Path.{refl}
use lib.ListN.{length-replicate}
use Prim.Native.Nat.{ℕ}
use Rattle.lists.specs.All.{IsZero, All-replicate}
use Rattle.correction.specs.Rows.{part_size}
use Rattle.correction.proofs.rows.zeros.Goals as goal

pub returns : goal.returns
returns c = (length-replicate {A = ℕ} part_size 0, All-replicate IsZero part_size 0 refl)
