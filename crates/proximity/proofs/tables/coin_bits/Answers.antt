-- `proximity::tables::coin_bits` meets its contract: the table is the one that is tested whole.
use Prim.Native.Nat.{◌+◌}
use native.Mathlib.Omega.{arith}
use Rattle.lists.specs.Tables.{table_at}
use Rattle.space.specs.Sizes.{max_dim}
use Rattle.proximity.specs.Dim.{R}
use Rattle.proximity.specs.Tree.{bits, tables_right}
use Rattle.proximity.proofs.tables.coin_bits.Goals as goal

-- GONE array-read-result : tie.Need-array-read-result
-- array-read-result c = search rules
pub returns : goal.returns
returns c = let k = c.args.k in table_at R bits (max_dim + 1) tables_right.1 k (omega arith)
