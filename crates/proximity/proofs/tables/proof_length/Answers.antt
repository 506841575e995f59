-- `proximity::tables::proof_length` meets its contract: the table is the one that is tested whole.
use Prim.Native.Nat.{◌+◌}
use native.Mathlib.Omega.{arith}
use Rattle.lists.specs.Tables.{table_at}
use Rattle.space.specs.Sizes.{max_dim}
use Rattle.proximity.specs.Dim.{S}
use Rattle.proximity.specs.Tree.{lengths, tables_right}
use Rattle.proximity.proofs.tables.proof_length.Goals as goal

-- GONE array-read-result : tie.Need-array-read-result
-- array-read-result c = search rules
pub returns : goal.returns
returns c = let k = c.args.k in table_at S lengths (max_dim + 1) tables_right.0 k (omega arith)
