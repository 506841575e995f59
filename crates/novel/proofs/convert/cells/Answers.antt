-- `novel::convert::cells` meets its contract. Assumes nothing.
use mathlib.Core.Path.{refl}
use Rattle.novel.specs.Sparse.{zero_cells}
use Rattle.novel.proofs.convert.cells.Goals as goal

pub returns : goal.returns
unfolding zero_cells
returns c = refl
