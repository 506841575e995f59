-- `novel::from_powers` meets its contract. Assumes nothing.
use Rattle.novel.proofs.NovelLaws.{tabled_of, changed_of}
use Rattle.novel.proofs.from_powers.Goals.{Start}
use Rattle.novel.proofs.from_powers.Goals as goal

pub from_monomials-requires : goal.from_monomials-requires
from_monomials-requires c = let start = (goal.at.from_monomials-requires c).Start in
    (tabled_of start.requires.0 c.none-zeros.ensures c.table-t.ensures, start.requires.1, start.requires.2)

pub returns : goal.returns
returns c = changed_of c.requires.0 c.table-t.ensures c.from_monomials.ensures
