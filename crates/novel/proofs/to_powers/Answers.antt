-- `novel::to_powers` meets its contract. Assumes nothing.
use Rattle.novel.proofs.NovelLaws.{tabled_of, changed_of}
use Rattle.novel.proofs.to_powers.Goals.{Start}
use Rattle.novel.proofs.to_powers.Goals as goal

pub to_monomials-requires : goal.to_monomials-requires
to_monomials-requires c = let start = (goal.at.to_monomials-requires c).Start in
    (tabled_of start.requires.0 c.none-zeros.ensures c.table-t.ensures, start.requires.1, start.requires.2)

pub returns : goal.returns
returns c = changed_of c.requires.0 c.table-t.ensures c.to_monomials.ensures
