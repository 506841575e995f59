-- `novel::load` meets its contract. Assumes nothing.
use mathlib.Core.Path.{ap, ◌∙◌}
use mathlib.Core.List.{List, ◌++◌}
use lib.ListN.{length, drop}
use Rattle.novel.proofs.load.Goals as goal

pub returns : goal.returns
returns c = let src = c.args.src.now in
    c.copy.ensures ∙ ap (λ (l : List _). src ++ drop (length src) l) c.clear.ensures
