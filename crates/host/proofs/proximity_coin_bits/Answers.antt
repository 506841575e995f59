use mathlib.Core.Path.{refl, ap, ◌∙◌}
use mathlib.Core.Logic.{inl, inr}
use Rattle.lists.specs.Answers.{not_refused}
use Rattle.proximity.specs.Dim.{R}
use Rattle.stored.proofs.CheckLaws.{read-passes, read_dimension, read_laid}
use Rattle.stored.specs.Reader.{file_checks}
use Rattle.host.proofs.proximity_coin_bits.Goals as goal

pub coin_bits-requires : goal.coin_bits-requires
coin_bits-requires c = (read_laid c.args.file.now c.in-Ok.r c.in-Ok.ensures).few

pub returns-in-Ok : goal.returns-in-Ok
returns-in-Ok c = let f = c.args.file.now in
    let r = c.in-Ok.r in
    inl (read-passes f r c.in-Ok.ensures, c.coin_bits.ensures ∙ ap R (read_dimension f r c.in-Ok.ensures))

pub returns-in-Err : goal.returns-in-Err
returns-in-Err c = inr ((λ p. not_refused (file_checks c.args.file.now) p c.in-Err.ensures), refl)
