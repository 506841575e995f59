use mathlib.Core.Path.{refl}
use Rattle.lists.specs.All.{zeros-at}
use Rattle.transform.proofs.blocks.no_shift.Goals as goal

pub returns : goal.returns
returns c = record { count = refl; each = λ p. zeros-at 16 p }
