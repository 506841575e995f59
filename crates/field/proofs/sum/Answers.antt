use mathlib.Core.Path.{refl}
use Rattle.field.specs.Binary.{◌⊕◌}
use Rattle.field.proofs.sum.Goals as goal

pub returns : goal.returns
unfolding ◌⊕◌
returns c = (c.in_ok-check_pair.ensures.0, refl)
