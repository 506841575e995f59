use mathlib.Core.Path.{refl}
use Rattle.stored.specs.Bytes.{two_at}
use Rattle.stored.proofs.bytes.two_at.Goals as goal

pub returns : goal.returns
unfolding two_at
returns c = refl
