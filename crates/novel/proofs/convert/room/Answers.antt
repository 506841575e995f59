-- `novel::convert::room` meets its contract. Assumes nothing.
use mathlib.Core.Path.{refl}
use Rattle.novel.specs.Scales.{zero_room}
use Rattle.novel.proofs.convert.room.Goals as goal

pub returns : goal.returns
unfolding zero_room
returns c = refl
