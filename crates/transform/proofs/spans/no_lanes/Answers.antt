use mathlib.Core.Path.{refl}
use Rattle.lists.specs.All.{zeros-at}
use Rattle.space.specs.Sizes.{lane_cells}
use Rattle.transform.proofs.spans.no_lanes.Goals as goal

pub returns : goal.returns
returns c = record { count = refl; each = λ p. zeros-at lane_cells p }
