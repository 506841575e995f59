-- `novel::convert::none` meets its contract. Assumes nothing.
use mathlib.Core.Path.{refl}
use native.Mathlib.Nat.{le_refl}
use Prim.Native.Nat.{◌/◌}
use Rattle.space.specs.Sizes.{max_word}
use Rattle.lists.specs.All.{IsZero, All-replicate}
use Rattle.novel.proofs.convert.none.Goals as goal

pub returns : goal.returns
returns c = record { zero = All-replicate IsZero (max_word / 2) 0 refl; many = le_refl (max_word / 2) }
