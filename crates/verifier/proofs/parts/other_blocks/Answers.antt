use Prim.Native.Nat.{◌/◌, ◌-◌}
use native.Mathlib.Omega.{arith}
use lib.ListN.{length, drop, length-drop}
use lib.Seq.{take_all}
use Rattle.verifier.proofs.parts.other_blocks.Goals as goal

pub returns : goal.returns
returns c = let w = c.args.word.now in take_all (length w - length w / 8) (drop (length w / 8) w) (omega (arith, length-drop (length w / 8) w))
