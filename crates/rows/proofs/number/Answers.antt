use mathlib.Core.Path.{sym}
use native.Mathlib.Omega.{arith}
use Rattle.rows.proofs.Stores.{number-before, number-after}
use Rattle.rows.proofs.number.Goals as goal

pub returns-then-j-slot : goal.returns-then-j-slot
returns-then-j-slot c = sym (number-before c.args.r c.args.j (omega arith))

pub returns : goal.returns
returns c = sym (number-after c.args.r c.args.j (omega arith))
