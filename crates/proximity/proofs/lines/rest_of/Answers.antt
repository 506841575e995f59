-- `proximity::lines::rest_of` meets its contract, by the coin's bit 0.
use mathlib.Core.Path.{sym}
use native.Mathlib.Omega.{arith}
use Rattle.proximity.specs.Lines.{even_row, odd_column}
use Rattle.proximity.proofs.lines.rest_of.Goals as goal

pub returns-then-coin-eq0 : goal.returns-then-coin-eq0
returns-then-coin-eq0 c = sym (even_row c.args.k c.args.coin (omega arith)).1

pub returns : goal.returns
returns c = sym (odd_column c.args.k c.args.coin (omega arith)).1
