-- `proximity::lines::line_of` meets its contract, by the coin's bit 0.
use mathlib.Core.Path.{sym, ap, ◌∙◌}
use Prim.Native.Nat.{ℕ, ◌/◌, ◌%◌}
use native.Mathlib.Omega.{arith}
use Rattle.proximity.specs.declared.Line.TheVariants.{Row, Column}
use Rattle.proximity.specs.Lines.{even_row, odd_column}
use Rattle.proximity.proofs.lines.line_of.Goals as goal

-- GONE rem-t7 : tie.Need-nonzero-rem-t7
-- rem-t7 c = omega (arith, c.rows.ensures, pow_pos (col_dim c.before.before.args.k))
pub returns-then-coin-eq0 : goal.returns-then-coin-eq0
returns-then-coin-eq0 c = let a = c.args in
    ap (λ (n : ℕ). Row (a.coin / 2 % n)) c.rows.ensures ∙ sym (even_row a.k a.coin (omega arith)).0

-- GONE rem-t9 : tie.Need-nonzero-rem-t9
-- rem-t9 c = omega (arith, c.columns.ensures, pow_pos (half c.before.before.args.k + 2))
pub returns : goal.returns
returns c = let a = c.args in
    ap (λ (n : ℕ). Column (a.coin / 2 % n)) c.columns.ensures ∙ sym (odd_column a.k a.coin (omega arith)).0
