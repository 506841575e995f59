use mathlib.Core.Path.{sym, ap, ◌∙◌}
use Prim.Native.Nat.{ℕ, ◌-◌}
use native.Mathlib.Omega.{arith}
use Rattle.proximity.specs.declared.Line.TheVariants.{Column}
use Rattle.prover.proofs.LineOrder.{at_row, at-column}
use Rattle.prover.proofs.write.line_at.Goals as goal

pub returns-then-i-rows : goal.returns-then-i-rows
returns-then-i-rows c = let a = c.args in sym (at_row a.k a.i (omega (arith, c.rows-rows.ensures)))

pub returns : goal.returns
returns c = let a = c.args in
    ap (λ (n : ℕ). Column (a.i - n)) c.rows-rows.ensures ∙ sym (at-column a.k a.i (omega (arith, c.rows-rows.ensures)))
