-- `proximity::lines::line_proof_end` meets its contract: the proof of a line lies inside the proof.
use mathlib.Core.Path.{◌≡◌, ap, ap₂, ◌∙◌}
use Prim.Native.Nat.{◌+◌}
use native.Mathlib.Omega.{arith}
use Rattle.proximity.specs.Dim.{S}
use Rattle.proximity.specs.ByLine.{proof_end}
use Rattle.proximity.specs.LineLaws.{S-small, line_falls, line_proof-fits}
use Rattle.proximity.proofs.lines.line_proof_end.Goals.{Start, After-proof_length}
use Rattle.proximity.proofs.lines.line_proof_end.Goals as goal

pub proof_length-requires : goal.proof_length-requires
proof_length-requires c = let a = (goal.at.proof_length-requires c).Start in omega (arith, c.line_dimension.ensures, line_falls a.args.k a.requires.0 a.args.line)

sum : (c : goal.After-proof_length) → c.line_proof_at.result + c.proof_length.result ≡ proof_end c.args.k c.args.line
sum c = ap₂ ◌+◌ c.line_proof_at.ensures (c.proof_length.ensures ∙ ap S c.line_dimension.ensures)

pub overflow_add-result : goal.overflow_add-result
overflow_add-result c = let a = (goal.at.overflow_add-result c).Start in
    omega (arith, sum c, line_proof-fits a.args.k a.requires.0 a.args.line a.requires.2, S-small a.args.k (omega arith))

pub returns : goal.returns
returns c = sum c
