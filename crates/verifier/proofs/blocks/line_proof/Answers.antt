use mathlib.Core.Path.{ap₂, ◌∙◌}
use Prim.Native.Nat.{ℕ, ◌-◌, ◌≤◌}
use native.Mathlib.Omega.{arith}
use lib.ListN.{length, take, drop}
use Rattle.proximity.specs.LineLaws.{line_proof-fits, line_proof-cut}
use Rattle.verifier.proofs.blocks.line_proof.Goals.{Start, After-line_proof_end-end}
use Rattle.verifier.proofs.blocks.line_proof.Goals as goal

-- the proof of the line lies in the proof
module _ (c : goal.After-line_proof_end-end) where
  abbrev start : goal.Start
  start = (goal.at.After-line_proof_end-end c).Start

  fits : c.line_proof_end-end.result ≤ length start.args.proof.now
  fits = omega (arith, c.line_proof_end-end.ensures, line_proof-fits start.args.k start.requires.0 start.args.line start.requires.3, start.requires.2)

  ordered : c.line_proof_at-at.result ≤ c.line_proof_end-end.result
  ordered = omega (arith, c.line_proof_end-end.ensures, c.line_proof_at-at.ensures)

pub offset_bounds-proof-at : goal.offset_bounds-proof-at
offset_bounds-proof-at c = omega (arith, fits c, ordered c, (start c).well_formed)

pub slice_bounds-result-count : goal.slice_bounds-result-count
slice_bounds-result-count c = ordered c

pub slice_bounds-result-end : goal.slice_bounds-result-end
slice_bounds-result-end c = fits (goal.at.slice_bounds-result-end c).After-line_proof_end-end

pub returns : goal.returns
returns c = let e = (goal.at.returns c).After-line_proof_end-end in
    let a = (start e).args in
    ap₂ (λ (x y : ℕ). take (x - y) (drop y a.proof.now)) e.line_proof_end-end.ensures e.line_proof_at-at.ensures ∙ line_proof-cut a.k a.proof.now a.line
