use mathlib.Core.Path.{sym, ap, ◌∙◌, subst}
use Prim.Native.Nat.{◌^◌, ◌<◌}
use native.Mathlib.Omega.{arith}
use lib.ListN.{length}
use Rattle.proximity.specs.Dim.{S}
use Rattle.proximity.specs.Reads.{Inside}
use Rattle.proximity.specs.Verifier.{read_at}
use Rattle.verifier.specs.Parts.{joined}
use Rattle.poly.specs.Blocks.{eighths}
use Rattle.verifier.proofs.blocks.symbol_at.Goals.{Start, In-InProof}
use Rattle.verifier.proofs.blocks.symbol_at.Goals as goal

pub symbol-requires : goal.symbol-requires
symbol-requires c = let s = (goal.at.symbol-requires c).Start in
    let p = s.requires in
    let w : c.in-InWord.at < 2 ^ s.args.k = subst (Inside (2 ^ s.args.k) (S s.args.k)) c.in-InWord.is p.3 in
    (p.0.parts, p.0.eighth, omega (arith, p.2), omega (arith, eighths s.args.k p.1))

-- in the proof
module _ (c : goal.In-InProof) where
  abbrev start : goal.Start
  start = (goal.at.In-InProof c).Start

  inside : c.in-InProof.at < length start.args.proof.now
  inside =
      let h : c.in-InProof.at < S start.args.k = subst (Inside (2 ^ start.args.k) (S start.args.k)) c.in-InProof.is start.requires.3 in
      omega (arith, start.requires.0.proof)

pub offset_bounds-proof-at : goal.offset_bounds-proof-at
offset_bounds-proof-at c = omega (arith, (start c).well_formed, inside c)

pub bounds-proof-at : goal.bounds-proof-at
bounds-proof-at c = inside (goal.at.bounds-proof-at c).In-InProof

pub returns-in-InWord : goal.returns-in-InWord
returns-in-InWord c = let a = c.args in
    c.symbol.ensures ∙ sym (ap (read_at (joined a.near.now a.far.now a.slot) a.proof.now) c.in-InWord.is)

pub returns-in-InProof : goal.returns-in-InProof
returns-in-InProof c = let t = (goal.at.returns-in-InProof c).In-InProof in
    let a = (start t).args in
    sym (ap (read_at (joined a.near.now a.far.now a.slot) a.proof.now) t.in-InProof.is)
