use mathlib.Core.Path.{subst}
use mathlib.Core.List.{List}
use Prim.Native.Nat.{ℕ}
use Rattle.field.specs.Symbols.{symbols}
use Rattle.verifier.specs.Checker.{OnCoin}
use Rattle.verifier.proofs.Joins.{plain-lent, plain-joined}
use Rattle.verifier.proofs.parts.check_word.Goals.{Start}
use Rattle.verifier.proofs.parts.check_word.Goals as goal

pub check_parts-requires : goal.check_parts-requires
check_parts-requires c = let s = (goal.at.check_parts-requires c).Start in
    let a = s.args in
    (s.requires.0, plain-lent a.k s.requires.0.low a.word.now s.requires.1 c.first_block.result.now c.other_blocks.result.now c.first_block.ensures c.other_blocks.ensures a.proof.now s.requires.2)

pub returns : goal.returns
returns c = λ b B I.
    let s = (goal.at.returns c).Start in
    let a = s.args in
    subst (λ (w : List ℕ). OnCoin (symbols a.f.modulus) a.k b w a.proof.now a.coin c.check_parts.result)
    (plain-joined a.k s.requires.0.low a.word.now s.requires.1 c.first_block.result.now c.other_blocks.result.now c.first_block.ensures c.other_blocks.ensures)
    (c.check_parts.ensures b B I)
