use mathlib.Core.Path.{sym, ◌∙◌}
use mathlib.Core.Logic.{inl}
use Prim.Native.Nat.{◌^◌}
use Rattle.lists.specs.All.{Below}
use Rattle.lists.specs.Decides.{decides_true}
use Rattle.lists.specs.Overwrite.{copy-whole}
use Rattle.field.specs.Binary.{degree}
use Rattle.correction.proofs.NearestLaws.{nearest_self}
use Rattle.correction.proofs.nearest.correct_with.Goals as goal

pub returns-then-is_codeword : goal.returns-then-is_codeword
returns-then-is_codeword c = let word = c.args.word.now in
    let output = c.args.corrected.now in
    inl (
      decides_true (Below (2 ^ degree c.args.s.field.modulus) word) c.all_symbols.ensures c.if-not-all_symbols.false,
      nearest_self {s = c.args.s} word _ c.is_codeword.ensures c.if-is_codeword.true output _ (c.copy.ensures ∙ copy-whole word output (sym c.requires.same)),
    )
