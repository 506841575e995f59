use mathlib.Core.Path.{◌∙◌}
use Prim.Native.Nat.{◌^◌}
use Rattle.std.proofs.Common.{rules}
use Rattle.lists.specs.All.{Below}
use Rattle.lists.specs.Decides.{decides_true}
use Rattle.field.specs.Binary.{degree}
use Rattle.codec.proofs.WordLaws.{tested_code}
use Rattle.prover.proofs.CallLaws.{proving, proof_of_lem}
use Rattle.prover.proofs.prove_with.Goals as goal

pub prove_in-requires : goal.prove_in-requires
prove_in-requires c = let r = c.requires.ready in
    let w = c.args.word.now in
    (proving r w (tested_code r w c.is_codeword.ensures c.if-not-is_codeword.false), c.requires.size, search rules)

pub returns : goal.returns
returns c = let w = c.args.word.now in
    let p = c.prove_in in (
      decides_true (Below (2 ^ degree c.args.s.field.modulus) w) c.all_symbols.ensures c.if-not-all_symbols.false,
      λ bs r. proof_of_lem r w (tested_code r w c.is_codeword.ensures c.if-not-is_codeword.false) p.new.proof (p.auto.proof ∙ c.requires.size) p.ensures,
    )
