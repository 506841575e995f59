-- `evaluation::spread` meets its contract. Assumes nothing.
use Rattle.std.proofs.Common.{sym, ◌∙◌, ext_get_or, length, arith}
use Rattle.evaluation.specs.Words.{spread_of}
use Rattle.evaluation.proofs.Spreading.{length_spread, get_or_spread}
use Rattle.evaluation.proofs.spread.Goals as goal

pub returns : goal.returns
returns c = let n = length c.args.to.now in
    let d = c.args.from.now in
    ext_get_or 0 c.loop-p.to (spread_of n d) (c.loop-p.auto.to ∙ sym (length_spread n d))
    (λ k h. c.loop-p.invariant k (omega arith) ∙ sym (get_or_spread n d k (omega arith)))
