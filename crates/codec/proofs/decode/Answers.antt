-- `codec::decode` meets its contract: a case for each of its ways out.
use mathlib.Core.Path.{ap, ◌∙◌}
use Rattle.lists.specs.Calls.{zeros}
use Rattle.std.proofs.lemmas.Result.{err_from_is_err_and}
use Rattle.codec.proofs.CallLaws.{refused_setting, refused_lengths, with_requires, decode_told}
use Rattle.codec.proofs.decode.Goals as goal

pub returns-in_err-s : goal.returns-in_err-s
returns-in_err-s c = let a = c.args in
    let p = err_from_is_err_and c.from_residual.result c.from_residual.ensures.1 in
    rw (p.1, p.2) (refused_setting a.modulus a.basis.now a.shift _ _ _ _ c.in_err-s.ensures a.coefficients.now a.scratch.now)

pub returns-in_err-check_lengths : goal.returns-in_err-check_lengths
returns-in_err-check_lengths c = let a = c.args in
    let p = err_from_is_err_and c.from_residual-in_err-check_lengths.result c.from_residual-in_err-check_lengths.ensures.1 in
    rw (p.1, p.2) (refused_lengths a.modulus a.basis.now a.shift _ _ _ c.in_ok-s.s c.in_ok-s.ensures _ c.in_err-check_lengths.ensures a.coefficients.now a.scratch.now)

pub decode_with-done-requires : goal.decode_with-done-requires
decode_with-done-requires c = let a = c.args in
    with_requires a.modulus a.basis.now a.shift c.in_ok-s.s c.in_ok-s.ensures a.coefficients.now a.word.now a.scratch.now c.in_ok-check_lengths.ensures

pub returns : goal.returns
returns c = let a = c.args in
    let d = c.decode_with-done in
    decode_told a.modulus a.basis.now a.shift c.in_ok-s.s c.in_ok-s.ensures a.coefficients.now a.word.now a.scratch.now c.in_ok-check_lengths.ensures d.new.coefficients c.clear.new.values
    (c.clear.ensures ∙ ap zeros d.auto.scratch) d.result d.ensures
