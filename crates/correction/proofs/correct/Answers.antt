-- `correction::correct` meets its contract: a case for each of its ways out.
use mathlib.Core.Path.{ap, ◌∙◌}
use Rattle.lists.specs.Calls.{zeros}
use Rattle.std.proofs.lemmas.Result.{err_from_is_err_and}
use Rattle.correction.proofs.CallLaws.{setting_told, length_told, in_places, told_of}
use Rattle.correction.proofs.correct.Goals as goal

pub returns-in_err-s : goal.returns-in_err-s
returns-in_err-s c = let a = c.args in
    let p = err_from_is_err_and c.from_residual.result c.from_residual.ensures.1 in
    rw (p.1, p.2) (setting_told a.modulus a.basis.now a.shift a.word.now a.corrected.now a.scratch.now _ c.in_err-s.ensures)

pub returns-in_err-check_lengths : goal.returns-in_err-check_lengths
returns-in_err-check_lengths c = let a = c.args in
    let p = err_from_is_err_and c.from_residual-in_err-check_lengths.result c.from_residual-in_err-check_lengths.ensures.1 in
    rw (p.1, p.2) (length_told a.modulus a.basis.now a.shift a.word.now a.corrected.now a.scratch.now _ c.in_ok-s.ensures.0 c.in_err-check_lengths.ensures)

pub correct_with-found-requires : goal.correct_with-found-requires
correct_with-found-requires c = let a = c.args in
    in_places a.modulus a.basis.now a.shift a.word.now a.corrected.now a.scratch.now c.in_ok-s.s c.in_ok-s.ensures c.in_ok-check_lengths.ensures

pub returns : goal.returns
returns c = let a = c.args in
    told_of a.modulus a.basis.now a.shift a.word.now a.corrected.now a.scratch.now c.in_ok-s.s c.in_ok-s.ensures c.in_ok-check_lengths.ensures c.correct_with-found.new.corrected
    c.clear.new.values (c.clear.ensures ∙ ap zeros c.correct_with-found.auto.scratch) c.correct_with-found.result c.correct_with-found.ensures
