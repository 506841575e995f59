use Rattle.std.proofs.lemmas.Result.{err_from_is_err_and}
use Rattle.refusals.specs.Gives.{number_positive}
use Rattle.refusals.specs.Refusal.{number}
use Rattle.delivery.specs.MessageLaws.{setting_refused, rest-answer}
use Rattle.delivery.proofs.checks.check.Goals.{In_ok-setting}
use Rattle.delivery.proofs.checks.check.Goals as goal

pub returns-in_err-setting : goal.returns-in_err-setting
returns-in_err-setting c = let out = err_from_is_err_and c.from_residual.result c.from_residual.ensures.1 in
    rw (out.1, out.2) (setting_refused c.args.message.now c.args.room c.in_err-setting.field-0.0 c.in_err-setting.ensures)

pub returns-in_err-check_rest : goal.returns-in_err-check_rest
returns-in_err-check_rest c = let e = c.in_err-check_rest.field-0.0 in
    let out = err_from_is_err_and c.from_residual-in_err-check_rest.result c.from_residual-in_err-check_rest.ensures.1 in
    rw (out.1, out.2) (number_positive e, rest-answer c.args.message.now c.args.room (number e) c.in_ok-setting.ensures.0 c.in_err-check_rest.ensures)

pub returns : goal.returns
returns c = let s = (goal.at.returns c).In_ok-setting in
    (rest-answer c.args.message.now c.args.room 0 s.in_ok-setting.ensures.0 c.in_ok-check_rest.ensures, s.in_ok-setting.ensures.1)
