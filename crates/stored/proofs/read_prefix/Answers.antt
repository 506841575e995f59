use mathlib.Core.Path.{◌≡◌}
use Rattle.std.proofs.lemmas.Result.{err_from_is_err_and}
use Rattle.refusals.specs.Gives.{gives_after, gives_first}
use Rattle.stored.proofs.Accepted.{setting_numbered}
use Rattle.stored.specs.File.{form_in, degree_in, dim_in}
use Rattle.stored.specs.Reader.{setting_checks, symbol_checks, read_of}
use Rattle.stored.proofs.read_prefix.Goals as goal

pub returns-in_err-setting : goal.returns-in_err-setting
returns-in_err-setting c = let f = c.args.file.now in
    let e = c.in_err-setting.field-0.0 in
    let out = err_from_is_err_and c.from_residual.result c.from_residual.ensures.1 in
    rw (out.1, out.2) (gives_first (λ r. r ≡ read_of f) (setting_checks f) (symbol_checks (form_in f) f (dim_in f) (degree_in f)) e c.in_err-setting.ensures)

pub returns : goal.returns
returns c = let f = c.args.file.now in
    gives_after (λ r. r ≡ read_of f) (setting_checks f) (symbol_checks (form_in f) f (dim_in f) (degree_in f)) c.read_symbols.result (setting_numbered f) c.in_ok-setting.ensures.0 c.read_symbols.ensures
