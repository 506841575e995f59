use mathlib.Core.Path.{refl}
use Rattle.report.specs.Report.{no_report}
use Rattle.report.specs.Total.{total_of}
use Rattle.report.proofs.start.Goals as goal

pub returns : goal.returns
unfolding no_report total_of
returns c = refl
