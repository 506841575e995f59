-- `proximity::lines::line_dimension` meets its contract, by the line's cases.
use mathlib.Core.Path.{sym, ap}
use Rattle.proximity.specs.ByLine.{line_dim}
use Rattle.proximity.proofs.lines.line_dimension.Goals as goal

pub returns-in-Row : goal.returns-in-Row
returns-in-Row c = sym (ap (line_dim c.args.k) c.in-Row.is)

pub returns-in-Column : goal.returns-in-Column
returns-in-Column c = sym (ap (line_dim c.args.k) c.in-Column.is)
