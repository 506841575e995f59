-- `proximity::spaces::line_images` meets its contract, by the line's cases.
use mathlib.Core.Path.{sym, ap, ◌∙◌}
use Rattle.proximity.specs.LineImages.{line_images}
use Rattle.proximity.specs.ImageLaws.{line_table}
use Rattle.proximity.proofs.spaces.line_images.Goals.{Start}
use Rattle.proximity.proofs.spaces.line_images.Goals as goal

pub returns-in-Row : goal.returns-in-Row
returns-in-Row c = let s = (goal.at.returns-in-Row c).Start in
    line_table s.args.k s.requires.0 s.requires.1 s.args.images.now s.args.line
    (c.row_images.ensures ∙ sym (ap (line_images s.args.k s.args.images.now) c.in-Row.is))

pub returns-in-Column : goal.returns-in-Column
returns-in-Column c = let s = (goal.at.returns-in-Column c).Start in
    line_table s.args.k s.requires.0 s.requires.1 s.args.images.now s.args.line
    (c.upper_images.ensures ∙ sym (ap (line_images s.args.k s.args.images.now) c.in-Column.is))
