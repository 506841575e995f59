-- `rows::words::line_word` meets its contract, by the line's cases.
use mathlib.Core.Path.{◌≡◌, sym, subst}
use Prim.Native.Nat.{◌^◌}
use lib.ListN.{length, take}
use Rattle.space.specs.Sizes.{max_line}
use Rattle.proximity.specs.declared.Line.{Line}
use Rattle.proximity.specs.ByLine.{InRange, line_dim, line_word}
use Rattle.rows.proofs.words.line_word.Goals.{Start}
use Rattle.rows.proofs.words.line_word.Goals as goal

pub row_word-requires : goal.row_word-requires
row_word-requires c = let s = (goal.at.row_word-requires c).Start in
    let p = s.requires in
    (p.0, p.1, p.2, p.3, subst (InRange s.args.k) c.in-Row.is p.4)

pub column_word-requires : goal.column_word-requires
column_word-requires c = let s = (goal.at.column_word-requires c).Start in
    let p = s.requires in
    (p.0, p.1, p.2, p.3, subst (InRange s.args.k) c.in-Column.is p.4)

pub returns-in-Row : goal.returns-in-Row
returns-in-Row c = let a = c.args in
    subst (λ (l : Line). (length c.row_word.result ≡ max_line) × (take (2 ^ line_dim a.k l) c.row_word.result ≡ line_word a.k a.word.now a.proof.now l))
    (sym c.in-Row.is) c.row_word.ensures

pub returns-in-Column : goal.returns-in-Column
returns-in-Column c = let a = c.args in
    subst (λ (l : Line). (length c.column_word.result ≡ max_line) × (take (2 ^ line_dim a.k l) c.column_word.result ≡ line_word a.k a.word.now a.proof.now l))
    (sym c.in-Column.is) c.column_word.ensures
