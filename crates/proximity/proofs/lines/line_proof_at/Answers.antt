-- `proximity::lines::line_proof_at` meets its contract, by the line's cases.
-- a row
use mathlib.Core.Path.{◌≡◌, refl, sym, ap, ◌∙◌, subst}
use Prim.Native.Nat.{ℕ, ◌+◌, ◌^◌, ◌<◌}
use Rattle.proximity.specs.Dim.{half, row_dim, col_dim, S}
use Rattle.proximity.specs.ByLine.{InRange, proof_at}
use Rattle.proximity.proofs.Laws.{row_fits, row-at-fits, row_at, rows_fit, after_rows_fits, col_fits, col_at-fits, col_at}
use Rattle.proximity.proofs.lines.line_proof_at.Goals.{Start, In-Row, After-rows}
use Rattle.proximity.proofs.lines.line_proof_at.Goals as goal

module _ (c : goal.In-Row) where
  abbrev start : goal.Start
  start = (goal.at.In-Row c).Start

  abbrev k : ℕ
  k = start.args.k

  abbrev r : ℕ
  r = c.in-Row.r

  abbrev n : ℕ
  n = c.proof_length-row.result

  hr : r < 2 ^ col_dim k
  hr = subst (InRange k) c.in-Row.is start.requires.2

  en : n ≡ S (row_dim k)
  en = c.proof_length-row.ensures

pub overflow_mul-result : goal.overflow_mul-result
overflow_mul-result c = record { fits = row_fits (k c) (r c) (n c) (start c).requires.0 (start c).requires.1 (hr c) (en c) }

pub overflow_add-result : goal.overflow_add-result
overflow_add-result c = record { fits = row-at-fits (k c) (r c) (n c) (start c).requires.0 (start c).requires.1 (hr c) (en c) }

-- a column
module _ (c : goal.After-rows) where
  abbrev first : goal.Start
  first = (goal.at.After-rows c).Start

  abbrev k' : ℕ
  k' = first.args.k

  abbrev a : ℕ
  a = c.in-Column.a

  abbrev n' : ℕ
  n' = c.proof_length-row.result

  ha : a < 2 ^ (half k' + 2)
  ha = subst (InRange k') c.in-Column.is first.requires.2

  en' : n' ≡ S (row_dim k')
  en' = c.proof_length-row.ensures

pub overflow_mul-result-in-Column : goal.overflow_mul-result-in-Column
overflow_mul-result-in-Column c = record { fits = rows_fit (k' c) c.rows.result (a c) (n' c) (S (col_dim (k' c))) (first c).requires.0 (first c).requires.1 (ha c) c.rows.ensures (en' c) refl }

pub overflow_add-result-in-Column : goal.overflow_add-result-in-Column
overflow_add-result-in-Column c = record { fits = after_rows_fits (k' c) c.rows.result (a c) (n' c) (S (col_dim (k' c))) (first c).requires.0 (first c).requires.1 (ha c) c.rows.ensures (en' c) refl }

pub overflow_mul-result-in-Column-2 : goal.overflow_mul-result-in-Column-2
overflow_mul-result-in-Column-2 c = let d = (goal.at.overflow_mul-result-in-Column-2 c).After-rows in
    record { fits = col_fits (k' d) d.rows.result (a d) (n' d) c.proof_length.result (first d).requires.0 (first d).requires.1 (ha d) d.rows.ensures (en' d) c.proof_length.ensures }

pub overflow_add-result-in-Column-2 : goal.overflow_add-result-in-Column-2
overflow_add-result-in-Column-2 c = let d = (goal.at.overflow_add-result-in-Column-2 c).After-rows in
    record { fits = col_at-fits (k' d) d.rows.result (a d) (n' d) c.proof_length.result (first d).requires.0 (first d).requires.1 (ha d) d.rows.ensures (en' d) c.proof_length.ensures }

pub returns-in-Row : goal.returns-in-Row
returns-in-Row c = row_at (k c) (r c) (n c) (start c).requires.0 (start c).requires.1 (hr c) (en c) ∙ sym (ap (proof_at (k c)) c.in-Row.is)

pub returns-in-Column : goal.returns-in-Column
returns-in-Column c = let d = (goal.at.returns-in-Column c).After-rows in
    col_at (k' d) d.rows.result (a d) (n' d) c.proof_length.result (first d).requires.0 (first d).requires.1 (ha d) d.rows.ensures (en' d) c.proof_length.ensures
    ∙ sym (ap (proof_at (k' d)) d.in-Column.is)
