-- What the report says of the file at the front of a stream. Definitions only.
use Rattle.std.specs.Prelude.{◌≡◌, Result, List, [], ◌∷◌, ◌++◌, ℕ, ◌<◌, take}
use Rattle.lists.specs.Answers.{Checks}
use Rattle.refusals.specs.Gives.{Gives}
use Rattle.refusals.specs.declared.Refusal.{Refusal}
use Rattle.stored.specs.File.{file_limit, form_in, degree_in, dim_in, end_in}
use Rattle.stored.specs.Reader.{setting_checks, symbol_checks}
use Rattle.coins.specs.Totals.{Swept}
use Rattle.report.specs.declared.Entry.{Entry}

-- 6, of a setting whose file would have n bytes: it would exceed the limit
abbrev pub size_checks : ℕ → Checks
size_checks n = (6, file_limit < n) ∷ []

-- the setting record (11, 1, 2, 3, 11, 4, 5), then 6, then the word's record and the proof's; bytes that follow are the next file's
abbrev pub entry_checks : List ℕ → Checks
entry_checks s = setting_checks s ++ (size_checks (end_in s) ++ symbol_checks (form_in s) s (dim_in s) (degree_in s))

-- the file at the front of the stream s, where it is accepted
abbrev pub file_in : List ℕ → List ℕ
file_in s = take (end_in s) s

-- what all coins of the file tell, and where it ends; or the first check that refuses
abbrev pub Told : List ℕ → Result Entry Refusal → Type 0
Told s = Gives (entry_checks s) (λ e. Swept (file_in s) e.sweep.k e.sweep.coins e.sweep.rejects e.sweep.most × (e.end ≡ end_in s))
