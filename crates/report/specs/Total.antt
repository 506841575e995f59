-- The total of a report. Definitions only.
use Rattle.std.specs.Prelude.{Result, Ok, Err, MatchResult, List, [], ◌∷◌, ℕ, ◌+◌, ◌^◌, ◌<◌}
use Rattle.refusals.specs.declared.Refusal.{Refusal}
use Rattle.report.specs.declared.Entry.{Entry}
use Rattle.report.specs.declared.Total.{Total}

-- the sum of g over the accepted files
abbrev pub sum_of : (Entry → ℕ) → List (Result Entry Refusal) → ℕ
sum_of g [] = 0
sum_of g (Ok e ∷ es) = g e + sum_of g es
sum_of g (Err r ∷ es) = sum_of g es

-- the accepted files, the sum of their coins and the sum of their rejects
unfoldable pub total_of : List (Result Entry Refusal) → Total
total_of es = record { files = sum_of (λ e. 1) es; coins = sum_of (λ e. e.sweep.coins) es; rejects = sum_of (λ e. e.sweep.rejects) es }

-- a total with one file more
abbrev pub with_entry : Total → Result Entry Refusal → Total
with_entry t (Ok e) = record { files = t.files + 1; coins = t.coins + e.sweep.coins; rejects = t.rejects + e.sweep.rejects }
with_entry t (Err r) = t

-- each sum of two of these numbers fits
abbrev pub Countable : Total → Result Entry Refusal → Type 0
Countable t file =
    (t.files < 2 ^ 63) × (t.coins < 2 ^ 63) × (t.rejects < 2 ^ 63) × MatchResult file (λ e. (e.sweep.coins < 2 ^ 63) × (e.sweep.rejects < 2 ^ 63)) (λ r. Unit {0})
