-- The report on a whole stream: an entry for each file, up to the first that is refused, and at most 200; and the total of them. Definitions only.
use Rattle.std.specs.Prelude.{◌≡◌, ◌⊎◌, Some, None, Result, Err, MatchResult, List, [], ◌∷◌, ℕ, zero, suc, ◌+◌, ◌*◌, ◌^◌, ◌≤◌, ◌<◌, length, drop}
use Rattle.report.specs.Entry.{Told}
use Rattle.report.specs.Total.{total_of, with_entry}
use Rattle.refusals.specs.declared.Refusal.{Refusal}
use Rattle.report.specs.declared.Entry.{Entry}
use Rattle.report.specs.declared.Report.{Report}
use Rattle.report.specs.declared.Total.{Total}

-- how many files of a stream are read
abbrev pub most_files : ℕ
most_files = 200

-- no file has more coins
abbrev pub most_coins : ℕ
most_coins = 2 ^ 25

-- ---- the report on a stream

-- the entries of at most n files from the front of s on: none where the stream has ended; a refused file is the last; past an accepted one the
-- next begins
abbrev pub Entries : ℕ → List ℕ → List (Result Entry Refusal) → Type 0
Entries zero s es = es ≡ []
Entries (suc n) [] es = es ≡ []
Entries (suc n) (b ∷ s) es =
    (e : Result Entry Refusal) × (rest : List (Result Entry Refusal)) × Told (b ∷ s) e × (es ≡ e ∷ rest)
    × MatchResult e (λ x. Entries n (drop x.end (b ∷ s)) rest) (λ r. rest ≡ [])

abbrev pub Reported : List ℕ → List (Result Entry Refusal) → Total → Type 0
Reported s es total = Entries most_files s es × (total ≡ total_of es)

-- ---- one file after the other

-- the total t is no more than n files can have
pub record Fair (n : ℕ) (t : Total) : Type 0 where
  pub files : t.files ≤ n
  pub coins : t.coins ≤ n * most_coins
  pub rejects : t.rejects ≤ n * most_coins

-- one more file is read: the latest was not refused, there is room for one, and the total is one that so many files can have
pub record GoesOn (p : Report) : Type 0 where
  pub accepted : (r : Refusal) → p.latest ≡ Some (Err r) → ⊥
  pub room : p.read < most_files
  pub fair : Fair p.read p.total

-- the report before the first file
unfoldable pub no_report : Report
no_report = record { read = 0; latest = None; total = total_of [] }

-- r is p with one file more, at the front of s
pub record Added (s : List ℕ) (p r : Report) : Type 0 where
  pub read : r.read ≡ p.read + 1
  pub entry : Result Entry Refusal
  pub latest : r.latest ≡ Some entry
  pub told : Told s entry
  pub total : r.total ≡ with_entry p.total entry

-- where p goes on and there are bytes; else the report is as it came
abbrev pub Next : List ℕ → Report → Report → Type 0
Next s p r = (GoesOn p × (0 < length s) × Added s p r) ⊎ ((GoesOn p × (0 < length s) → ⊥) × (r ≡ p))
