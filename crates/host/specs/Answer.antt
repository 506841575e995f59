-- The answers of the calls from C, as numbers. Definitions only.
use Rattle.std.specs.Prelude.{◌≡◌, ◌⊎◌, Result, Ok, Err, List, ℕ}
use Rattle.lists.specs.Answers.{Passes, Refuses}
use Rattle.refusals.specs.Refusal.{number, answer_of}
use Rattle.refusals.specs.declared.Refusal.{Refusal}
use Rattle.proximity.specs.Dim.{R}
use Rattle.verifier.specs.declared.Rejection.{Rejection}
use Rattle.verifier.specs.declared.Verdict.{Verdict}
use Rattle.verifier.specs.declared.Verdict.TheVariants.{Accept, Reject}
use Rattle.stored.specs.Check.{AnsweredFile}
use Rattle.stored.specs.File.{dim_in}
use Rattle.stored.specs.Reader.{file_checks}
use Rattle.filing.specs.Convert.{converted_end, shift_checks, Converted}

-- 0 for accept, 100 for reject, else the number of the refusal
abbrev pub code_of : Result Verdict Refusal → ℕ
code_of (Ok (Accept n)) = 0
code_of (Ok (Reject r)) = 100
code_of (Err e) = number e

-- what the lent number of reads holds afterwards: a refused call leaves what it held before
abbrev pub reads_after : ℕ → Result Verdict Refusal → ℕ
reads_after before (Ok (Accept n)) = n
reads_after before (Ok (Reject r)) = r.reads
reads_after before (Err e) = before

-- the checker for one coin over the file f: the answer r, and the lent number of reads before and after
abbrev pub HostAnswer : List ℕ → ℕ → ℕ → ℕ → ℕ → Type 0
HostAnswer f coin before after r = (v : Result Verdict Refusal) × AnsweredFile f coin v × (r ≡ code_of v) × (after ≡ reads_after before v)

-- what three lent numbers hold afterwards, of reads, degree and dimension: a reject tells them, with accept the last two are 0, and a refused call leaves them
abbrev pub told_after : Rejection → Result Verdict Refusal → Rejection
told_after before (Ok (Accept n)) = record { reads = n; degree = 0; dimension = 0 }
told_after before (Ok (Reject r)) = r
told_after before (Err e) = before

-- the checker for one coin with the degree: the answer r, and the lent numbers before and after
abbrev pub HostDegree : List ℕ → ℕ → Rejection → Rejection → ℕ → Type 0
HostDegree f coin before after r = (v : Result Verdict Refusal) × AnsweredFile f coin v × (r ≡ code_of v) × (after ≡ told_after before v)

-- the three lent numbers
abbrev pub triple : ℕ → ℕ → ℕ → Rejection
triple n g m = record { reads = n; degree = g; dimension = m }

-- R of an accepted file's dimension, and 0 for a refused one
abbrev pub CoinBits : List ℕ → ℕ → Type 0
CoinBits f r = (Passes (file_checks f) × (r ≡ R (dim_in f))) ⊎ ((Passes (file_checks f) → ⊥) × (r ≡ 0))

-- ---- the converter

-- 0 or the number of the refusal, and the lent output before and after
abbrev pub HostConverted : List ℕ → List ℕ → List ℕ → ℕ → Type 0
HostConverted f old new r = (o : Result (Unit {0}) Refusal) × Converted f old new o × (r ≡ answer_of o)

-- 0 and the length of the file in the other form, or the number of the refusal; then the lent number is as it came
abbrev pub HostLength : List ℕ → ℕ → ℕ → ℕ → Type 0
HostLength f before after r = (Passes (shift_checks f) × (r ≡ 0) × (after ≡ converted_end f)) ⊎ (Refuses (shift_checks f) r × (after ≡ before))
