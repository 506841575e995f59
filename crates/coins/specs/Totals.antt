-- What the counter over all coins of a stored file answers: the length of the file, the file's own checks, and then the totals. Definitions only.
use Rattle.std.specs.Prelude.{◌≡◌, Option, Some, None, Result, Ok, List, ◌∷◌, ℕ, zero, suc, ◌^◌, ◌<◌, max, length}
use Rattle.lists.specs.Answers.{Checks}
use Rattle.refusals.specs.Gives.{Gives}
use Rattle.refusals.specs.declared.Refusal.{Refusal}
use Rattle.field.specs.Symbols.{symbols}
use Rattle.correction.specs.Differences.{differences}
use Rattle.correction.specs.Near.{NoneNear}
use Rattle.proximity.specs.Dim.{R}
use Rattle.verifier.specs.Checker.{reads_of}
use Rattle.verifier.specs.declared.Rejection.{Rejection}
use Rattle.verifier.specs.declared.Verdict.TheVariants.{Reject}
use Rattle.stored.specs.Check.{AnsweredFile}
use Rattle.stored.specs.File.{file_limit, modulus_in, dim_in, basis_in, word_in}
use Rattle.stored.specs.Reader.{file_checks}
use Rattle.coins.specs.Counted.{Counted}
use Rattle.coins.specs.declared.Counts.{Counts}

-- ---- the coins

-- the checker's answer on the file at this coin is reject
abbrev pub Rejects : List ℕ → ℕ → Type 0
Rejects f coin = (r : Rejection) × AnsweredFile f coin (Ok (Reject r))

-- the largest of g 0 to g (n - 1), and 0 where n is 0
abbrev pub most_of : ℕ → (ℕ → ℕ) → ℕ
most_of zero g = 0
most_of (suc n) g = max (most_of n g) (g n)

-- what all coins of the file tell: the dimension, 2^R, the rejecting coins, and the most symbols that a coin read
pub record Swept (f : List ℕ) (k coins rejects most : ℕ) : Type 0 where
  pub dimension : k ≡ dim_in f
  pub all : coins ≡ 2 ^ R (dim_in f)
  pub rejecting : Counted (Rejects f) (2 ^ R (dim_in f)) rejects
  pub reads : most ≡ most_of (2 ^ R (dim_in f)) (reads_of (dim_in f))

-- ---- the word

-- c is the near codeword of w, and n the number of its differences; the shift changes no codeword (`near_shift`), so none is named
pub record OffBy (m : ℕ) (bs w : List ℕ) (n : ℕ) (c : List ℕ) : Type 0 where
  pub near : Rattle.correction.specs.Near.Near (symbols m) (length bs) bs w c
  pub count : n ≡ differences w c

-- how far a word is from the codewords, by its correction: the number of differences that it finds, or none where it refuses with 13
abbrev pub Off : ℕ → List ℕ → List ℕ → Option ℕ → Type 0
Off m bs w (Some n) = (c : List ℕ) × OffBy m bs w n c
Off m bs w None = NoneNear (symbols m) (length bs) bs w

-- ---- the answer

-- 6, and then the file's checks in their order
abbrev pub count_checks : List ℕ → Checks
count_checks f = (6, file_limit < length f) ∷ file_checks f

-- what all coins tell, and how far the word is off
pub record Totals (f : List ℕ) (r : Counts) : Type 0 where
  pub swept : Swept f r.sweep.k r.sweep.coins r.sweep.rejects r.sweep.most
  pub off : Off (modulus_in f) (basis_in f) (word_in f) r.off

-- the totals; or the first check that refuses
abbrev pub Told : List ℕ → Result Counts Refusal → Type 0
Told f = Gives (count_checks f) (Totals f)
