-- What the checker over stored bytes answers: the file's checks, then 8, and then the verdict on the word and the proof of the file. Definitions only.
use Rattle.std.specs.Prelude.{Bool, Result, List, [], ◌∷◌, ◌++◌, ℕ, ◌+◌, ◌^◌, ◌≤◌, length}
use Rattle.lists.specs.Answers.{Checks}
use Rattle.field.specs.Symbols.{symbols}
use Rattle.space.specs.Sizes.{max_dim}
use Rattle.proximity.specs.Dim.{S, R}
use Rattle.verifier.specs.Checker.{Answered}
use Rattle.refusals.specs.declared.Refusal.{Refusal}
use Rattle.verifier.specs.declared.Verdict.{Verdict}
use Rattle.stored.specs.Bytes.{packed_size}
use Rattle.stored.specs.File.{modulus_in, dim_in, basis_in, word_in, proof_in}
use Rattle.stored.specs.Reader.{file_checks}

-- the file's checks, then 8
abbrev pub coin_checks : List ℕ → ℕ → Checks
coin_checks f coin = file_checks f ++ ((8, 2 ^ R (dim_in f) ≤ coin) ∷ [])

abbrev pub AnsweredFile : List ℕ → ℕ → Result Verdict Refusal → Type 0
AnsweredFile f coin = Answered (coin_checks f coin) (symbols (modulus_in f)) (dim_in f) (basis_in f) (word_in f) (proof_in f) coin

-- ---- past the checks

-- the symbols of a word and a proof of dimension k stand in the bytes f at the two places, one byte each (true) or two
pub record Laid (t : Bool) (f : List ℕ) (k word proof : ℕ) : Type 0 where
  pub few : k ≤ max_dim
  pub word_fits : word + packed_size t (2 ^ k) ≤ length f
  pub proof-fits : proof + packed_size t (S k) ≤ length f
