-- Answers as numbers.
use Rattle.std.specs.Prelude.{Result, Ok, Err, ℕ, ◌+◌, ◌*◌, ◌%◌}
use Rattle.refusals.specs.Refusal.{number}
use Rattle.refusals.specs.declared.Refusal.{Refusal}
use Rattle.verifier.specs.declared.Verdict.{Verdict}
use Rattle.verifier.specs.declared.Verdict.TheVariants.{Accept, Reject}

-- the symbol, or 65536 and the number of the refusal
abbrev pub value_code : Result ℕ Refusal → ℕ
value_code (Ok x) = x
value_code (Err e) = 65536 + number e

-- the reads of an acceptance; 65536, the reads of a rejection, its degree times 2^32 and its dimension times 2^48; 131072 and the number of a refusal
abbrev pub verdict_code : Result Verdict Refusal → ℕ
verdict_code (Ok (Accept n)) = n % 65536
verdict_code (Ok (Reject r)) = 65536 + r.reads % 65536 + r.degree % 65536 * 4294967296 + r.dimension % 65536 * 281474976710656
verdict_code (Err e) = 131072 + number e

-- a count below 65536, or 65536 and the number of the refusal
abbrev pub count_code : Result ℕ Refusal → ℕ
count_code (Ok n) = n % 65536
count_code (Err e) = 65536 + number e
