-- Answers of the calls on stored files as numbers.
use Rattle.std.specs.Prelude.{◌≡◌, Option, Some, None, Result, Ok, Err, List, ℕ, zero, suc, ◌+◌, get_or}
use Rattle.std.specs.Borrow.{Bor}
use Rattle.refusals.specs.Refusal.{number}
use Rattle.refusals.specs.declared.Refusal.{Refusal}
use Rattle.coins.specs.declared.Counts.{Counts}
use Rattle.coins.specs.declared.Sweep.{Sweep}
use Rattle.report.specs.declared.Entry.{Entry}
use Rattle.stored.specs.Reader.{PartTold}

-- 0, then k, the coins, the rejects and the most reads, by their places; past them the last
abbrev pub one_of : ℕ → Sweep → ℕ → ℕ
one_of zero t last = 0
one_of (suc zero) t last = t.k
one_of (suc (suc zero)) t last = t.coins
one_of (suc (suc (suc zero))) t last = t.rejects
one_of (suc (suc (suc (suc zero)))) t last = t.most
one_of (suc (suc (suc (suc (suc n))))) t last = last

-- the number of a refusal, then zeros
abbrev pub refused_one : ℕ → Refusal → ℕ
refused_one zero e = number e
refused_one (suc n) e = 0

-- the number of differences; 65536 for none
abbrev pub off_code : Option ℕ → ℕ
off_code (Some n) = n
off_code None = 65536

-- the counter's answer: the refusal, then k, the coins, the rejects, the most reads and off
abbrev pub total_of : Result Counts Refusal → ℕ → ℕ
total_of (Ok c) n = one_of n c.sweep (off_code c.off)
total_of (Err e) n = refused_one n e

-- the report's answer on a file: the same up to the most reads, and where the file ends
abbrev pub entry_of : Result Entry Refusal → ℕ → ℕ
entry_of (Ok e) n = one_of n e.sweep e.end
entry_of (Err e) n = refused_one n e

-- byte `at` of a part; past its end 256, and 256 and the number of a refusal
abbrev pub byte_of : Result (Bor (List ℕ)) Refusal → ℕ → ℕ
byte_of (Ok part) at = get_or part.now at 256
byte_of (Err e) at = 256 + number e

-- that of the part of n bytes from p on that the file f gives
abbrev pub PartByte : List ℕ → ℕ → ℕ → ℕ → ℕ → Type 0
PartByte f p n at r = (part : Result (Bor (List ℕ)) Refusal) × PartTold f p n part × (r ≡ byte_of part at)
