-- The printed sentence on the parts of a stored file. `PartTold f p n r` is the contract of stored's `word_part` and `proof_part`: of the
-- file f the answer r lends the n bytes from p on, or is the reason of a refusal.
use Rattle.std.specs.Prelude.{◌≡◌, Result, Ok, Err, List, ℕ}
use Rattle.std.specs.Borrow.{Bor}
use Rattle.std.proofs.Common.{sym, ap, ◌∙◌}
use Rattle.lists.specs.Answers.{answers_one, not_refused}
use Rattle.refusals.specs.Gives.{one_reason}
use Rattle.refusals.specs.declared.Refusal.{Refusal}
use Rattle.stored.specs.Reader.{file_checks, PartTold}

-- the answer by the bytes that it lends
abbrev pub bytes_of : Result (Bor (List ℕ)) Refusal → Result (List ℕ) Refusal
bytes_of (Ok part) = Ok part.now
bytes_of (Err e) = Err e

-- The call hands back one part, or one reason.
pub one-part : (f : List ℕ) (p n : ℕ) (r r' : Result (Bor (List ℕ)) Refusal) → PartTold f p n r → PartTold f p n r' → bytes_of r ≡ bytes_of r'
one-part f p n (Ok part) (Ok part') (a, e) (b, g) = ap Ok (e ∙ sym g)
one-part f p n (Ok part) (Err d) (a, e) b = absurd (not_refused (file_checks f) a b)
one-part f p n (Err d) (Ok part) a (b, g) = absurd (not_refused (file_checks f) b a)
one-part f p n (Err d) (Err e) (l, a) (k, b) = ap Err (one_reason {d = d} {e = e} (answers_one (file_checks f) a b))
