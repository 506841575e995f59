-- Numbers of the file are small, and a record's checks by its parts. Assumes nothing.
use mathlib.Core.Path.{◌≡◌, transport}
use mathlib.Core.Bool.{Bool}
use mathlib.Core.List.{List}
use Prim.Native.Nat.{ℕ, ◌*◌, ◌%◌, ◌^◌, ◌≤◌}
use native.Mathlib.Omega.{arith}
use lib.Pow.{pow_mono}
use Rattle.lists.specs.Answers.{Answers}
use Rattle.space.specs.Sizes.{max_dim}
use Rattle.verifier.proofs.Laws.{one_shifted}
use Rattle.stored.specs.Reader.{record_checks}

-- the number of symbols of a word, as it is computed
pub word_count : (k : ℕ) → k ≤ max_dim → (1 * 2 ^ k % 18446744073709551616 ≡ 2 ^ k) × (2 ^ k ≤ 2 ^ max_dim)
word_count k h = (one_shifted k (omega arith), pow_mono {i = k} {j = max_dim} h)

-- a record at the same place, of the same width, mark and count
pub same_record : {t u : Bool} {p q b c n m : ℕ} → t ≡ u → p ≡ q → b ≡ c → n ≡ m → (f : List ℕ) (a l r : ℕ) → Answers (record_checks t f p a b n l) r → Answers (record_checks u f q a c m l) r
same_record et ep eb en f a l r x = transport (λ i. Answers (record_checks (et i) f (ep i) a (eb i) (en i) l) r) x
