-- Sentence 1, what a contract can say of it: bad input gets one of the listed numbers, by the order of checks, and a refused call leaves its
-- output as it came, and scratch as it came or all zeros. That no call leaves a lent buffer, loses a bit or runs without end is what it
-- means that each function is proved, with no precondition on the public calls.
use Rattle.std.specs.Prelude.{◌≡◌, refl, Result, Ok, Err, List, ℕ, ◌≤◌, ◌<◌, length}
use Rattle.std.proofs.Common.{arith}
use Rattle.lists.specs.Answers.{Checks, Answers, Passes, Refuses, answers_one, not_refused}
use Rattle.lists.specs.Calls.{zeros, RefusedWith, Within, answer-within}
use Rattle.refusals.specs.Refusal.{number}
use Rattle.refusals.specs.declared.Refusal.{Refusal}
use Rattle.field.specs.Calls as field
use Rattle.space.specs.Setting.{setting_checks, Settled}
use Rattle.correction.specs.Calls.{correct_checks, CorrectedWord}
use Rattle.verifier.specs.Checker as checker
use Rattle.stored.specs.Check.{coin_checks, AnsweredFile}
use Rattle.stored.specs.Reader as reader
use Rattle.stored.specs.Reader.{prefix_checks, file_checks}
use Rattle.stored.specs.declared.Form.{Form}
use Rattle.filing.specs.Convert.{shift_checks, convert_checks, Converted, LengthTold}
use Rattle.filing.specs.Writer.{writer_checks, Wrote}
use Rattle.coins.specs.Totals as counter
use Rattle.coins.specs.Totals.{count_checks}
use Rattle.report.specs.Entry as report
use Rattle.report.specs.Entry.{entry_checks}
use Rattle.codec.specs.Calls.{encode_checks, decode_checks, Encoded, Decoded, Told}
use Rattle.prover.specs.Calls.{prove_checks, Proven}
use Rattle.delivery.specs.Message as making
use Rattle.terms.specs.Numbers.{numbers, Listed, listed}

-- The checks of a call give at most one number.
pub one_number : (cs : Checks) {r s : ℕ} → Answers cs r → Answers cs s → r ≡ s
one_number = answers_one

-- n is one of the listed numbers, and none above `most`
abbrev pub OneOf : ℕ → ℕ → Type 0
OneOf most n = Listed n × (n ≤ most)

one_of_lem : (most : ℕ) (cs : Checks) {n : ℕ} → most ≤ length numbers → Within most cs → Refuses cs n → OneOf most n
one_of_lem most cs {n} h w (l, a) = let top : n ≤ most = answer-within cs w a in (listed n l (omega arith), top)

-- ---- encoder, decoder, prover and correction

-- the number n and what the call leaves: up to check 7 the scratch is as it came, past it all zeros
pub record LeftBy (most n : ℕ) (old new scratch left : List ℕ) : Type 0 where
  pub number : OneOf most n
  pub output : new ≡ old
  pub early : n ≤ 7 → left ≡ scratch
  pub late : 7 < n → left ≡ zeros (length scratch)

module _ (cs : Checks) (old new scratch left : List ℕ) where
  left_by : (most : ℕ) → most ≤ length numbers → Within most cs → (n : ℕ) → RefusedWith cs n old new scratch left → LeftBy most n old new scratch left
  left_by most h w n r = record { number = one_of_lem most cs h w r.refuses; output = r.untouched; early = r.early; late = r.late }

  done : (Right : List ℕ → Type 0) → Passes cs → (u : Result (Unit {0}) Refusal) → Told cs Right old new scratch left u → u ≡ Ok tt
  done Right p (Ok x) t = refl
  done Right p (Err e) t = absurd (not_refused cs p t.refuses)

module _ (m : ℕ) (bs : List ℕ) (σ : ℕ) (p old new scratch left : List ℕ) where
  pub refused_encoding : (e : Refusal) → Encoded m bs σ p old new scratch left (Err e) → LeftBy 9 (number e) old new scratch left
  refused_encoding e = left_by (encode_checks m bs σ p (length old) (length scratch)) old new scratch left 9 (omega arith) (search (arith) depth 30) (number e)

  pub refused_decoding : (e : Refusal) → Decoded m bs σ p old new scratch left (Err e) → LeftBy 10 (number e) old new scratch left
  refused_decoding e = left_by (decode_checks m bs σ p (length old) (length scratch)) old new scratch left 10 (omega arith) (search (arith) depth 30) (number e)

  pub refused_proving : (e : Refusal) → Proven m bs σ p old new scratch left (Err e) → LeftBy 10 (number e) old new scratch left
  refused_proving e = left_by (prove_checks m bs σ p (length old) (length scratch)) old new scratch left 10 (omega arith) (search (arith) depth 30) (number e)

  pub refused_correcting : (e : Refusal) → CorrectedWord m bs σ p old new scratch left (Err e) → LeftBy 13 (number e) old new scratch left
  refused_correcting e = left_by (correct_checks m bs σ p (length old) (length scratch)) old new scratch left 13 (omega arith) (search (arith) depth 30) (number e)

  -- a call that no check refuses is done
  pub encoding-done : Passes (encode_checks m bs σ p (length old) (length scratch)) → (u : Result (Unit {0}) Refusal) → Encoded m bs σ p old new scratch left u → u ≡ Ok tt
  encoding-done = done (encode_checks m bs σ p (length old) (length scratch)) old new scratch left _

  pub decoding-done : Passes (decode_checks m bs σ p (length old) (length scratch)) → (u : Result (Unit {0}) Refusal) → Decoded m bs σ p old new scratch left u → u ≡ Ok tt
  decoding-done = done (decode_checks m bs σ p (length old) (length scratch)) old new scratch left _

  pub proving-done : Passes (prove_checks m bs σ p (length old) (length scratch)) → (u : Result (Unit {0}) Refusal) → Proven m bs σ p old new scratch left u → u ≡ Ok tt
  proving-done = done (prove_checks m bs σ p (length old) (length scratch)) old new scratch left _

  pub correcting-done : Passes (correct_checks m bs σ p (length old) (length scratch)) → (u : Result ℕ Refusal) → CorrectedWord m bs σ p old new scratch left u
      → (n : ℕ) × (u ≡ Ok n)
  correcting-done a (Ok n) t = (n, refl)
  correcting-done a (Err e) t = absurd (not_refused (correct_checks m bs σ p (length old) (length scratch)) a t.refuses)

-- ---- the other calls

-- sum and product, of which v is the value
pub refused_value : (m a b v : ℕ) (e : Refusal) → field.Told (field.field_checks m a b) v (Err e) → OneOf 9 (number e)
refused_value m a b v e = one_of_lem 9 (field.field_checks m a b) (omega arith) (search (arith) depth 30)

-- the check of a setting
pub refused_setting : (m : ℕ) (bs : List ℕ) (σ : ℕ) (e : Refusal) → Settled m bs σ (Err e) → OneOf 5 (number e)
refused_setting m bs σ e = one_of_lem 5 (setting_checks m bs σ) (omega arith) (search (arith) depth 30)

-- the readers of stored files
pub refused_reading : (f : List ℕ) (e : Refusal) → reader.Told (file_checks f) f (Err e) → OneOf 12 (number e)
refused_reading f e = one_of_lem 12 (file_checks f) (omega arith) (search (arith) depth 40)

pub refused_prefix : (f : List ℕ) (e : Refusal) → reader.Told (prefix_checks f) f (Err e) → OneOf 12 (number e)
refused_prefix f e = one_of_lem 12 (prefix_checks f) (omega arith) (search (arith) depth 40)

-- the coin counter
pub refused_counting : (f : List ℕ) (e : Refusal) → counter.Told f (Err e) → OneOf 12 (number e)
refused_counting f e = one_of_lem 12 (count_checks f) (omega arith) (search (arith) depth 40)

-- the report's answer on a file
pub refused_entry : (s : List ℕ) (e : Refusal) → report.Told s (Err e) → OneOf 12 (number e)
refused_entry s e = one_of_lem 12 (entry_checks s) (omega arith) (search (arith) depth 40)

-- the checker, which writes nothing
pub refused_check : (m : ℕ) (bs : List ℕ) (σ : ℕ) (w π : List ℕ) (coin : ℕ) (e : Refusal) → checker.Told m bs σ w π coin (Err e) → OneOf 9 (number e)
refused_check m bs σ w π coin e = one_of_lem 9 (checker.checker_checks m bs σ w π coin) (omega arith) (search (arith) depth 30)

-- the checker over a stored file, and the number that a file gets by itself
pub refused_file_check : (f : List ℕ) (coin : ℕ) (e : Refusal) → AnsweredFile f coin (Err e) → OneOf 12 (number e)
refused_file_check f coin e = one_of_lem 12 (coin_checks f coin) (omega arith) (search (arith) depth 40)

pub file-number : (f : List ℕ) (r : ℕ) → Refuses (file_checks f) r → OneOf 12 r
file-number f r = one_of_lem 12 (file_checks f) (omega arith) (search (arith) depth 40)

-- the writers of stored files
pub refused_writing : (form : Form) (m : ℕ) (bs : List ℕ) (σ : ℕ) (w π old new : List ℕ) (e : Refusal) → Wrote form m bs σ w π old new (Err e) → OneOf 9 (number e) × (new ≡ old)
refused_writing form m bs σ w π old new e (a, k) = (one_of_lem 9 (writer_checks form m bs σ w π (length old)) (omega arith) (search (arith) depth 30) a, k)

-- the converter of stored files, and the length of the converted file
pub refused_converting : (f old new : List ℕ) (e : Refusal) → Converted f old new (Err e) → OneOf 14 (number e) × (new ≡ old)
refused_converting f old new e (a, k) = (one_of_lem 14 (convert_checks f (length old)) (omega arith) (search (arith) depth 40) a, k)

pub refused_length : (f : List ℕ) (e : Refusal) → LengthTold f (Err e) → OneOf 14 (number e)
refused_length f e = one_of_lem 14 (shift_checks f) (omega arith) (search (arith) depth 40)

-- the maker of deliveries
pub refused_making : (t old new : List ℕ) (e : Refusal) → making.Told t old new (Err e) → OneOf 12 (number e) × (new ≡ old)
refused_making t old new e (a, k) = (one_of_lem 12 (making.message_checks t (length old)) (omega arith) (search (arith) depth 40) a, k)
