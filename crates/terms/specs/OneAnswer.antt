-- One answer for the calls whose contracts stand alone: sum and product, the check of a setting, the reader, the writers and the converter of
-- stored files, the checker over a stored file, and the coin bits of a file. The other calls: Agreement, Terms, Files, Counts and Deliveries.
use Rattle.std.specs.Prelude.{◌≡◌, refl, Result, Ok, Err, List, ℕ, length}
use Rattle.std.proofs.Common.{sym, ap, ◌∙◌, inl, inr}
use Rattle.lists.specs.Answers.{Checks, answers_one, not_refused}
use Rattle.refusals.specs.Gives.{gives_one, one_reason}
use Rattle.refusals.specs.Refusal.{answer_of}
use Rattle.refusals.specs.declared.Refusal.{Refusal}
use Rattle.field.specs.Calls as field
use Rattle.field.specs.Symbols.{symbols}
use Rattle.space.specs.Setting.{setting_checks, setting_of, Settled}
use Rattle.space.specs.declared.Setting.{Setting}
use Rattle.verifier.specs.declared.Verdict.{Verdict}
use Rattle.stored.specs.Check.{coin_checks, AnsweredFile}
use Rattle.stored.specs.File.{file_of, modulus_in, dim_in, basis_in, word_in, proof_in}
use Rattle.stored.specs.Reader.{read_of, Told}
use Rattle.stored.specs.declared.Form.{Form}
use Rattle.stored.specs.declared.Reading.{Reading}
use Rattle.filing.specs.Convert.{converted, converted_end, shift_checks, convert_checks, Converted, LengthTold}
use Rattle.filing.specs.Filed.{Filed}
use Rattle.filing.specs.Writer.{writer_checks, Wrote}
use Rattle.host.specs.Answer.{CoinBits, HostConverted, HostLength}
use Rattle.terms.specs.Answer.{answered-one}

-- Sum and product: past the checks cs the answer is the value v, and a refusal has one reason.
pub one_value : (cs : Checks) (v : ℕ) (x y : Result ℕ Refusal) → field.Told cs v x → field.Told cs v y → x ≡ y
one_value cs v = gives_one (λ a. a ≡ v) cs (λ a b p e f. e ∙ sym f)

-- The check of a setting: all that the setting holds, or the reason.
pub one-setting : (m : ℕ) (bs : List ℕ) (σ : ℕ) (c d : Result Setting Refusal) → Settled m bs σ c → Settled m bs σ d → c ≡ d
one-setting m bs σ = gives_one (λ s. s ≡ setting_of m bs σ) (setting_checks m bs σ) (λ s t p e f. e ∙ sym f)

-- The readers of a stored file, each by its table of checks: the form, the setting and the places, or the reason.
pub one-reading : (cs : Checks) (f : List ℕ) (r s : Result Reading Refusal) → Told cs f r → Told cs f s → r ≡ s
one-reading cs f = gives_one (λ r. r ≡ read_of f) cs (λ r s p e g. e ∙ sym g)

-- The writers of stored files and the converter, each by its checks and its file: the answer, and the bytes that it leaves.
pub one_filing : (cs : Checks) (file old new new' : List ℕ) (u v : Result (Unit {0}) Refusal) → Filed cs file old new u → Filed cs file old new' v → (u ≡ v) × (new ≡ new')
one_filing cs file old new new' (Ok x) (Ok y) (p, e) (q, f) = (refl, e ∙ sym f)
one_filing cs file old new new' (Ok x) (Err b) (p, e) (r, f) = absurd (not_refused cs p r)
one_filing cs file old new new' (Err a) (Ok y) (r, e) (q, f) = absurd (not_refused cs q r)
one_filing cs file old new new' (Err a) (Err b) ((l, r), e) ((k, s), f) = (ap Err (one_reason {d = a} {e = b} (answers_one cs r s)), e ∙ sym f)

pub one_writing : (form : Form) (m : ℕ) (bs : List ℕ) (σ : ℕ) (w π old new new' : List ℕ) (u v : Result (Unit {0}) Refusal)
    → Wrote form m bs σ w π old new u → Wrote form m bs σ w π old new' v → (u ≡ v) × (new ≡ new')
one_writing form m bs σ w π old = one_filing (writer_checks form m bs σ w π (length old)) (file_of form m bs σ w π) old

pub one_conversion : (f old new new' : List ℕ) (u v : Result (Unit {0}) Refusal) → Converted f old new u → Converted f old new' v → (u ≡ v) × (new ≡ new')
one_conversion f old = one_filing (convert_checks f (length old)) (converted f) old

-- The length of the converted file.
pub one_length : (f : List ℕ) (r s : Result ℕ Refusal) → LengthTold f r → LengthTold f s → r ≡ s
one_length f = gives_one (λ n. n ≡ converted_end f) (shift_checks f) (λ n k p e g. e ∙ sym g)

-- The checker over a stored file.
pub one-file-answer : (f : List ℕ) (coin : ℕ) (u v : Result Verdict Refusal) → AnsweredFile f coin u → AnsweredFile f coin v → u ≡ v
one-file-answer f coin = answered-one (coin_checks f coin) (symbols (modulus_in f)) (dim_in f) (basis_in f) (word_in f) (proof_in f) coin

-- The coin bits of a file, a refused one included.
pub one_coin_bits : (f : List ℕ) (r s : ℕ) → CoinBits f r → CoinBits f s → r ≡ s
one_coin_bits f r s (inl (p, e)) (inl (q, g)) = e ∙ sym g
one_coin_bits f r s (inl (p, e)) (inr (n, g)) = absurd (n p)
one_coin_bits f r s (inr (n, e)) (inl (q, g)) = absurd (n q)
one_coin_bits f r s (inr (n, e)) (inr (o, g)) = e ∙ sym g

-- The converter from C: the number, and the bytes that it leaves;
pub one_host_conversion : (f old new new' : List ℕ) (r s : ℕ) → HostConverted f old new r → HostConverted f old new' s → (r ≡ s) × (new ≡ new')
one_host_conversion f old new new' r s (u, a, e) (v, b, g) = let (o, n) = one_conversion f old new new' u v a b in (e ∙ ap answer_of o ∙ sym g, n)

-- and the length from C: the number, and what the lent number holds.
pub one_host_length : (f : List ℕ) (before after after' r s : ℕ) → HostLength f before after r → HostLength f before after' s → (r ≡ s) × (after ≡ after')
one_host_length f before after after' r s (inl (p, z, e)) (inl (q, y, g)) = (z ∙ sym y, e ∙ sym g)
one_host_length f before after after' r s (inl (p, z, e)) (inr (b, g)) = absurd (not_refused (shift_checks f) p b)
one_host_length f before after after' r s (inr (a, e)) (inl (q, y, g)) = absurd (not_refused (shift_checks f) q a)
one_host_length f before after after' r s (inr ((l, a), e)) (inr ((k, b), g)) = (answers_one (shift_checks f) a b, e ∙ sym g)
