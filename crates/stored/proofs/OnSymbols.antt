-- On an accepted file the checker over stored bytes answers as the checker on symbols with the setting, the word and the proof of the file. Assumes nothing.
use Rattle.std.specs.Prelude.{◌≡◌, refl, ◌⊎◌, ◌↔◌, Result, Ok, List, [], ◌∷◌, ◌++◌, ℕ, ◌^◌, ◌≤◌, ◌<◌, length}
use Rattle.std.proofs.Common.{sym, subst, inl, inr, arith, pow_pos}
use Rattle.std.proofs.Math.Decide.{dec_le}
use Rattle.lists.specs.Answers.{Checks, Answers, Passes, answers_one, answers-after, passes-each, numbered_append}
use Rattle.field.specs.Binary.{degree}
use Rattle.field.specs.Symbols.{symbols}
use Rattle.space.specs.Setting.{setting_checks}
use Rattle.space.specs.Sound.{sound_passes, setting_numbered}
use Rattle.proximity.specs.Dim.{dim, S, R}
use Rattle.proximity.specs.Verifier.{positions}
use Rattle.verifier.specs.Checker.{delivery_checks, read_checks, checker_checks, Answered, Told}
use Rattle.verifier.specs.Rejected.{InBounds, told_bounds}
use Rattle.verifier.specs.Verdicts.{answered_alike, told-delivery, delivery-passes}
use Rattle.verifier.specs.declared.Rejection.{Rejection}
use Rattle.refusals.specs.declared.Refusal.{Refusal}
use Rattle.refusals.specs.declared.Refusal.TheVariants.{NoCoin}
use Rattle.verifier.specs.declared.Verdict.{Verdict}
use Rattle.verifier.specs.declared.Verdict.TheVariants.{Reject}
use Rattle.stored.proofs.Accepted.{file_numbered}
use Rattle.stored.specs.Check.{coin_checks, AnsweredFile}
use Rattle.stored.proofs.CheckLaws.{refused_coin, coin_passes}
use Rattle.stored.specs.File.{modulus_in, dim_in, basis_in, shift_in, word_in, proof_in}
use Rattle.stored.specs.InRange.{symbols-below}
use Rattle.stored.specs.Passed.{length_basis}
use Rattle.stored.specs.Reader.{file_checks}
use Rattle.stored.specs.Whole.{Delivery}
use Rattle.stored.proofs.Whole.{accepted_delivery}

-- ---- the checks

-- two tables that both refuse a coin from n on with 8, and no other, answer alike
alike : (cs ds : Checks) (n coin : ℕ) → (n ≤ coin → Answers cs 8) → (coin < n → Passes cs) → (n ≤ coin → Answers ds 8) → (coin < n → Passes ds) → (r : ℕ) → Answers cs r → Answers ds r
alike cs ds n coin high low high' low' r a = by (dec_le n coin)
  where
    by : Dec (n ≤ coin) → Answers ds r
    by (yes h) = subst (Answers ds) (answers_one cs (high h) a) (high' h)
    by (no h) = subst (Answers ds) (answers_one cs (low (omega (arith, h))) a) (low' (omega (arith, h)))

-- the checks on symbols, where word and proof are a delivery with all symbols in range
module _ (m : ℕ) (bs : List ℕ) (σ : ℕ) (w π : List ℕ) (d : Delivery m bs σ w π) (coin : ℕ) where
  abbrev delivery : Checks
  delivery = delivery_checks (length bs) (length w) (length π) coin

  abbrev reading : Checks
  reading = read_checks (symbols m) (length bs) w π coin

  symbols_coin : 2 ^ R (length bs) ≤ coin → Answers (checker_checks m bs σ w π coin) 8
  symbols_coin h =
      (told-delivery m bs σ w π coin (sound_passes m bs σ d.setting) NoCoin (omega arith, inr (lengths, inl (h, refl)))).1
    where
      lengths : (length w ≡ 2 ^ length bs → ⊥) ⊎ (length π ≡ S (length bs) → ⊥) → ⊥
      lengths (inl f) = f d.word
      lengths (inr f) = f d.proof

  symbols_pass : coin < 2 ^ R (length bs) → Passes (checker_checks m bs σ w π coin)
  symbols_pass h =
      answers-after (setting_checks m bs σ ++ delivery) reading 0 (numbered_append (setting_checks m bs σ) delivery (setting_numbered m bs σ) (omega arith, (omega arith, tt)))
      (answers-after (setting_checks m bs σ) delivery 0 (setting_numbered m bs σ) (sound_passes m bs σ d.setting) (delivery-passes (length bs) (length w) (length π) coin d.word d.proof h))
      (inr ((λ f. f (symbols-below (2 ^ degree m) w π (pow_pos (degree m)) d.word-symbols d.proof-symbols (positions (dim (length bs)) coin))), refl))

-- ---- the answers

module _ (f : List ℕ) (p : Passes (file_checks f)) (coin : ℕ) where
  abbrev on_bytes : Checks
  on_bytes = coin_checks f coin

  abbrev on_symbols : Checks
  on_symbols = checker_checks (modulus_in f) (basis_in f) (shift_in f) (word_in f) (proof_in f) coin

  high : 2 ^ R (dim_in f) ≤ coin → Answers on_symbols 8
  high h =
      symbols_coin (modulus_in f) (basis_in f) (shift_in f) (word_in f) (proof_in f) (accepted_delivery f p) coin (subst (λ (k : ℕ). 2 ^ R k ≤ coin) (sym (length_basis f)) h)

  low : coin < 2 ^ R (dim_in f) → Passes on_symbols
  low h =
      symbols_pass (modulus_in f) (basis_in f) (shift_in f) (word_in f) (proof_in f) (accepted_delivery f p) coin (subst (λ (k : ℕ). coin < 2 ^ R k) (sym (length_basis f)) h)

  to-symbols : (r : ℕ) → Answers on_bytes r → Answers on_symbols r
  to-symbols = alike on_bytes on_symbols (2 ^ R (dim_in f)) coin (λ h. (refused_coin f coin p h).1) (coin_passes f coin p) high low

  to_bytes : (r : ℕ) → Answers on_symbols r → Answers on_bytes r
  to_bytes = alike on_symbols on_bytes (2 ^ R (dim_in f)) coin high low (λ h. (refused_coin f coin p h).1) (coin_passes f coin p)

  -- the checks of the file leave 8 alone of the checks on symbols, and the verdict is the same
  pub file-answers : (v : Result Verdict Refusal) → AnsweredFile f coin v ↔ Told (modulus_in f) (basis_in f) (shift_in f) (word_in f) (proof_in f) coin v
  file-answers v = (
    (λ a. subst (λ (k : ℕ). Answered on_symbols (symbols (modulus_in f)) k (basis_in f) (word_in f) (proof_in f) coin v) (sym (length_basis f))
        (answered_alike on_bytes on_symbols to-symbols (symbols (modulus_in f)) (dim_in f) (basis_in f) (word_in f) (proof_in f) coin v a)),
    λ a. subst (λ (k : ℕ). Answered on_bytes (symbols (modulus_in f)) k (basis_in f) (word_in f) (proof_in f) coin v) (length_basis f)
        (answered_alike on_symbols on_bytes to_bytes (symbols (modulus_in f)) (length (basis_in f)) (basis_in f) (word_in f) (proof_in f) coin v a),
  )

-- the numbers that come with a reject
pub file_bounds : (f : List ℕ) (coin : ℕ) (r : Rejection) → AnsweredFile f coin (Ok (Reject r)) → InBounds r
file_bounds f coin r a =
    let p : Passes (file_checks f) = (passes-each (file_checks f) ((8, 2 ^ R (dim_in f) ≤ coin) ∷ []) (file_numbered f) a.0).0 in
    told_bounds (modulus_in f) (basis_in f) (shift_in f) (word_in f) (proof_in f) coin r ((file-answers f p coin (Ok (Reject r))).0 a)
