-- The printed sentences. Each theorem is about what the calls' contracts say: `Told m bs σ w π coin v` is the contract of
-- verifier's `check` for its answer v on the modulus m, the basis bs, the shift σ, the word w, the proof π and the coin. Sentence 2 for the
-- other calls: Agreement.antt; the degree behind a reject: Degrees.antt; what does not depend on the shift: Shifts.antt; stored files and the call from C: Files.antt; the coin
-- counter: Counts.antt; from coefficients to a stored file: Deliveries.antt. The unused bits of a coin: UnusedBits.antt. That there are
-- sound settings and accepted pairs: Settings.antt.
use Rattle.std.specs.Prelude.{◌≡◌, refl, ◌⊎◌, ◌↔◌, Result, Ok, List, ◌++◌, map, ℕ, ◌^◌, ◌≤◌, ◌<◌, length}
use Rattle.std.proofs.Common.{◌∙◌, subst, inl, inr, arith}
use Rattle.lists.specs.All.{All}
use Rattle.lists.specs.Answers.{Passes, answers-after}
use Rattle.refusals.specs.declared.Refusal.{Refusal}
use Rattle.lists.specs.Calls.{zeros}
use Rattle.field.specs.Symbols.{symbols}
use Rattle.space.specs.Setting.{setting_checks}
use Rattle.space.specs.Sound.{Sound, sound_field, sound_passes, setting_numbered}
use Rattle.proximity.specs.Coverage.{all_coins_read}
use Rattle.proximity.specs.Dim.{dim, S, R}
use Rattle.proximity.specs.Proof.{Honest}
use Rattle.proximity.specs.Shifted.{HonestAt}
use Rattle.proximity.proofs.Shifted.{honest_shift}
use Rattle.proximity.specs.Reads.{few_reads}
use Rattle.proximity.specs.Verifier.{Accepts, positions, read_at}
use Rattle.proximity.specs.Verdict.{accepted_sym}
use Rattle.verifier.specs.Checker.{symbols_at, reads_of, checker_checks, Told}
use Rattle.verifier.specs.Verdicts.{told_coin, delivery-passes}
use Rattle.verifier.specs.declared.Rejection.{Rejection}
use Rattle.verifier.specs.declared.Verdict.{Verdict}
use Rattle.verifier.specs.declared.Verdict.TheVariants.{Accept, Reject}
use Rattle.codec.specs.Calls.{word_checks}
use Rattle.codec.specs.RoundTrip.{word-passes}
use Rattle.prover.specs.Calls.{length_checks, Proven}
use Rattle.lists.specs.Lengths.{lengths-right}
use Rattle.codec.specs.Scratch.{scratch_for}
use Rattle.terms.specs.Agreement.{one-proving}
use Rattle.terms.specs.Answer.{answered-one, same_answer}

-- ---- the checker

-- The call gives one answer.
pub one_answer : (m : ℕ) (bs : List ℕ) (σ : ℕ) (w π : List ℕ) (coin : ℕ) (u v : Result Verdict Refusal) → Told m bs σ w π coin u → Told m bs σ w π coin v → u ≡ v
one_answer m bs σ w π coin = answered-one (checker_checks m bs σ w π coin) (symbols m) (length bs) bs w π coin

-- A setting (modulus, basis, shift) is sound when it passes checks 1 to 5 (`Sound`); the right lengths are 2^k and S(k), k being the basis's length.
module _ (m : ℕ) (bs : List ℕ) (σ : ℕ) (s : Sound m bs σ) (w π : List ℕ) (lw : length w ≡ 2 ^ length bs) (lπ : length π ≡ S (length bs)) where
  -- the checker's answer is accept at every coin below 2^R; refusal 9 is no acceptance
  abbrev pub AcceptedAtAllCoins : Type 0
  AcceptedAtAllCoins = (coin : ℕ) → coin < 2 ^ R (length bs) → (reads : ℕ) × Told m bs σ w π coin (Ok (Accept reads))

  -- the word evaluates a polynomial P of degree below an eighth of its length at the shifted elements, and the proof is the one laid out for P(x + σ)
  abbrev pub PairOfAPolynomial : Type 0
  PairOfAPolynomial = (P : List ℕ) × HonestAt (symbols m) σ (dim (length bs)) bs w π P

  -- Sentence 3, first part: whatever numbers word and proof hold.
  pub accepted_exactly : AcceptedAtAllCoins ↔ PairOfAPolynomial
  accepted_exactly = (
    (λ f. pairs.1 (read-at-all.0 (λ coin h. told_accept coin (f coin h).1))),
    λ H coin h. (reads_of (length bs) coin, accept_told coin h (read-at-all.1 (pairs.0 H) coin h)),
  )
    where
      -- the pairs are the same at each shift
      pairs : PairOfAPolynomial ↔ ((P : List ℕ) × Honest (symbols m) (dim (length bs)) bs w π P)
      pairs = honest_shift (sound_field s) σ s.shift (dim (length bs)) bs s.basis w π

      read-at-all : ((coin : ℕ) → coin < 2 ^ R (length bs) → All (symbols m).Sym (symbols_at (length bs) w π coin) × Accepts (symbols m) (dim (length bs)) bs w π coin) ↔ ((P : List ℕ) × Honest (symbols m) (dim (length bs)) bs w π P)
      read-at-all = all_coins_read (sound_field s) (dim (length bs)) bs w π s.basis lw lπ

      told_accept : (coin : ℕ) {reads : ℕ} → Told m bs σ w π coin (Ok (Accept reads)) → All (symbols m).Sym (symbols_at (length bs) w π coin) × Accepts (symbols m) (dim (length bs)) bs w π coin
      told_accept coin (p, (e, a)) = (accepted_sym (sound_field s) (dim (length bs)) bs w π s.basis lw lπ coin a, a)

      accept_told : (coin : ℕ) → coin < 2 ^ R (length bs) → All (symbols m).Sym (symbols_at (length bs) w π coin) × Accepts (symbols m) (dim (length bs)) bs w π coin
          → Told m bs σ w π coin (Ok (Accept (reads_of (length bs) coin)))
      accept_told coin h (r, a) =
          told_coin m bs σ w π coin (sound_passes m bs σ s) (delivery-passes (length bs) (length w) (length π) coin lw lπ h) (Ok (Accept (reads_of (length bs) coin))) (inr ((λ f. f r), refl), (refl, a))

  -- What the prover writes for the word, into any lent proof and scratch of the right lengths: it is done, and leaves π.
  abbrev pub WrittenByTheProver : List ℕ → List ℕ → Type 0
  WrittenByTheProver old scratch = Proven m bs σ w old π scratch (zeros (length scratch)) (Ok tt)

  -- Sentence 3, first part, of the two calls: the pairs accepted at all coins are those that the prover leaves; it leaves no other (`one-proving`).
  pub accepted_exactly_written : (old scratch : List ℕ) → length old ≡ S (length bs) → scratch_for (length bs) ≤ length scratch → AcceptedAtAllCoins ↔ WrittenByTheProver old scratch
  accepted_exactly_written old scratch lo ls = ((λ f. written (accepted_exactly.0 f)), λ p. accepted_exactly.1 p.right)
    where
      lengths : Passes (length_checks (length bs) (length w) (length old) (length scratch))
      lengths = lengths-right (length w) (2 ^ length bs) (length old) (S (length bs)) (length scratch) (scratch_for (length bs)) lw lo ls

      written : PairOfAPolynomial → WrittenByTheProver old scratch
      written (P, H) =
          record {
            passes =
                answers-after (setting_checks m bs σ) (length_checks (length bs) (length w) (length old) (length scratch) ++ word_checks m bs σ w) 0 (setting_numbered m bs σ) (sound_passes m bs σ s)
                (answers-after (length_checks (length bs) (length w) (length old) (length scratch)) (word_checks m bs σ w) 0 (omega arith, (omega arith, tt)) lengths (word-passes m bs σ s P w H.count H.elements H.word));
            right = (P, H);
            cleared = refl;
          }

  -- However the prover's call on the word ends (its answer u, the proof and the scratch that it leaves): the pair is accepted at all coins
  -- exactly where that call is done and has left this proof.
  pub accepted_exactly_proven : (old new scratch left : List ℕ) (u : Result (Unit {0}) Refusal) → length old ≡ S (length bs) → scratch_for (length bs) ≤ length scratch
      → Proven m bs σ w old new scratch left u → AcceptedAtAllCoins ↔ ((u ≡ Ok tt) × (new ≡ π))
  accepted_exactly_proven old new scratch left u lo ls p = (
    (λ f. let e = one-proving m bs σ w old new π scratch left (zeros (length scratch)) u (Ok tt) p ((accepted_exactly_written old scratch lo ls).0 f) in (e.answer, e.output)),
    λ (d, e). accepted_exactly.1 (subst (λ (x : List ℕ). Proven m bs σ w old x scratch left (Ok tt)) e (subst (Proven m bs σ w old new scratch left) d p)).right,
  )

-- Sentence 3, second part: a coin's positions follow from k and the coin alone (`positions`), they are at most 64,
pub at-most_64_reads : (k coin : ℕ) → length (positions (dim k) coin) ≤ 64
at-most_64_reads k coin = few_reads (dim k) coin

-- and the number that comes with a verdict, accept or reject, is theirs.
pub reads_told : (m : ℕ) (bs : List ℕ) (σ : ℕ) (w π : List ℕ) (coin n : ℕ) → Told m bs σ w π coin (Ok (Accept n)) ⊎ ((r : Rejection) × Told m bs σ w π coin (Ok (Reject r)) × (n ≡ r.reads)) → n ≡ length (positions (dim (length bs)) coin)
reads_told m bs σ w π coin n (inl (p, (e, a))) = e
reads_told m bs σ w π coin n (inr (r, (p, (e, a, g, d)), h)) = h ∙ e

-- Two deliveries of the right lengths alike at these positions get the same answer at that coin, a refusal and the degree behind a reject included.
pub alike_at_the_positions : (m : ℕ) (bs : List ℕ) (σ : ℕ) (w π v ρ : List ℕ) (coin : ℕ) → length w ≡ 2 ^ length bs → length π ≡ S (length bs) → length v ≡ 2 ^ length bs → length ρ ≡ S (length bs)
    → map (read_at w π) (positions (dim (length bs)) coin) ≡ map (read_at v ρ) (positions (dim (length bs)) coin)
    → (answer : Result Verdict Refusal) → Told m bs σ w π coin answer → Told m bs σ v ρ coin answer
alike_at_the_positions = same_answer
