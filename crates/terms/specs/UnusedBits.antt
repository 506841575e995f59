-- Unused bits change nothing. `used (dim k) coin` is the number of bits that the coin uses, from bit 0 up; two coins of one setting that
-- agree in these bits have the same positions and get the same answer.
use Rattle.std.specs.Prelude.{◌≡◌, ◌⊎◌, ◌↔◌, Result, List, [], ◌∷◌, ◌++◌, map, ℕ, ◌^◌, ◌%◌, ◌≤◌, ◌<◌, length}
use Rattle.std.proofs.Common.{sym, subst, inl, inr, arith}
use Rattle.std.proofs.Math.Path.{transport}
use Rattle.lists.specs.All.{All}
use Rattle.lists.specs.Answers.{Checks, Answers}
use Rattle.refusals.specs.declared.Refusal.{Refusal}
use Rattle.field.specs.Laws.{Ops}
use Rattle.field.specs.Symbols.{symbols}
use Rattle.space.specs.Setting.{setting_checks}
use Rattle.proximity.specs.Dim.{dim, S, R}
use Rattle.proximity.specs.Unused as unused
use Rattle.proximity.specs.Unused.{used, SameUsed, same-used-back}
use Rattle.proximity.specs.Verifier.{Accepts, positions, read_at, leaf_dim, leaf_basis}
use Rattle.proximity.specs.declared.Place.{Place}
use Rattle.verifier.specs.Checker.{read_checks, checker_checks, Judged, Answered, Told}
use Rattle.verifier.specs.Verdicts.{answered_alike}
use Rattle.verifier.specs.declared.Rejection.{Rejection}
use Rattle.verifier.specs.declared.Verdict.{Verdict}
use Rattle.stored.specs.Check.{coin_checks, AnsweredFile}
use Rattle.stored.specs.File.{modulus_in, dim_in, basis_in, word_in, proof_in}
use Rattle.stored.specs.Reader.{file_checks}
use Rattle.host.specs.Answer.{HostAnswer, HostDegree}

-- A coin uses at most R(k) bits, none where k ≤ 6.
pub used-bits : (k coin : ℕ) → used (dim k) coin ≤ R k
used-bits k coin = unused.used-within (dim k) coin

-- Two numbers that agree in the used bits have the same positions.
pub unused_positions : (k coin other : ℕ) → other % 2 ^ used (dim k) coin ≡ coin % 2 ^ used (dim k) coin → positions (dim k) other ≡ positions (dim k) coin
unused_positions k = unused.unused_positions (dim k)

-- ---- two coins in range, neither refused by check 8

-- a table with check 8 in it gives the same number for both
both_in_range : (n a coin other : ℕ) → coin < a → other < a → (cs ds es : Checks) → (Answers ds n → Answers es n) → Answers (cs ++ ((8, a ≤ coin) ∷ ds)) n → Answers (cs ++ ((8, a ≤ other) ∷ es)) n
both_in_range n a coin other h l [] ds es f (inl c) = absurd (omega arith)
both_in_range n a coin other h l [] ds es f (inr c) = inr ((λ o. omega arith), f c.1)
both_in_range n a coin other h l ((i, P) ∷ cs) ds es f (inl c) = inl c
both_in_range n a coin other h l ((i, P) ∷ cs) ds es f (inr c) = inr (c.0, both_in_range n a coin other h l cs ds es f c.1)

module _ (K : Ops) (k : ℕ) (bs w π : List ℕ) (coin other : ℕ) (same : SameUsed (dim k) coin other) where
  places : positions (dim k) coin ≡ positions (dim k) other
  places = sym (unused_positions k coin other same)

  accepts : Accepts K (dim k) bs w π other ≡ Accepts K (dim k) bs w π coin
  accepts = unused.unused_accepts K (dim k) bs w π coin other same

  dimensions : leaf_dim (dim k) coin ≡ leaf_dim (dim k) other
  dimensions = sym (unused.unused_dimension (dim k) coin other same)

  bases : leaf_basis K (dim k) bs coin ≡ leaf_basis K (dim k) bs other
  bases = sym (unused.unused_basis K (dim k) bs coin other same)

  same_reads : (n : ℕ) → Answers (read_checks K k w π coin) n → Answers (read_checks K k w π other) n
  same_reads n = subst (λ (ps : List Place). Answers ((9, (All K.Sym (map (read_at w π) ps) → ⊥)) ∷ []) n) places

  -- by any two tables of checks of which the second gives the number of the first
  same-answered : (cs ds : Checks) → ((n : ℕ) → Answers cs n → Answers ds n) → (v : Result Verdict Refusal) → Answered cs K k bs w π coin v → Answered ds K k bs w π other v
  same-answered cs ds f v a =
      transport (λ i. Judged ds K (sym accepts i) (length (places i)) (dimensions i) (bases i) (map (read_at w π) (places i)) v) (answered_alike cs ds f K k bs w π coin v a)

-- The checker: two coins below 2^R(k) that agree in the used bits get the same answer, a refusal included.
module _ (m : ℕ) (bs : List ℕ) (σ : ℕ) (w π : List ℕ) where
  onward : (coin other : ℕ) → coin < 2 ^ R (length bs) → other < 2 ^ R (length bs) → SameUsed (dim (length bs)) coin other
      → (answer : Result Verdict Refusal) → Told m bs σ w π coin answer → Told m bs σ w π other answer
  onward coin other h l same =
      same-answered (symbols m) (length bs) bs w π coin other same (checker_checks m bs σ w π coin) (checker_checks m bs σ w π other)
      (λ n. both_in_range n (2 ^ R (length bs)) coin other h l (setting_checks m bs σ ++ ((6, (length w ≡ 2 ^ length bs → ⊥) ⊎ (length π ≡ S (length bs) → ⊥)) ∷ []))
      (read_checks (symbols m) (length bs) w π coin) (read_checks (symbols m) (length bs) w π other) (same_reads (symbols m) (length bs) bs w π coin other same n))

  pub unused_bits : (coin other : ℕ) → coin < 2 ^ R (length bs) → other < 2 ^ R (length bs)
      → other % 2 ^ used (dim (length bs)) coin ≡ coin % 2 ^ used (dim (length bs)) coin → (answer : Result Verdict Refusal) → Told m bs σ w π coin answer ↔ Told m bs σ w π other answer
  unused_bits coin other h l same v = (onward coin other h l same v, onward other coin l h (same-used-back (dim (length bs)) coin other same) v)

-- The checker over a stored file,
module _ (f : List ℕ) where
  onward_in_file : (coin other : ℕ) → coin < 2 ^ R (dim_in f) → other < 2 ^ R (dim_in f) → SameUsed (dim (dim_in f)) coin other → (answer : Result Verdict Refusal) → AnsweredFile f coin answer → AnsweredFile f other answer
  onward_in_file coin other h l same =
      same-answered (symbols (modulus_in f)) (dim_in f) (basis_in f) (word_in f) (proof_in f) coin other same (coin_checks f coin) (coin_checks f other)
      (λ n. both_in_range n (2 ^ R (dim_in f)) coin other h l (file_checks f) [] [] (λ a. a))

  module _ (coin other : ℕ) (h : coin < 2 ^ R (dim_in f)) (l : other < 2 ^ R (dim_in f)) (same : other % 2 ^ used (dim (dim_in f)) coin ≡ coin % 2 ^ used (dim (dim_in f)) coin) where
    pub unused_bits_of_file : (answer : Result Verdict Refusal) → AnsweredFile f coin answer ↔ AnsweredFile f other answer
    unused_bits_of_file v = (onward_in_file coin other h l same v, onward_in_file other coin l h (same-used-back (dim (dim_in f)) coin other same) v)

    -- and the calls from C.
    pub unused_bits-from-c : (before after r : ℕ) → HostAnswer f coin before after r ↔ HostAnswer f other before after r
    unused_bits-from-c before after r = ((λ (v, a, e, g). (v, (unused_bits_of_file v).0 a, e, g)), λ (v, a, e, g). (v, (unused_bits_of_file v).1 a, e, g))

    pub unused_bits-degree : (before after : Rejection) (r : ℕ) → HostDegree f coin before after r ↔ HostDegree f other before after r
    unused_bits-degree before after r = ((λ (v, a, e, g). (v, (unused_bits_of_file v).0 a, e, g)), λ (v, a, e, g). (v, (unused_bits_of_file v).1 a, e, g))
