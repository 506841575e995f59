-- The counter's answer: from its stages, and that it is one. Assumes nothing.
use Rattle.std.specs.Prelude.{◌≡◌, refl, ◌↔◌, Result, Ok, Err, ℕ, ◌^◌, ◌≤◌, ◌<◌, length}
use Rattle.std.proofs.Common.{sym, ◌∙◌, inl, pow_pos}
use Rattle.std.proofs.Math.Path.{ap, subst}
use Rattle.std.proofs.Math.Logic.{inr}
use mathlib.Core.List.{List, List-discrete}
use Rattle.std.proofs.Math.Decide.{ℕ_discrete}
use native.Mathlib.Omega.{arith}
use Rattle.lists.specs.All.{Below, All-at}
use Rattle.lists.specs.Answers.{Passes, Refuses}
use Rattle.refusals.specs.Gives.{gives_one}
use Rattle.refusals.specs.Refusal.{number}
use Rattle.refusals.specs.declared.Refusal.{Refusal}
use Rattle.refusals.specs.declared.Refusal.TheVariants.{Length}
use Rattle.field.specs.Checks.{not-less}
use Rattle.field.specs.Laws.{Ops, IsField}
use Rattle.field.specs.Symbols.{symbols}
use Rattle.poly.specs.Codeword.{Basis}
use Rattle.space.specs.Sound.{sound_field}
use Rattle.proximity.specs.Dim.{dim, S, R}
use Rattle.proximity.specs.Verdict.{verdict, degree_exists}
use Rattle.proximity.specs.Verifier.{Accepts, positions, leaf_dim}
use Rattle.verifier.specs.Checker.{symbols_at, reads_of}
use Rattle.stored.specs.Accepted.{Accepted}
use Rattle.stored.proofs.Accepted.{accepted}
use Rattle.stored.proofs.CheckLaws.{coin_passes}
use Rattle.stored.specs.File.{file_limit, word_start, proof_start, form_in, modulus_in, degree_in, dim_in, basis_in, narrow_in, word_in, proof_in}
use Rattle.stored.specs.InRange.{symbols-below}
use Rattle.stored.specs.Packed.{length_numbers}
use Rattle.stored.specs.Passed.{length_basis}
use Rattle.stored.specs.Reader.{file_checks}
use Rattle.coins.specs.Counted.{Counted, counted-one, counted_none}
use Rattle.coins.specs.OffLaws.{off_one}
use Rattle.coins.specs.Totals.{Rejects, Swept, count_checks, Totals, Told}
use Rattle.coins.specs.declared.Counts.{Counts}

-- ---- from the stages

module _ (f : List ℕ) where
  pub told-long : file_limit < length f → Told f (Err Length)
  told-long h = (omega arith, inl (h, refl))

  module _ (h : length f ≤ file_limit) where
    pub told_refused : (e : Refusal) → Refuses (file_checks f) (number e) → Told f (Err e)
    told_refused e (l, a) = (l, inr ((λ k. omega arith), a))

    pub told_totals : Passes (file_checks f) → (c : Counts) → Totals f c → Told f (Ok c)
    told_totals p c t = (inr ((λ k. omega arith), p), t)

-- ---- an accepted file

equation_stable : {A : Type 0} {xs ys : List ℕ} → A ↔ (xs ≡ ys) → ((A → ⊥) → ⊥) → A
equation_stable {A} {xs} {ys} iff n = by (List-discrete ℕ_discrete xs ys)
  where
    by : Dec (xs ≡ ys) → A
    by (yes e) = iff.1 e
    by (no g) = absurd (n (λ a. g (iff.0 a)))

module _ (f : List ℕ) where
  pub counted_length : Passes (count_checks f) → length f ≤ file_limit
  counted_length (inl a) = absurd (omega arith)
  counted_length (inr a) = not-less a.0

  pub counted-file : Passes (count_checks f) → Passes (file_checks f)
  counted-file (inl a) = absurd (omega arith)
  counted-file (inr a) = a.1

  pub word_length : length (word_in f) ≡ 2 ^ length (basis_in f)
  unfolding word_in
  word_length = length_numbers (narrow_in f) f (word_start (form_in f) (dim_in f)) (2 ^ dim_in f) ∙ ap (λ (k : ℕ). 2 ^ k) (sym (length_basis f))

  module _ (p : Passes (file_checks f)) where
    abbrev K : Ops
    K = symbols (modulus_in f)

    held : Accepted f
    held = accepted f p

    field : IsField K
    field = sound_field held.records.setting

    basis : Basis K (dim_in f) (basis_in f)
    basis = subst (λ (k : ℕ). Basis K k (basis_in f)) (length_basis f) held.records.setting.basis

    -- the symbols that a coin reads
    proof_length : length (proof_in f) ≡ S (dim_in f)
    unfolding proof_in
    proof_length = length_numbers (narrow_in f) f (proof_start (form_in f) (degree_in f) (dim_in f)) (S (dim_in f))

    word-long : length (word_in f) ≡ 2 ^ dim_in f
    word-long = word_length ∙ ap (λ (k : ℕ). 2 ^ k) (length_basis f)

    read_below : (coin : ℕ) → Below (2 ^ degree_in f) (symbols_at (dim_in f) (word_in f) (proof_in f) coin)
    unfolding word_in proof_in
    read_below coin =
        symbols-below (2 ^ degree_in f) (word_in f) (proof_in f) (pow_pos (degree_in f)) held.records.word.symbols held.records.proof.symbols
        (positions (dim (dim_in f)) coin)

    abbrev AcceptsAt : ℕ → Type 0
    AcceptsAt coin = Accepts K (dim (dim_in f)) (basis_in f) (word_in f) (proof_in f) coin

    -- acceptance is decided
    accepts_stable : (coin : ℕ) → ((AcceptsAt coin → ⊥) → ⊥) → AcceptsAt coin
    accepts_stable coin =
        equation_stable
        (verdict field (dim (dim_in f)) (basis_in f) (word_in f) (proof_in f) basis word-long proof_length coin
        (λ i h. All-at (λ (x : ℕ). x < 2 ^ degree_in f) (symbols_at (dim_in f) (word_in f) (proof_in f) coin) 0 (read_below coin) (pow_pos (degree_in f)) i))

    -- a coin that does not accept is answered by a reject
    rejected : (coin : ℕ) → coin < 2 ^ R (dim_in f) → (AcceptsAt coin → ⊥) → Rejects f coin
    rejected coin h n =
        let (g, l) = degree_exists field (dim (dim_in f)) (basis_in f) (word_in f) (proof_in f) basis word-long proof_length coin (read_below coin) n in
        (record { reads = reads_of (dim_in f) coin; degree = g; dimension = leaf_dim (dim (dim_in f)) coin }, (coin_passes f coin p h, (refl, n, l, refl)))

    -- no coin rejects exactly when every coin accepts
    pub rejects_none : {c : ℕ} → Counted (Rejects f) (2 ^ R (dim_in f)) c → (c ≡ 0) ↔ ((coin : ℕ) → coin < 2 ^ R (dim_in f) → AcceptsAt coin)
    rejects_none a =
        let none = counted_none (Rejects f) (2 ^ R (dim_in f)) a in
        ((λ z coin h. accepts_stable coin (λ n. none.0 z coin h (rejected coin h n))), λ g. none.1 (λ coin h (r, (q, (e, s, l, d))). s (g coin h)))

-- ---- the answer is one

-- what all coins tell is one
pub swept_one : {f : List ℕ} {k j n m r s a b : ℕ} → Swept f k n r a → Swept f j m s b → (k ≡ j) × (n ≡ m) × (r ≡ s) × (a ≡ b)
swept_one {f} t u = (
  t.dimension ∙ sym u.dimension,
  t.all ∙ sym u.all,
  counted-one (Rejects f) (2 ^ R (dim_in f)) t.rejecting u.rejecting,
  t.reads ∙ sym u.reads,
)

module _ (f : List ℕ) where
  same_totals : (c d : Counts) → Passes (count_checks f) → Totals f c → Totals f d → c ≡ d
  same_totals c d p t u =
      let (k, coins, rejects, most) = swept_one t.swept u.swept in
      let off : c.off ≡ d.off = off_one (modulus_in f) (basis_in f) (held f (counted-file f p)).records.setting (word_in f) (word_length f) c.off d.off t.off u.off in
      λ i. record { sweep = record { k = k i; coins = coins i; rejects = rejects i; most = most i }; off = off i }

  pub one-count : (r s : Result Counts Refusal) → Told f r → Told f s → r ≡ s
  one-count = gives_one (Totals f) (count_checks f) same_totals
