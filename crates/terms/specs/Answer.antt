-- The checker's answer: there is one, and it hangs on the symbols that the coin reads alone. Assumes nothing.
use Rattle.std.specs.Prelude.{◌≡◌, Result, List, [], ◌∷◌, ◌++◌, ℕ, ◌^◌, length}
use Rattle.std.proofs.Common.{sym, ap, ◌∙◌}
use Rattle.std.proofs.Math.Path.{transport}
use Rattle.lists.specs.All.{All}
use Rattle.lists.specs.Answers.{Checks}
use Rattle.refusals.specs.Gives.{gives_one}
use Rattle.refusals.specs.declared.Refusal.{Refusal}
use Rattle.field.specs.Laws.{Ops}
use Rattle.field.specs.Symbols.{symbols}
use Rattle.poly.proofs.LeastDegree.{least_unique}
use Rattle.space.specs.Setting.{setting_checks}
use Rattle.proximity.specs.Dim.{dim, S}
use Rattle.proximity.specs.Reads.{same_reads}
use Rattle.proximity.specs.Verifier.{Accepts, leaf_dim, leaf_basis}
use Rattle.verifier.specs.Checker.{symbols_at, reads_of, delivery_checks, checker_checks, Judges, Judged, Answered, Told}
use Rattle.verifier.specs.declared.Verdict.{Verdict}
use Rattle.verifier.specs.declared.Verdict.TheVariants.{Accept, Reject}

-- by any table of checks
module _ (cs : Checks) (K : Ops) (k : ℕ) (bs w π : List ℕ) (coin : ℕ) where
  -- what a verdict says
  abbrev Says : Verdict → Type 0
  Says = Judges K (Accepts K (dim k) bs w π coin) (reads_of k coin) (leaf_dim (dim k) coin) (leaf_basis K (dim k) bs coin) (symbols_at k w π coin)

  one_verdict : (u v : Verdict) → Says u → Says v → u ≡ v
  one_verdict (Accept a) (Accept b) (e, s) (f, t) = ap Accept (e ∙ sym f)
  one_verdict (Accept a) (Reject b) (e, s) (f, t, h, d) = absurd (t s)
  one_verdict (Reject a) (Accept b) (e, s, g, c) (f, t) = absurd (s t)
  one_verdict (Reject a) (Reject b) (e, s, g, c) (f, t, h, d) =
      let reads : a.reads ≡ b.reads = e ∙ sym f in
      let degree : a.degree ≡ b.degree = least_unique g h in
      let dimension : a.dimension ≡ b.dimension = c ∙ sym d in
      λ i. Reject (record { reads = reads i; degree = degree i; dimension = dimension i })

  -- one answer
  pub answered-one : (u v : Result Verdict Refusal) → Answered cs K k bs w π coin u → Answered cs K k bs w π coin v → u ≡ v
  answered-one = gives_one Says cs (λ u v p. one_verdict u v)

-- two deliveries of one length, alike at the coin's positions
module _ (m : ℕ) (bs : List ℕ) (σ : ℕ) (w π v ρ : List ℕ) (coin : ℕ) (lw : length w ≡ 2 ^ length bs) (lπ : length π ≡ S (length bs)) (lv : length v ≡ 2 ^ length bs) (lρ : length ρ ≡ S (length bs))
    (same : symbols_at (length bs) w π coin ≡ symbols_at (length bs) v ρ coin) where
  same-checks : checker_checks m bs σ w π coin ≡ checker_checks m bs σ v ρ coin
  same-checks i =
      setting_checks m bs σ ++ delivery_checks (length bs) ((lw ∙ sym lv) i) ((lπ ∙ sym lρ) i) coin ++ ((9, (All (symbols m).Sym (same i) → ⊥)) ∷ [])

  same_accepts : Accepts (symbols m) (dim (length bs)) bs w π coin ≡ Accepts (symbols m) (dim (length bs)) bs v ρ coin
  same_accepts = same_reads (symbols m) (dim (length bs)) bs w π v ρ lw lπ lv lρ coin same

  -- by what the answer hangs on
  pub same_answer : (u : Result Verdict Refusal) → Told m bs σ w π coin u → Told m bs σ v ρ coin u
  same_answer u =
      transport (λ i. Judged (same-checks i) (symbols m) (same_accepts i) (reads_of (length bs) coin) (leaf_dim (dim (length bs)) coin) (leaf_basis (symbols m) (dim (length bs)) bs coin) (same i) u)
