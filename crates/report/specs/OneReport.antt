-- The report on a stream is one: entries and total, and each call on the way. Assumes nothing.
use Rattle.std.specs.Prelude.{◌≡◌, Some, Result, Ok, Err, MatchResult, List, [], ◌∷◌, ℕ, zero, suc, drop}
use Rattle.std.proofs.Common.{sym, ap, ap₂, ◌∙◌, subst, inl, inr}
use Rattle.lists.specs.Answers.{Passes}
use Rattle.refusals.specs.Gives.{gives_one}
use Rattle.refusals.specs.declared.Refusal.{Refusal}
use Rattle.coins.specs.Answer.{swept_one}
use Rattle.coins.specs.Totals.{Swept}
use Rattle.stored.specs.File.{end_in}
use Rattle.report.specs.Entry.{entry_checks, file_in, Told}
use Rattle.report.specs.Report.{most_files, Entries, Reported, Next}
use Rattle.report.specs.Total.{total_of, with_entry}
use Rattle.report.specs.declared.Entry.{Entry}
use Rattle.report.specs.declared.Report.{Report}
use Rattle.report.specs.declared.Total.{Total}

-- the entry of a file
pub one_entry : (s : List ℕ) (d e : Result Entry Refusal) → Told s d → Told s e → d ≡ e
one_entry s = gives_one (λ e. Swept (file_in s) e.sweep.k e.sweep.coins e.sweep.rejects e.sweep.most × (e.end ≡ end_in s)) (entry_checks s) one
  where
    one : (d e : Entry) → Passes (entry_checks s) → Swept (file_in s) d.sweep.k d.sweep.coins d.sweep.rejects d.sweep.most × (d.end ≡ end_in s)
        → Swept (file_in s) e.sweep.k e.sweep.coins e.sweep.rejects e.sweep.most × (e.end ≡ end_in s) → d ≡ e
    one d e p (t, g) (u, h) =
        let (k, coins, rejects, most) = swept_one t u in
        let end : d.end ≡ e.end = g ∙ sym h in
        λ i. record { sweep = record { k = k i; coins = coins i; rejects = rejects i; most = most i }; end = end i }

-- the entries of a stream
one_list : (n : ℕ) (s : List ℕ) (ds es : List (Result Entry Refusal)) → Entries n s ds → Entries n s es → ds ≡ es
one_list zero s ds es a b = a ∙ sym b
one_list (suc n) [] ds es a b = a ∙ sym b
one_list (suc n) (x ∷ s) ds es (d, rest, t, g, a) (e, rest', u, h, b) = g ∙ ap₂ ◌∷◌ same (tails (λ (c : Entry). one_list n (drop c.end (x ∷ s)) rest rest') d e same a b) ∙ sym h
  where
    same : d ≡ e
    same = one_entry (x ∷ s) d e t u

    tails : ((c : Entry) → Entries n (drop c.end (x ∷ s)) rest → Entries n (drop c.end (x ∷ s)) rest' → rest ≡ rest')
        → (d e : Result Entry Refusal) → d ≡ e → MatchResult d (λ c. Entries n (drop c.end (x ∷ s)) rest) (λ r. rest ≡ [])
        → MatchResult e (λ c. Entries n (drop c.end (x ∷ s)) rest') (λ r. rest' ≡ []) → rest ≡ rest'
    tails ih (Ok d) (Ok e) eq l m = let same : d ≡ e = cc in ih e (subst (λ (c : Entry). Entries n (drop c.end (x ∷ s)) rest) same l) m
    tails ih (Ok d) (Err e) eq l m = cc
    tails ih (Err d) (Ok e) eq l m = cc
    tails ih (Err d) (Err e) eq l m = l ∙ sym m

-- the report
pub one_report : (s : List ℕ) (ds es : List (Result Entry Refusal)) (t u : Total) → Reported s ds t → Reported s es u → (ds ≡ es) × (t ≡ u)
one_report s ds es t u (a, g) (b, h) = let same = one_list most_files s ds es a b in (same, g ∙ ap total_of same ∙ sym h)

-- one more file
pub one-next : (s : List ℕ) (p q r : Report) → Next s p q → Next s p r → q ≡ r
one-next s p q r (inl (o, h, a)) (inl (o', h', b)) =
    let entry = one_entry s a.entry b.entry a.told b.told in
    let read : q.read ≡ r.read = a.read ∙ sym b.read in
    let latest : q.latest ≡ r.latest = a.latest ∙ ap Some entry ∙ sym b.latest in
    let total : q.total ≡ r.total = a.total ∙ ap (with_entry p.total) entry ∙ sym b.total in
    λ i. record { read = read i; latest = latest i; total = total i }
one-next s p q r (inl (o, h, a)) (inr (n, e)) = absurd (n (o, h))
one-next s p q r (inr (n, e)) (inl (o, h, b)) = absurd (n (o, h))
one-next s p q r (inr (n, e)) (inr (m, g)) = e ∙ sym g
