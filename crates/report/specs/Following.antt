-- What follows a file in a stream. Assumes nothing.
use Rattle.std.specs.Prelude.{◌≡◌, refl, Result, Ok, Err, MatchResult, List, [], ◌∷◌, ◌++◌, ℕ, zero, suc, ◌≤◌, ◌<◌, length, take, drop}
use Rattle.std.proofs.Common.{sym, ap, ◌∙◌, subst, inl, inr, append_assoc, arith, take-append-drop, take_at}
use Rattle.std.proofs.lemmas.List.{drop-append-le}
use Rattle.lists.specs.Alike.{Alike, alike_answers}
use Rattle.lists.specs.Answers.{Passes, passes-each}
use Rattle.stored.specs.Accepted.{Accepted}
use Rattle.stored.proofs.Accepted.{accepted, setting_numbered, prefix-passes}
use Rattle.stored.specs.File.{word_record_at, form_in, degree_in, dim_in, end_in}
use Rattle.stored.specs.Reader.{setting_checks, symbol_checks, file_checks}
use Rattle.refusals.specs.Gives.{one_reason}
use Rattle.refusals.specs.declared.Refusal.{Refusal}
use Rattle.refusals.specs.declared.Refusal.TheVariants.{NoRecord}
use Rattle.coins.specs.Answer.{counted-file, counted_length}
use Rattle.coins.specs.Totals.{Swept, count_checks}
use Rattle.report.specs.Bounds.{told_bounded}
use Rattle.report.specs.Entry.{entry_checks, file_in, Told}
use Rattle.report.specs.EntryLaws.{records-answer, entry-counted, file_length}
use Rattle.report.specs.Prefix.{same_end, setting_alike, symbol_alike}
use Rattle.report.specs.Report.{most_files, Entries, Reported}
use Rattle.report.specs.Total.{sum_of, total_of}
use Rattle.report.specs.declared.Entry.{Entry}
use Rattle.report.specs.declared.Total.{Total}

-- ---- a file that the counter takes, and what follows it

module _ (f t : List ℕ) (p : Passes (count_checks f)) where
  abbrev s : List ℕ
  s = f ++ t

  file-passes : Passes (file_checks f)
  file-passes = counted-file f p

  front : take (length f) s ≡ f
  front = take_at f t (length f) refl

  held : Accepted f
  held = accepted f file-passes

  start : 7 ≤ length f
  start = omega (arith, held.records.head.opened.present)

  ends : end_in s ≡ length f
  ends = sym (subst (λ (g : List ℕ). end_in g ≡ end_in s) front (same_end (length f) s start)) ∙ sym held.whole

  inside : word_record_at (form_in s) (dim_in s) ≤ length f
  inside = omega (arith, ends)

  -- bytes that follow are no refusal
  pub following_passes : Passes (entry_checks s)
  following_passes =
      let parts = passes-each (setting_checks f) (symbol_checks (form_in f) f (dim_in f) (degree_in f)) (setting_numbered f) (prefix-passes f held.records) in
      records-answer s 0
      (alike_answers (setting_checks f) (setting_checks s) (subst (λ (g : List ℕ). Alike (setting_checks g) (setting_checks s)) front (setting_alike (length f) s start (λ _. inside))) 0 parts.0)
      (omega (arith, ends, counted_length f p))
      (alike_answers (symbol_checks (form_in f) f (dim_in f) (degree_in f)) (symbol_checks (form_in s) s (dim_in s) (degree_in s))
      (subst (λ (g : List ℕ). Alike (symbol_checks (form_in g) g (dim_in g) (degree_in g)) (symbol_checks (form_in s) s (dim_in s) (degree_in s))) front (symbol_alike (length f) s start (omega (arith, ends)))) 0 parts.1)

  -- and the next file begins where this one ends
  pub following_file : (file_in s ≡ f) × (end_in s ≡ length f)
  following_file = (ap (λ (n : ℕ). take n s) ends ∙ front, ends)

-- ---- a longer stream

-- an accepted file has the same entry, whatever is put after the stream
told-longer : (s u : List ℕ) (e : Entry) → Told s (Ok e) → Told (s ++ u) (Ok e)
told-longer s u e (p, (t, g)) =
    let f = file_in s in
    let n = end_in s in
    let c = entry-counted s p in
    let same : f ++ (drop n s ++ u) ≡ s ++ u = sym (append_assoc f (drop n s) u) ∙ ap (λ (xs : List ℕ). xs ++ u) (take-append-drop n s) in
    let (file, end) = following_file f (drop n s ++ u) c in
    subst (λ (xs : List ℕ). Told xs (Ok e)) same (
      following_passes f (drop n s ++ u) c,
      (subst (λ (xs : List ℕ). Swept xs e.sweep.k e.sweep.coins e.sweep.rejects e.sweep.most) (sym file) t, g ∙ sym (file_length s p) ∙ sym end),
    )

-- all n files are accepted
entries_longer : (n : ℕ) (s u : List ℕ) (es : List (Result Entry Refusal)) → Entries n s es → sum_of (λ x. 1) es ≡ n → Entries n (s ++ u) es
entries_longer zero s u es l h = l
entries_longer (suc n) [] u es l h = absurd (omega (arith, h, ap (sum_of (λ x. 1)) l))
entries_longer (suc n) (b ∷ s) u es (e, rest, t, g, k) h = by (λ (x : Entry). entries_longer n (drop x.end (b ∷ s)) u rest) e t g k
  where
    by : ((x : Entry) → Entries n (drop x.end (b ∷ s)) rest → sum_of (λ y. 1) rest ≡ n → Entries n (drop x.end (b ∷ s) ++ u) rest)
        → (e : Result Entry Refusal) → Told (b ∷ s) e → es ≡ e ∷ rest → MatchResult e (λ x. Entries n (drop x.end (b ∷ s)) rest) (λ r. rest ≡ []) → Entries (suc n) ((b ∷ s) ++ u) es
    by ih (Ok x) t g k = (
      Ok x,
      rest,
      told-longer (b ∷ s) u x t,
      g,
      subst (λ (xs : List ℕ). Entries n xs rest) (sym (drop-append-le x.end (b ∷ s) u (told_bounded (b ∷ s) x t).end))
          (ih x k (omega (arith, h, ap (sum_of (λ y. 1)) g))),
    )
    by ih (Err r) t g k = absurd (omega (arith, h, ap (sum_of (λ y. 1)) (g ∙ ap (λ (xs : List (Result Entry Refusal)). Err r ∷ xs) k)))

-- past as many files as are read, nothing changes the report
pub past_the_last : (s u : List ℕ) (es : List (Result Entry Refusal)) (t : Total) → Reported s es t → t.files ≡ most_files → Reported (s ++ u) es t
unfolding total_of
past_the_last s u es t (l, g) h = (entries_longer most_files s u es l (ap (λ (x : Total). x.files) (sym g) ∙ h), g)

-- fewer bytes than a setting record begins with
pub too_short : (s : List ℕ) (r : Result Entry Refusal) → length s < 7 → Told s r → r ≡ Err NoRecord
too_short s (Ok e) h (inl (n, z), t) = absurd (omega arith)
too_short s (Ok e) h (inr (n, p), t) = absurd (n (λ o. omega (arith, o.present)))
too_short s (Err e) h (l, inl (n, z)) = ap Err (one_reason z)
too_short s (Err e) h (l, inr (n, a)) = absurd (n (λ o. omega (arith, o.present)))
