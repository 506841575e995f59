-- The printed sentences for the report over a stream of stored files. `Told s e` is the contract of report's `front` for its answer e on the
-- stream s, `Next` that of `next`; `Reported s es t` says that es and t are the report on the stream s.
use Rattle.std.specs.Prelude.{◌≡◌, refl, ◌↔◌, Bool, Result, Ok, Err, List, [], ◌++◌, ℕ, ◌+◌, ◌-◌, ◌≤◌, ◌<◌, length, take, drop}
use Rattle.std.proofs.Common.{sym, ap, ◌∙◌, inl, inr}
use Rattle.lists.specs.Answers.{Passes, not_refused}
use Rattle.lists.specs.Decides.{Decides}
use Rattle.refusals.specs.declared.Refusal.{Refusal}
use Rattle.refusals.specs.declared.Refusal.TheVariants.{NoRecord}
use Rattle.stored.specs.File.{file_limit, modulus_in, basis_in, shift_in, word_in, proof_in}
use Rattle.coins.specs.Answer.{swept_one}
use Rattle.coins.specs.Totals as counter
use Rattle.coins.specs.Totals.{count_checks}
use Rattle.coins.specs.declared.Counts.{Counts}
use Rattle.report.specs.Entry.{entry_checks, file_in, Told}
use Rattle.report.specs.EntryLaws as laws
use Rattle.report.specs.Following as following
use Rattle.report.specs.OneReport as one
use Rattle.report.specs.Report.{most_files, GoesOn, no_report, Next, Reported}
use Rattle.report.specs.Steps as steps
use Rattle.report.specs.Steps.{Steps}
use Rattle.report.specs.Total.{total_of}
use Rattle.report.specs.Window as window
use Rattle.report.specs.Window.{window_on, Slid}
use Rattle.report.specs.declared.Entry.{Entry}
use Rattle.report.specs.declared.Report.{Report}
use Rattle.report.specs.declared.Total.{Total}
use Rattle.prover.specs.Calls.{ProofAt}
use Rattle.terms.specs.Counts.{none_exactly}

-- ---- one answer

pub one_entry : (s : List ℕ) (d e : Result Entry Refusal) → Told s d → Told s e → d ≡ e
one_entry = one.one_entry

pub one-start : (q r : Report) → q ≡ no_report → r ≡ no_report → q ≡ r
one-start q r e g = e ∙ sym g

pub one-going-on : (p : Report) (a b : Bool) → Decides a (GoesOn p) → Decides b (GoesOn p) → a ≡ b
one-going-on p a b (inl (e, g)) (inl (h, k)) = e ∙ sym h
one-going-on p a b (inl (e, g)) (inr (h, k)) = absurd (k g)
one-going-on p a b (inr (e, g)) (inl (h, k)) = absurd (g k)
one-going-on p a b (inr (e, g)) (inr (h, k)) = e ∙ sym h

pub one-next : (s : List ℕ) (p q r : Report) → Next s p q → Next s p r → q ≡ r
one-next = one.one-next

-- The report on a stream is one, its entries and its total.
pub one_report : (s : List ℕ) (ds es : List (Result Entry Refusal)) (t u : Total) → Reported s ds t → Reported s es u → (ds ≡ es) × (t ≡ u)
one_report = one.one_report

-- ---- the stream and the window

-- The entry of the window is the entry of all that is left of the stream.
pub window_told : (s : List ℕ) (e : Result Entry Refusal) → Told (window_on s) e ↔ Told s e
window_told = laws.window_told

-- Where n bytes of the stream s are held, those that come next make them the window.
pub window_filled : (s held : List ℕ) (n : ℕ) → n ≤ file_limit → take n held ≡ take n s → take n held ++ take (file_limit - n) (drop n s) ≡ window_on s
window_filled = window.window_filled

-- Moved past a file of `by` bytes, what is held is the front of what is left.
pub window_slid : (s old new : List ℕ) (by end : ℕ) → by ≤ end → take end old ≡ take end s → Slid by end old new → take (end - by) new ≡ take (end - by) (drop by s)
window_slid = window.window_slid

-- The files of a stream, read through the window from the first on, give the report on the stream.
pub steps_report : (s : List ℕ) (es : List (Result Entry Refusal)) (q : Report) → Steps (most_files + 1) s no_report es q → Reported s es q.total
steps_report = steps.steps_report

-- Past as many files as are read, nothing that follows changes the report.
pub past_the_last : (s u : List ℕ) (es : List (Result Entry Refusal)) (t : Total) → Reported s es t → t.files ≡ most_files → Reported (s ++ u) es t
past_the_last = following.past_the_last

-- No bytes give no entries, and zeros for the total.
pub no_files : (es : List (Result Entry Refusal)) (t : Total) → Reported [] es t → (es ≡ []) × (t ≡ record { files = 0; coins = 0; rejects = 0 })
unfolding total_of
no_files es t (l, e) = (l, e ∙ ap total_of l)

-- Fewer than 7 bytes, one stray byte for one, get `NoRecord`, number 11.
pub too_short : (s : List ℕ) (e : Result Entry Refusal) → length s < 7 → Told s e → e ≡ Err NoRecord
too_short = following.too_short

-- ---- an entry and the coin counter

-- A file that the counter takes is accepted in a stream, whatever follows it: it is the file of its entry, and the next one begins where it ends.
pub whatever_follows : (f t : List ℕ) (r : Result Entry Refusal) → Passes (count_checks f) → Told (f ++ t) r → (e : Entry) × (r ≡ Ok e) × (file_in (f ++ t) ≡ f) × (e.end ≡ length f)
whatever_follows f t (Ok e) p (q, (s, g)) = let (file, end) = following.following_file f t p in (e, refl, file, g ∙ end)
whatever_follows f t (Err d) p r = absurd (not_refused (entry_checks (f ++ t)) (following.following_passes f t p) r)

-- The entry of an accepted file has the counter's numbers of that file.
pub entry_as_counted : (s : List ℕ) (e : Entry) (r : Result Counts Refusal) → Told s (Ok e) → counter.Told (file_in s) r
    → (c : Counts) × (r ≡ Ok c) × (e.sweep ≡ c.sweep)
entry_as_counted s e (Ok c) (p, (t, g)) (q, u) =
    let (k, coins, rejects, most) = swept_one t u.swept in
    (c, refl, λ i. record { k = k i; coins = coins i; rejects = rejects i; most = most i })
entry_as_counted s e (Err d) (p, (t, g)) r = absurd (not_refused (count_checks (file_in s)) (laws.entry-counted s p) r)

-- No coin of its file rejects exactly where the file's word evaluates a polynomial of degree below an eighth of its length at the shifted
-- elements, and its proof is the one laid out for it.
pub no_rejects_reported : (s : List ℕ) (e : Entry) → Told s (Ok e)
    → (e.sweep.rejects ≡ 0) ↔ ProofAt (modulus_in (file_in s)) (basis_in (file_in s)) (shift_in (file_in s)) (word_in (file_in s)) (proof_in (file_in s))
no_rejects_reported s e (p, (t, g)) = none_exactly (file_in s) (laws.entry-file s p) e.sweep.rejects t.rejecting
