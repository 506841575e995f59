-- What passes the checks of an entry is a stored file; the entry of the window is that of all that is left. Assumes nothing.
use Rattle.std.specs.Prelude.{◌≡◌, refl, ◌↔◌, Result, Ok, Err, List, [], ◌∷◌, ◌++◌, ℕ, ◌≤◌, ◌<◌, length, take}
use Rattle.std.proofs.Math.Path.{sym, ap, subst}
use Rattle.std.proofs.Common.{◌∙◌, inl, arith, take-take, length-take-le}
use Rattle.std.proofs.Math.Logic.{inr}
use Rattle.lists.specs.Alike.{Alike, alike_answers, alike_back, alike_path, alike_append}
use Rattle.lists.specs.Answers.{Checks, Answers, Passes, Numbered, answers-after, refused_first, passes-each}
use Rattle.field.specs.Checks.{not-less}
use Rattle.stored.specs.Accepted.{Prefix}
use Rattle.stored.proofs.Accepted.{setting_numbered, prefix_numbered, prefix-passed}
use Rattle.stored.specs.File.{word_record_at, file_limit, form_in, degree_in, dim_in, end_in}
use Rattle.stored.specs.Passed.{basis-first, record_size}
use Rattle.stored.specs.Reader.{setting_checks, symbol_checks, prefix_checks, file_checks, read_of}
use Rattle.stored.specs.declared.Reading.{Reading}
use Rattle.space.specs.Sizes.{max_dim}
use Rattle.refusals.specs.Refusal.{number}
use Rattle.refusals.specs.declared.Refusal.{Refusal}
use Rattle.coins.specs.Tally.{Readable}
use Rattle.coins.specs.Totals.{Swept, count_checks}
use Rattle.report.specs.Entry.{size_checks, entry_checks, file_in, Told}
use Rattle.report.specs.Prefix.{dimension, same_end, setting_alike, symbol_alike, read_alike}
use Rattle.report.specs.Window.{window_on}
use Rattle.report.specs.declared.Entry.{Entry}

size_numbered : (n : ℕ) → Numbered (size_checks n)
size_numbered n = (omega arith, tt)

size-passed : (n : ℕ) → Passes (size_checks n) → n ≤ file_limit
size-passed n (inl a) = absurd (omega arith)
size-passed n (inr a) = not-less a.0

-- ---- the answers on the way

module _ (s : List ℕ) where
  abbrev size : ℕ
  size = end_in s

  abbrev records : Checks
  records = symbol_checks (form_in s) s (dim_in s) (degree_in s)

  pub setting_refused : (n : ℕ) → 0 < n → Answers (setting_checks s) n → Answers (entry_checks s) n
  setting_refused n h a = refused_first (setting_checks s) (size_checks size ++ records) n h a

  pub size_refused : Passes (setting_checks s) → file_limit < size → Answers (entry_checks s) 6
  size_refused p h = answers-after (setting_checks s) (size_checks size ++ records) 6 (setting_numbered s) p (inl (h, refl))

  pub records-answer : (n : ℕ) → Passes (setting_checks s) → size ≤ file_limit → Answers records n → Answers (entry_checks s) n
  records-answer n p h a = answers-after (setting_checks s) (size_checks size ++ records) n (setting_numbered s) p (inr ((λ l. omega arith), a))

  -- ---- what passes

  module _ (p : Passes (entry_checks s)) where
    parts : Passes (setting_checks s) × (size ≤ file_limit) × Passes records
    parts =
        let one = passes-each (setting_checks s) (size_checks size ++ records) (setting_numbered s) p in
        let two = passes-each (size_checks size) records (size_numbered size) one.1 in
        (one.0, size-passed size two.0, two.1)

    -- the three records at the front
    pub entry-records : Prefix s
    entry-records = prefix-passed s (answers-after (setting_checks s) records 0 (setting_numbered s) parts.0 parts.2)

    -- the file is there, and within the limit
    pub entry_present : size ≤ length s
    entry_present = entry-records.proof.present

    pub entry_limit : size ≤ file_limit
    entry_limit = parts.1

    long : 7 ≤ size
    long = omega (arith, basis-first (form_in s) (dim_in s))

    inside : word_record_at (form_in s) (dim_in s) ≤ size
    inside = omega arith

    abbrev file : List ℕ
    file = file_in s

    pub file_length : length file ≡ size
    file_length = length-take-le size s entry_present

    pub file_few : dim_in file ≤ max_dim
    file_few = omega (arith, dimension size s long, entry-records.head.high)

    -- it is a stored file that the counter takes
    pub entry-file : Passes (file_checks file)
    entry-file =
        answers-after (prefix_checks file) ((12, end_in file < length file) ∷ []) 0 (prefix_numbered file)
        (answers-after (setting_checks file) (symbol_checks (form_in file) file (dim_in file) (degree_in file)) 0 (setting_numbered file)
        (alike_back (setting_checks file) (setting_checks s) (setting_alike size s long (λ _. inside)) 0 parts.0)
        (alike_back (symbol_checks (form_in file) file (dim_in file) (degree_in file)) records (symbol_alike size s long (omega arith)) 0 parts.2))
        (inr ((λ h. omega (arith, file_length, same_end size s long)), refl))

    pub entry-counted : Passes (count_checks file)
    entry-counted = inr ((λ h. omega (arith, file_length, entry_limit)), entry-file)

    -- what the reader hands back of the records is what it hands back of the file
    pub entry_readable : (r : Reading) → r ≡ read_of s → Readable file r
    entry_readable r e = (entry-file, e ∙ sym (read_alike size s long inside))

-- ---- the window

module _ (s : List ℕ) where
  abbrev w : List ℕ
  w = window_on s

  window_end : end_in w ≡ end_in s
  window_end = same_end file_limit s (omega arith)

  -- the checks on the window answer as those on the stream
  pub window_checks : Alike (entry_checks w) (entry_checks s)
  window_checks =
      alike_append (setting_checks w) (setting_checks s) (size_checks (end_in w) ++ symbol_checks (form_in w) w (dim_in w) (degree_in w)) (size_checks (end_in s) ++ symbol_checks (form_in s) s (dim_in s) (degree_in s))
      (setting_alike file_limit s (omega arith) (λ h. omega (arith, record_size (form_in s) (dim_in s))))
      (λ _. alike_append (size_checks (end_in w)) (size_checks (end_in s)) (symbol_checks (form_in w) w (dim_in w) (degree_in w)) (symbol_checks (form_in s) s (dim_in s) (degree_in s))
      (alike_path size_checks window_end) (λ p. symbol_alike file_limit s (omega arith) (subst (λ (m : ℕ). m ≤ file_limit) window_end (size-passed (end_in w) p))))

  same-file : end_in s ≤ file_limit → file_in w ≡ file_in s
  same-file h = ap (λ (m : ℕ). take m w) window_end ∙ take-take (end_in s) file_limit s h

-- The entry of the window is the entry of all that is left of the stream.
pub window_told : (s : List ℕ) (r : Result Entry Refusal) → Told (window_on s) r ↔ Told s r
window_told s r = (to r, from r)
  where
    to : (r : Result Entry Refusal) → Told (window_on s) r → Told s r
    to (Ok e) (p, (t, g)) =
        let q = alike_answers (entry_checks (window_on s)) (entry_checks s) (window_checks s) 0 p in
        (q, (subst (λ (f : List ℕ). Swept f e.sweep.k e.sweep.coins e.sweep.rejects e.sweep.most) (same-file s (entry_limit s q)) t, g ∙ window_end s))
    to (Err d) (h, a) = (h, alike_answers (entry_checks (window_on s)) (entry_checks s) (window_checks s) (number d) a)

    from : (r : Result Entry Refusal) → Told s r → Told (window_on s) r
    from (Ok e) (p, (t, g)) = (
      alike_back (entry_checks (window_on s)) (entry_checks s) (window_checks s) 0 p,
      (subst (λ (f : List ℕ). Swept f e.sweep.k e.sweep.coins e.sweep.rejects e.sweep.most) (sym (same-file s (entry_limit s p))) t, g ∙ sym (window_end s)),
    )
    from (Err d) (h, a) = (h, alike_back (entry_checks (window_on s)) (entry_checks s) (window_checks s) (number d) a)
