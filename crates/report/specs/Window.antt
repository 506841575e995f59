-- The window on a stream: its next bytes, as many as a file may have, and how it moves on. Assumes nothing.
use Rattle.std.specs.Prelude.{◌≡◌, List, ◌++◌, ℕ, ◌+◌, ◌-◌, ◌≤◌, length, take, drop}
use Rattle.std.proofs.Common.{sym, ap, ◌∙◌, arith, take-add}
use Rattle.lists.specs.All.{drop-take}
use Rattle.stored.specs.File.{file_limit}

-- the bytes from `by` up to `end` stand at the front; nothing is said of what follows them
pub record Slid (by end : ℕ) (old new : List ℕ) : Type 0 where
  pub kept : length new ≡ length old
  pub front : take (end - by) new ≡ take (end - by) (drop by old)

-- the window on what is left of the stream
abbrev pub window_on : List ℕ → List ℕ
window_on s = take file_limit s

-- where n bytes of the stream s are held, those that come next make them the window
pub window_filled : (s held : List ℕ) (n : ℕ) → n ≤ file_limit → take n held ≡ take n s → take n held ++ take (file_limit - n) (drop n s) ≡ window_on s
window_filled s held n h e =
    ap (λ (xs : List ℕ). xs ++ take (file_limit - n) (drop n s)) e
    ∙ sym (take-add n (file_limit - n) s)
    ∙ ap (λ (m : ℕ). take m s) {x = n + (file_limit - n)} {y = file_limit} (omega arith)

-- moved past a file of `by` bytes, what is held is the front of what is left
module _ (s old new : List ℕ) (by end : ℕ) (h : by ≤ end) where
  cut : (xs : List ℕ) → take (end - by) (drop by xs) ≡ drop by (take end xs)
  cut xs = sym (drop-take by (end - by) xs) ∙ ap (λ (m : ℕ). drop by (take m xs)) {x = by + (end - by)} {y = end} (omega arith)

  pub window_slid : take end old ≡ take end s → Slid by end old new → take (end - by) new ≡ take (end - by) (drop by s)
  window_slid e m = m.front ∙ cut old ∙ ap (drop by) e ∙ sym (cut s)
