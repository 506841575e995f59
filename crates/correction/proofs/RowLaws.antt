-- `Added` after each part of a list. Assumes nothing.
use mathlib.Core.Path.{◌≡◌, refl, ap, ap₂, ◌∙◌}
use mathlib.Core.Logic.{◌⊎◌, inl, inr}
use mathlib.Core.List.{List}
use Prim.Native.Nat.{ℕ, ◌+◌, ◌-◌, ◌≤◌, ◌<◌}
use native.Mathlib.Decide.{dec_lt}
use native.Mathlib.Omega.{arith}
use lib.ListN.{length, get_or}
use Rattle.lists.specs.All.{All, IsZero, All-at}
use Rattle.lists.specs.Stretch.{Apart}
use Rattle.field.specs.Binary.{◌⊕◌, product}
use Rattle.field.specs.Products.{accumulated}
use Rattle.field.specs.Xor.{xor_zero_left}
use Rattle.field.proofs.Accumulate.{length_accumulated, accumulated-at, accumulated_outside, accumulated-below}
use Rattle.correction.specs.Rows.{Added}

module _ (q c from to n : ℕ) (pos : 0 < q) (old : List ℕ) (apart : Apart n from to (length old)) (i : ℕ) (ts : List ℕ) (z : All IsZero ts) (fits : i + length ts ≤ n)
    (new : List ℕ) (s : Added q c from to i old new) where
  pub row_apart : Apart (length ts) (from + i) (to + i) (length new)
  row_apart =
      record {
        first = omega (arith, s.kept, apart.first);
        second = omega (arith, s.kept, apart.second);
        apart = by apart.apart;
      }
    where
      by : (from + n ≤ to) ⊎ (to + n ≤ from) → (from + i + length ts ≤ to + i) ⊎ (to + i + length ts ≤ from + i)
      by (inl h) = inl (omega arith)
      by (inr h) = inr (omega arith)

  abbrev next : List ℕ
  next = accumulated q c ts (from + i) (to + i) new

  -- a number that is read was not written
  unread : (j : ℕ) → j < n → get_or new (from + j) 0 ≡ get_or old (from + j) 0
  unread j h = s.outside (from + j) (by apart.apart)
    where
      by : (from + n ≤ to) ⊎ (to + n ≤ from) → (from + j < to) ⊎ (to + i ≤ from + j)
      by (inl l) = inl (omega arith)
      by (inr l) = inr (omega arith)

  here : (j : ℕ) → i ≤ j → j < i + length ts → get_or next (to + j) 0 ≡ get_or old (to + j) 0 ⊕ product q c (get_or old (from + j) 0)
  here j l h =
      accumulated-at q c ts (from + i) (to + i) new row_apart (j - i) (to + j) (from + j) (omega arith) (omega arith) (omega arith)
      ∙ ap₂ (λ (u v : ℕ). u ⊕ product q (get_or ts (j - i) 0 ⊕ c) v) (s.outside (to + j) (inr (omega arith))) (unread j (omega arith))
      ∙ ap (λ (t : ℕ). get_or old (to + j) 0 ⊕ product q t (get_or old (from + j) 0)) (ap (λ (t : ℕ). t ⊕ c) (All-at IsZero ts 0 z refl (j - i)) ∙ xor_zero_left c)

  pub added_next : (k : ℕ) → k ≡ i + length ts → Added q c from to k old next
  added_next k e =
      record {
        kept = length_accumulated q c ts (from + i) (to + i) new row_apart ∙ s.kept;
        below = accumulated-below q c pos ts (from + i) (to + i) new row_apart s.below;
        inside = λ j h. at j (omega arith) (dec_lt j i);
        outside = λ p h. accumulated_outside q c ts (from + i) (to + i) new row_apart p (wide p h) ∙ s.outside p (wider p h);
      }
    where
      at : (j : ℕ) → j < i + length ts → Dec (j < i) → get_or next (to + j) 0 ≡ get_or old (to + j) 0 ⊕ product q c (get_or old (from + j) 0)
      at j h (yes l) = accumulated_outside q c ts (from + i) (to + i) new row_apart (to + j) (inl (omega arith)) ∙ s.inside j l
      at j h (no l) = here j (omega arith) h

      wide : (p : ℕ) → (p < to) ⊎ (to + k ≤ p) → (p < to + i) ⊎ (to + i + length ts ≤ p)
      wide p (inl h) = inl (omega arith)
      wide p (inr h) = inr (omega arith)

      wider : (p : ℕ) → (p < to) ⊎ (to + k ≤ p) → (p < to) ⊎ (to + i ≤ p)
      wider p (inl h) = inl h
      wider p (inr h) = inr (omega arith)
