-- Differences counted from the front. Assumes nothing.
use mathlib.Core.Path.{◌≡◌, refl, sym, ap, ◌∙◌}
use mathlib.Core.List.{List, [], ◌∷◌}
use Prim.Native.Nat.{ℕ, zero, suc, ◌+◌, ◌<◌}
use native.Mathlib.Nat.{zero-add, add_assoc}
use native.Mathlib.Numerals.{add-one}
use native.Mathlib.Omega.{arith}
use borrow.Author.Tests.{eq-eqb, ne_eqb}
use lib.Dec.{eqb}
use lib.ListN.{length, get_or, drop}
use Rattle.lists.specs.Pick.{pick, pick_true, pick_false}
use Rattle.correction.specs.Differences.{differences}

-- the differences from position i on
pub differences-from : (i : ℕ) (xs ys : List ℕ) → i < length xs → i < length ys
    → differences (drop i xs) (drop i ys) ≡ pick (eqb (get_or xs i 0) (get_or ys i 0)) 0 1 + differences (drop (suc i) xs) (drop (suc i) ys)
differences-from i [] ys h l = absurd (omega arith)
differences-from i (x ∷ xs) [] h l = absurd (omega arith)
differences-from zero (x ∷ xs) (y ∷ ys) h l = refl
differences-from (suc i) (x ∷ xs) (y ∷ ys) h l = differences-from i xs ys (omega arith) (omega arith)

-- counted from the front: n differences before position i
module _ (xs ys : List ℕ) (i n : ℕ) (h : i < length xs) (l : i < length ys) where
  pub differences-same : get_or xs i 0 ≡ get_or ys i 0 → n + differences (drop i xs) (drop i ys) ≡ n + differences (drop (i + 1) xs) (drop (i + 1) ys)
  differences-same e =
      ap (λ (t : ℕ). n + t)
      (differences-from i xs ys h l ∙ ap (λ (t : ℕ). t + differences (drop (suc i) xs) (drop (suc i) ys)) (pick_true 0 1 (eq-eqb (get_or xs i 0) (get_or ys i 0) e)) ∙ zero-add (differences (drop (suc i) xs) (drop (suc i) ys)))
      ∙ ap (λ (j : ℕ). n + differences (drop j xs) (drop j ys)) (sym (add-one i))

  pub differences-other : (get_or xs i 0 ≡ get_or ys i 0 → ⊥) → n + differences (drop i xs) (drop i ys) ≡ n + 1 + differences (drop (i + 1) xs) (drop (i + 1) ys)
  differences-other e =
      ap (λ (t : ℕ). n + t)
      (differences-from i xs ys h l ∙ ap (λ (t : ℕ). t + differences (drop (suc i) xs) (drop (suc i) ys)) (pick_false 0 1 (ne_eqb (get_or xs i 0) (get_or ys i 0) e)))
      ∙ sym (add_assoc n 1 (differences (drop (suc i) xs) (drop (suc i) ys)))
      ∙ ap (λ (j : ℕ). n + 1 + differences (drop j xs) (drop j ys)) (sym (add-one i))
