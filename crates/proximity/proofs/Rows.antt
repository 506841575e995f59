-- Sums of rows of a table, and a row that is replaced. Assumes nothing.
use mathlib.Core.Path.{◌≡◌, sym, ap, ap₂, ◌∙◌}
use mathlib.Core.Logic.{◌⊎◌, inl, inr}
use mathlib.Core.List.{List}
use Prim.Native.Nat.{ℕ, ◌+◌, ◌*◌, ◌/◌, ◌%◌, ◌≤◌, ◌<◌}
use native.Mathlib.Decide.{dec_lt, ℕ_discrete}
use native.Mathlib.Numerals.{add-one}
use native.Mathlib.Omega.{arith}
use borrow.Author.Tests.{lt-ltb, le-ltb, eq-eqb, ne_eqb}
use lib.Dec.{eqb}
use lib.ListN.{length, get_or, drop, replicate, length-replicate, drop_of_length-le}
use lib.Seq.{ext_get_or, drop-cons}
use Rattle.lists.specs.Filled.{Filled}
use Rattle.lists.specs.Pick.{pick, pick_true, pick_false}
use Rattle.lists.specs.Tables.{tab, length_tab, get_or_tab}
use Rattle.lists.specs.All.{zeros-at}
use Rattle.field.specs.Binary.{◌⊕◌}
use Rattle.field.specs.Symbols.{symbols}
use Rattle.field.specs.Xor.{xor_assoc, xor_comm, xor_zero_left}
use Rattle.poly.specs.Span.{bit_of, elem}
use Rattle.space.specs.Sizes.{max_dim, cells}
use Rattle.proximity.specs.Dim.{half, col_dim}
use Rattle.proximity.specs.LineImages.{added_row, image_column, element_images, row_images}

module _ (t : List ℕ) where
  pub length_added : (i : ℕ) (x : List ℕ) → length (added_row t i x) ≡ 16
  unfolding added_row
  length_added i x = length_tab 16 (λ j. get_or x j 0 ⊕ get_or t (16 * i + j) 0)

  pub added-at : (i : ℕ) (x : List ℕ) (j : ℕ) → j < 16 → get_or (added_row t i x) j 0 ≡ get_or x j 0 ⊕ get_or t (16 * i + j) 0
  unfolding added_row
  added-at i x j l = get_or_tab 16 (λ j. get_or x j 0 ⊕ get_or t (16 * i + j) 0) j 0 l

  module _ (h c r : ℕ) where
    abbrev sum_of : List ℕ → ℕ → ℕ
    sum_of = elem (symbols 0)

    -- x, with what the bits that are left add to it, is the sum
    pub record Summed (x : List ℕ) (rest i : ℕ) : Type 0 where
      pub count : length x ≡ 16
      pub sums : (j : ℕ) → j < 16 → get_or x j 0 ⊕ sum_of (drop i (image_column h c t j)) rest ≡ sum_of (image_column h c t j) r

    pub summed_none : Summed (replicate 16 0) r 0
    summed_none =
        record {
          count = length-replicate {A = ℕ} 16 0;
          sums = λ j l. ap (λ (y : ℕ). y ⊕ sum_of (image_column h c t j) r) (zeros-at 16 j) ∙ xor_zero_left (sum_of (image_column h c t j) r);
        }

    -- one more bit
    left : (i rest j u : ℕ) → i < c → rest % 2 ≡ u
        → sum_of (drop i (image_column h c t j)) rest ≡ bit_of u (get_or t (16 * (h + i) + j) 0) ⊕ sum_of (drop (i + 1) (image_column h c t j)) (rest / 2)
    left i rest j u l e =
        ap (λ (d : List ℕ). sum_of d rest) (drop-cons (image_column h c t j) i 0 (omega (arith, length_tab c (λ i. get_or t (16 * (h + i) + j) 0))))
        ∙ ap₂ (λ (v : ℕ) (d : List ℕ). bit_of (rest % 2) v ⊕ sum_of d (rest / 2)) (get_or_tab c (λ i. get_or t (16 * (h + i) + j) 0) i 0 l) (ap (λ (k : ℕ). drop k (image_column h c t j)) (sym (add-one i)))
        ∙ ap (λ (u : ℕ). bit_of u (get_or t (16 * (h + i) + j) 0) ⊕ sum_of (drop (i + 1) (image_column h c t j)) (rest / 2)) e

    pub summed_one : {x : List ℕ} {rest i : ℕ} → i < c → rest % 2 ≡ 1 → Summed x rest i → Summed (added_row t (h + i) x) (rest / 2) (i + 1)
    summed_one {x} {rest} {i} l e s =
        record {
          count = length_added (h + i) x;
          sums = λ j g. ap (λ (y : ℕ). y ⊕ sum_of (drop (i + 1) (image_column h c t j)) (rest / 2)) (added-at (h + i) x j g)
              ∙ xor_assoc (get_or x j 0) (get_or t (16 * (h + i) + j) 0) (sum_of (drop (i + 1) (image_column h c t j)) (rest / 2))
              ∙ ap (λ (y : ℕ). get_or x j 0 ⊕ y) (sym (left i rest j 1 l e)) ∙ s.sums j g;
        }

    pub summed_zero : {x : List ℕ} {rest i : ℕ} → i < c → rest % 2 ≡ 0 → Summed x rest i → Summed x (rest / 2) (i + 1)
    summed_zero {x} {rest} {i} l e s =
        record {
          count = s.count;
          sums = λ j g. ap (λ (y : ℕ). get_or x j 0 ⊕ y) (sym (left i rest j 0 l e ∙ xor_zero_left (sum_of (drop (i + 1) (image_column h c t j)) (rest / 2)))) ∙ s.sums j g;
        }

    -- the bits are used up
    pub summed_all : {x : List ℕ} {rest i : ℕ} → c ≤ i → Summed x rest i → x ≡ element_images h c t r
    unfolding element_images
    summed_all {x} {rest} {i} l s =
        ext_get_or 0 x (tab 16 (λ j. sum_of (image_column h c t j) r)) (s.count ∙ sym (length_tab 16 (λ j. sum_of (image_column h c t j) r)))
        (λ j n. let g : j < 16 = omega (arith, s.count) in
        let past : length (image_column h c t j) ≤ i = omega (arith, length_tab c (λ i. get_or t (16 * (h + i) + j) 0)) in
        sym (xor_comm (get_or x j 0) 0 ∙ xor_zero_left (get_or x j 0))
        ∙ ap (λ (d : List ℕ). get_or x j 0 ⊕ sum_of d rest) (sym (drop_of_length-le (image_column h c t j) past))
        ∙ s.sums j g ∙ sym (get_or_tab 16 (λ j. sum_of (image_column h c t j) r) j 0 g))

  module _ (k : ℕ) (s : 7 ≤ k) (top : k ≤ max_dim) (lt : length t ≡ cells) where
    -- a row below 4 has the table of the space
    pub row_low : (r : ℕ) → r < 4 → t ≡ row_images k t r
    unfolding row_images
    row_low r l = sym (pick_true t _ (lt-ltb r 4 l))

    -- row h + 2 is replaced
    pub row-filled : (r : ℕ) (x new : List ℕ) → 4 ≤ r → x ≡ element_images (half k) (col_dim k) t r → Filled (16 * (half k + 2)) 16 (λ j. get_or x j 0) t new → new ≡ row_images k t r
    unfolding row_images
    row-filled r x new l e f =
        ext_get_or 0 new (tab cells entry) (f.kept ∙ lt ∙ sym (length_tab cells entry))
        (λ p g. let n : p < cells = omega (arith, f.kept) in at p (ℕ_discrete (p / 16) (half k + 2)) ∙ sym (get_or_tab cells entry p 0 n))
        ∙ sym (pick_false t (tab cells entry) (le-ltb r 4 l))
      where
        entry : ℕ → ℕ
        entry p = pick (eqb (p / 16) (half k + 2)) (get_or (element_images (half k) (col_dim k) t r) (p % 16) 0) (get_or t p 0)

        apart : (p : ℕ) → (p / 16 ≡ half k + 2 → ⊥) → Dec (p < 16 * (half k + 2)) → (p < 16 * (half k + 2)) ⊎ (16 * (half k + 2) + 16 ≤ p)
        apart p q (yes u) = inl u
        apart p q (no u) = inr (over (λ v. q (omega arith)))
          where
            over : (p < 16 * (half k + 2) + 16 → ⊥) → 16 * (half k + 2) + 16 ≤ p
            over w = omega (arith, w)

        at : (p : ℕ) → Dec (p / 16 ≡ half k + 2) → get_or new p 0 ≡ entry p
        at p (yes q) =
            let place : 16 * (half k + 2) + p % 16 ≡ p = omega arith in
            ap (λ (p : ℕ). get_or new p 0) (sym place) ∙ f.inside (p % 16) (omega arith) ∙ ap (λ (y : List ℕ). get_or y (p % 16) 0) e
            ∙ sym (pick_true _ _ (eq-eqb (p / 16) (half k + 2) q))
        at p (no q) = f.outside p (apart p q (dec_lt p (16 * (half k + 2)))) ∙ sym (pick_false _ _ (ne_eqb (p / 16) (half k + 2) q))
