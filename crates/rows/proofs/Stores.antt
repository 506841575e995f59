-- The stored blocks of the rows: their numbers, and a pass that stores one block of each row. Assumes nothing.
use mathlib.Core.Path.{◌≡◌, refl, sym, ap, ap₂, ◌∙◌, subst}
use mathlib.Core.Logic.{◌⊎◌, inl, inr}
use mathlib.Core.List.{List}
use Prim.Native.Nat.{ℕ, ◌+◌, ◌-◌, ◌*◌, ◌^◌, ◌≤◌, ◌<◌}
use native.Mathlib.Decide.{dec_lt, ℕ_discrete}
use native.Mathlib.Nat.{mul-le-mul_right, mul_comm}
use native.Mathlib.Omega.{arith}
use borrow.Author.Tests.{lt-ltb, le-ltb}
use borrow.Rule.Slice.PartMut.{put_mid}
use lib.ListN.{length, get_or, take, drop}
use lib.Pow.{pow_mono}
use Rattle.lists.specs.Filled.{Filled, filled-part, filled-other, put-filled}
use Rattle.lists.specs.Lanes.{lane, lane-is, length_lane, get_or_lane}
use Rattle.lists.specs.Overwrite.{length_cut}
use Rattle.lists.specs.Pick.{pick_true, pick_false}
use Rattle.lists.specs.Tables.{tab, length_tab, get_or_tab, part}
use Rattle.space.specs.Sizes.{max_dim}
use Rattle.proximity.specs.Dim.{half, col_dim}
use Rattle.proximity.specs.Proof.{slot, block}
use Rattle.proximity.specs.Subspaces.{pow_rows}
use Rattle.proximity.specs.Blocks.{block-before, block-after}
use Rattle.rows.specs.Rows.{number, row_lane, PassStored}

-- ---- numbers

pub number-before : (r j : ℕ) → j < slot r → number r j ≡ 7 * r + j
unfolding number
number-before r j h = ap (λ (i : ℕ). 7 * r + i) (pick_true j (j - 1) (lt-ltb j (slot r) h))

pub number-after : (r j : ℕ) → slot r ≤ j → number r j ≡ 7 * r + (j - 1)
unfolding number
number-after r j h = ap (λ (i : ℕ). 7 * r + i) (pick_false j (j - 1) (le-ltb j (slot r) h))

-- the number in each case
number-cases : (P : ℕ → Type 0) (r j : ℕ) → (j ≡ slot r → ⊥) → (j < slot r → P (7 * r + j)) → (slot r < j → P (7 * r + (j - 1))) → P (number r j)
number-cases P r j d f g = by (dec_lt j (slot r))
  where
    by : Dec (j < slot r) → P (number r j)
    by (yes h) = subst P (sym (number-before r j h)) (f h)
    by (no h) = subst P (sym (number-after r j (omega arith))) (g (over h))
      where
        over : (j < slot r → ⊥) → slot r < j
        over h = omega (arith, d)

pub number_lt : (r j : ℕ) → j < 8 → (j ≡ slot r → ⊥) → number r j < 7 * r + 7
number_lt r j h d = number-cases (λ (n : ℕ). n < 7 * r + 7) r j d (λ l. omega arith) (λ l. omega arith)

number_least : (r j : ℕ) → (j ≡ slot r → ⊥) → 7 * r ≤ number r j
number_least r j d = number-cases (λ (n : ℕ). 7 * r ≤ n) r j d (λ l. omega arith) (λ l. omega arith)

-- two blocks of one row have two numbers
number-row : (r i j : ℕ) → (i ≡ slot r → ⊥) → (j ≡ slot r → ⊥) → number r i ≡ number r j → i ≡ j
number-row r i j di dj =
    number-cases (λ (n : ℕ). n ≡ number r j → i ≡ j) r i di
    (λ l. number-cases (λ (n : ℕ). 7 * r + i ≡ n → i ≡ j) r j dj (λ g e. omega arith) (λ g e. omega arith))
    (λ l. number-cases (λ (n : ℕ). 7 * r + (i - 1) ≡ n → i ≡ j) r j dj (λ g e. omega arith) (λ g e. omega arith))

pub number-one : (r s i j : ℕ) → i < 8 → j < 8 → (i ≡ slot r → ⊥) → (j ≡ slot s → ⊥) → number r i ≡ number s j → (r ≡ s) × (i ≡ j)
number-one r s i j hi hj di dj e =
    let same : r ≡ s = omega (arith, number_lt r i hi di, number_lt s j hj dj, number_least r i di, number_least s j dj) in
    (same, number-row r i j di (λ z. dj (z ∙ ap slot same)) (e ∙ ap (λ (t : ℕ). number t j) (sym same)))

-- the stored blocks lie in the first 7 × 2^k symbols
pub number_fits : (k r j : ℕ) → r < 2 ^ col_dim k → j < 8 → (j ≡ slot r → ⊥) → number r j * 2 ^ half k + 2 ^ half k ≤ 7 * 2 ^ k
number_fits k r j hr hj d =
    let below : number r j + 1 ≤ 7 * 2 ^ col_dim k = omega (arith, number_lt r j hj d) in
    omega (arith, pow_rows k, mul-le-mul_right {m = number r j + 1} {n = 7 * 2 ^ col_dim k} (2 ^ half k) below)

-- a block that is stored
pub stored-block : (k : ℕ) (w π : List ℕ) (r j : ℕ) → (j ≡ slot r → ⊥) → block k w π r j ≡ part (2 ^ half k) (number r j) π
stored-block k w π r j d =
    number-cases (λ (n : ℕ). block k w π r j ≡ part (2 ^ half k) n π) r j d (λ h. block-before k w π r j h) (λ h. block-after k w π r j h)

-- ---- a pass

module _ (k j : ℕ) (hj : j < 8) (values old : List ℕ) (lo : 7 * 2 ^ k ≤ length old) where
  pub pass_none : PassStored k j 0 values old old
  pass_none = record { kept = refl; done = λ r h. absurd (omega arith); other = λ p f. refl }

  -- a row that has block j in the word
  pub pass_skip : (n : ℕ) (new : List ℕ) → j ≡ slot n → PassStored k j n values old new → PassStored k j (n + 1) values old new
  pass_skip n new e s =
      record {
        kept = s.kept;
        done = λ r h d. s.done r (less r h d) d;
        other = λ p f. s.other p (λ r h d. f r (omega arith) d);
      }
    where
      less : (r : ℕ) → r < n + 1 → (j ≡ slot r → ⊥) → r < n
      less r h d = by (ℕ_discrete r n)
        where
          by : Dec (r ≡ n) → r < n
          by (yes q) = absurd (d (e ∙ ap slot (sym q)))
          by (no q) = omega arith

  module _ (n : ℕ) (hn : n < 2 ^ col_dim k) (new next : List ℕ) (d : j ≡ slot n → ⊥) (s : PassStored k j n values old new)
      (f : Filled (number n j * 2 ^ half k) (2 ^ half k) (λ i. get_or values (i * 2 ^ col_dim k + n) 0) new next) where
    here : part (2 ^ half k) (number n j) next ≡ row_lane k n values
    here =
        filled-part (2 ^ half k) (number n j) f (omega (arith, number_fits k n j hn hj d, s.kept))
        ∙ sym (lane-is (2 ^ col_dim k) n (2 ^ half k) values (tab (2 ^ half k) (λ i. get_or values (i * 2 ^ col_dim k + n) 0)) (length_tab (2 ^ half k) (λ i. get_or values (i * 2 ^ col_dim k + n) 0))
        (λ i h. sym (get_or_tab (2 ^ half k) (λ i. get_or values (i * 2 ^ col_dim k + n) 0) i 0 h)))

    pub pass_next : PassStored k j (n + 1) values old next
    pass_next =
        record {
          kept = f.kept ∙ s.kept;
          done = λ r h z. at r h z (ℕ_discrete r n);
          other = λ p g. filled-other (2 ^ half k) (number n j) f p (g n (omega arith) d) ∙ s.other p (λ r h z. g r (omega arith) z);
        }
      where
        at : (r : ℕ) → r < n + 1 → (j ≡ slot r → ⊥) → Dec (r ≡ n) → part (2 ^ half k) (number r j) next ≡ row_lane k r values
        at r h z (yes q) = subst (λ (r : ℕ). part (2 ^ half k) (number r j) next ≡ row_lane k r values) (sym q) here
        at r h z (no q) =
            filled-other (2 ^ half k) (number n j) f (number r j) (λ e. q (number-one r n j j hj hj z d e).0) ∙ s.done r (omega arith) z

-- ---- one lane, with the numbers that the code has

module _ (k r j n size rows : ℕ) (s : k ≤ max_dim) (hr : r < 2 ^ col_dim k) (hj : j < 8) (d : j ≡ slot r → ⊥) (en : n ≡ number r j) (es : size ≡ 2 ^ half k) (er : rows ≡ 2 ^ col_dim k)
    (values old : List ℕ) (lv : 2 ^ k ≤ length values) (lo : 7 * 2 ^ k ≤ length old) where
  at-number : n * size ≡ number r j * 2 ^ half k
  at-number = ap₂ ◌*◌ en es

  pub lane-fits : n * size + size ≤ length old
  lane-fits = omega (arith, at-number, number_fits k r j hr hj d)

  pub lane-small : n * size + size ≤ 7 * 2 ^ max_dim
  lane-small = omega (arith, at-number, number_fits k r j hr hj d, pow_mono {i = k} {j = max_dim} s)

  length_lane-lent : length (take (n * size + size - n * size) (drop (n * size) old)) ≡ size
  length_lane-lent = length_cut (n * size) size old lane-fits

  pub lane_room : (r < rows) × (length (take (n * size + size - n * size) (drop (n * size) old)) * rows ≤ length values)
  lane_room = (omega arith, omega (arith, ap₂ ◌*◌ (length_lane-lent ∙ es) er, pow_rows k, mul_comm (2 ^ half k) (2 ^ col_dim k)))

  pub lane-stored : (out : List ℕ) → out ≡ lane rows r (length (take (n * size + size - n * size) (drop (n * size) old))) values
      → Filled (number r j * 2 ^ half k) (2 ^ half k) (λ i. get_or values (i * 2 ^ col_dim k + r) 0) old (put_mid (n * size) (n * size + size - n * size) old out)
  lane-stored out e =
      let count : n * size + size - n * size ≡ size = omega arith in
      let long : length out ≡ size = ap length e ∙ length_lane rows r (length (take (n * size + size - n * size) (drop (n * size) old))) values ∙ length_lane-lent in
      let f : Filled (n * size) size (λ i. get_or out i 0) old (put_mid (n * size) size old out) = put-filled (n * size) size old out lane-fits long in
      subst (λ (x : ℕ). Filled (number r j * 2 ^ half k) (2 ^ half k) (λ i. get_or values (i * 2 ^ col_dim k + r) 0) old (put_mid (n * size) x old out)) (sym count)
      (record {
        kept = f.kept;
        inside = λ i h. ap (λ (x : ℕ). get_or (put_mid (n * size) size old out) (x + i) 0) (sym at-number) ∙ f.inside i (omega (arith, es)) ∙ entry i h;
        outside = λ p g. f.outside p (moved p g);
      })
    where
      entry : (i : ℕ) → i < 2 ^ half k → get_or out i 0 ≡ get_or values (i * 2 ^ col_dim k + r) 0
      entry i h =
          ap (λ (l : List ℕ). get_or l i 0) e ∙ get_or_lane rows r (length (take (n * size + size - n * size) (drop (n * size) old))) values i (omega (arith, length_lane-lent, es))
          ∙ ap (λ (x : ℕ). get_or values (i * x + r) 0) er

      moved : (p : ℕ) → (p < number r j * 2 ^ half k) ⊎ (number r j * 2 ^ half k + 2 ^ half k ≤ p) → (p < n * size) ⊎ (n * size + size ≤ p)
      moved p (inl g) = inl (omega (arith, at-number))
      moved p (inr g) = inr (omega (arith, at-number, es))
