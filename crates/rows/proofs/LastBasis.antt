-- The lanes of the last basis elements of the rows, and of a block's coset. Assumes nothing.
use mathlib.Core.Path.{◌≡◌, sym, ap, ap₂, ◌∙◌, subst}
use mathlib.Core.List.{List, [], ◌∷◌}
use Prim.Native.Nat.{ℕ, ◌+◌, ◌*◌, ◌/◌, ◌%◌, ◌^◌, ◌≤◌, ◌<◌}
use native.Mathlib.Decide.{dec_lt, ℕ_discrete}
use native.Mathlib.Nat.{div-lt_iff_lt-mul, mod-lt, div-add-mod'}
use native.Mathlib.Omega.{arith}
use borrow.Author.Tests.{lt-ltb, le-ltb, eq-eqb, ne_eqb}
use lib.Dec.{eqb}
use lib.ListN.{length, get_or, take}
use lib.Pow.{pow_pos, pow_mono}
use lib.Seq.{get_or-take, length-take-le}
use Rattle.lists.specs.All.{Below, All-at, All-of}
use Rattle.lists.specs.Lanes.{Strided, strided_other, strided_beyond}
use Rattle.lists.specs.Pick.{pick, pick_true, pick_false}
use Rattle.lists.specs.Tables.{tab, get_or_tab}
use Rattle.field.specs.Binary.{◌⊕◌, degree, Irreducible}
use Rattle.field.specs.Symbols.{symbols}
use Rattle.field.specs.Xor.{xor-laws, xor_zero_right}
use Rattle.poly.specs.Span.{bit_of, elem}
use Rattle.space.specs.Sizes.{max_dim, cells, lane_cells}
use Rattle.transform.specs.Lanes.{image_at}
use Rattle.transform.specs.Spans.{SpanLanes}
use Rattle.proximity.specs.Dim.{half, col_dim}
use Rattle.proximity.specs.LineImages.{element_images, row_images}
use Rattle.rows.specs.Rows.{own_image, block_image, LastLanes}
use Rattle.rows.proofs.OwnLanes.{few_lanes, element_at, element_below, length_element, own_lanes}

-- ---- the table of a row

module _ (k : ℕ) (s : 7 ≤ k) (top : k ≤ max_dim) (t : List ℕ) (r : ℕ) where
  abbrev new : ℕ → ℕ
  new p = pick (eqb (p / 16) (half k + 2)) (get_or (element_images (half k) (col_dim k) t r) (p % 16) 0) (get_or t p 0)

  low-table : r < 4 → row_images k t r ≡ t
  unfolding row_images
  low-table h = pick_true t (tab cells new) (lt-ltb r 4 h)

  high-entry : 4 ≤ r → (p : ℕ) → p < cells → get_or (row_images k t r) p 0 ≡ new p
  unfolding row_images
  high-entry h p l = ap (λ (x : List ℕ). get_or x p 0) (pick_false t (tab cells new) (le-ltb r 4 h)) ∙ get_or_tab cells new p 0 l

  -- the basis elements before the last
  old-entry : (i j : ℕ) → i < half k + 2 → j < 16 → image_at (row_images k t r) i j ≡ image_at t i j
  old-entry i j hi hj = by (dec_lt r 4)
    where
      by : Dec (r < 4) → image_at (row_images k t r) i j ≡ image_at t i j
      by (yes h) = ap (λ (x : List ℕ). image_at x i j) (low-table h)
      by (no h) = high-entry (omega arith) (16 * i + j) (omega arith) ∙ pick_false _ _ (ne_eqb ((16 * i + j) / 16) (half k + 2) (λ e. omega arith))

  last-low : r < 4 → (j : ℕ) → image_at (row_images k t r) (half k + 2) j ≡ image_at t (half k + 2) j
  last-low h j = ap (λ (x : List ℕ). image_at x (half k + 2) j) (low-table h)

  last-high : 4 ≤ r → (j : ℕ) → j < 16 → image_at (row_images k t r) (half k + 2) j ≡ own_image k t r j
  last-high h j l =
      let place : (16 * (half k + 2) + j) % 16 ≡ j = omega arith in
      high-entry h (16 * (half k + 2) + j) (omega arith) ∙ pick_true _ _ (eq-eqb ((16 * (half k + 2) + j) / 16) (half k + 2) (omega arith))
      ∙ ap (λ (p : ℕ). get_or (element_images (half k) (col_dim k) t r) p 0) place

-- ---- the coset of a block: the last basis element counts from block 4 on

module _ (x y z : ℕ) where
  three : (u v w : ℕ) → bit_of u x ⊕ (bit_of v y ⊕ (bit_of w z ⊕ 0)) ≡ bit_of w z ⊕ (bit_of u x ⊕ (bit_of v y ⊕ 0))
  three u v w = simp xor-laws

  three_low : (j : ℕ) → j < 4 → elem (symbols 0) (x ∷ y ∷ z ∷ []) j ≡ 0 ⊕ elem (symbols 0) (x ∷ y ∷ []) j
  three_low j h =
      let none : j / 2 / 2 % 2 ≡ 0 = omega arith in
      three (j % 2) (j / 2 % 2) (j / 2 / 2 % 2) ∙ ap (λ (u : ℕ). bit_of u z ⊕ elem (symbols 0) (x ∷ y ∷ []) j) none

  three_high : (j : ℕ) → 4 ≤ j → j < 8 → elem (symbols 0) (x ∷ y ∷ z ∷ []) j ≡ z ⊕ elem (symbols 0) (x ∷ y ∷ []) j
  three_high j l h =
      let one : j / 2 / 2 % 2 ≡ 1 = omega arith in
      three (j % 2) (j / 2 % 2) (j / 2 / 2 % 2) ∙ ap (λ (u : ℕ). bit_of u z ⊕ elem (symbols 0) (x ∷ y ∷ []) j) one

module _ (k : ℕ) (s : 7 ≤ k) (top : k ≤ max_dim) (t : List ℕ) (r j i : ℕ) (hi : i < half k) where
  abbrev R : List ℕ
  R = row_images k t r

  same-images : (z : ℕ) → (elem (symbols 0) (image_at R (half k + 0) i ∷ image_at R (half k + 1) i ∷ z ∷ []) j) ≡ elem (symbols 0) (image_at t (half k + 0) i ∷ image_at t (half k + 1) i ∷ z ∷ []) j
  same-images z =
      ap₂ (λ (x y : ℕ). elem (symbols 0) (x ∷ y ∷ z ∷ []) j) (old-entry k s top t r (half k + 0) i (omega arith) (omega arith)) (old-entry k s top t r (half k + 1) i (omega arith) (omega arith))

  block-image : block_image k t r j i ≡ elem (symbols 0) (image_at t (half k + 0) i ∷ image_at t (half k + 1) i ∷ image_at R (half k + 2) i ∷ []) j
  block-image = element_at (half k) 3 R j i (omega arith) ∙ same-images (image_at R (half k + 2) i)

  pub block-low : j < 4 → 0 ⊕ get_or (element_images (half k) 2 t j) i 0 ≡ block_image k t r j i
  block-low h =
      ap (λ (x : ℕ). 0 ⊕ x) (element_at (half k) 2 t j i (omega arith))
      ∙ sym (block-image ∙ three_low (image_at t (half k + 0) i) (image_at t (half k + 1) i) (image_at R (half k + 2) i) j h)

  pub block-high : 4 ≤ j → j < 8 → image_at R (half k + 2) i ⊕ get_or (element_images (half k) 2 t j) i 0 ≡ block_image k t r j i
  block-high l h =
      ap (λ (x : ℕ). image_at R (half k + 2) i ⊕ x) (element_at (half k) 2 t j i (omega arith))
      ∙ sym (block-image ∙ three_high (image_at t (half k + 0) i) (image_at t (half k + 1) i) (image_at R (half k + 2) i) j l h)

-- ---- the lanes

-- the first n lanes have b_(h+3), the others β
pub record LastUpto (k n : ℕ) (t xs : List ℕ) : Type 0 where
  pub count : length xs ≡ lane_cells
  pub low : (i r : ℕ) → i < half k → r < 2 ^ col_dim k → r < n → get_or xs (i * 2 ^ col_dim k + r) 0 ≡ image_at t (half k + 2) i
  pub high : (i r : ℕ) → i < half k → r < 2 ^ col_dim k → n ≤ r → (q : ℕ) → Irreducible q → get_or xs (i * 2 ^ col_dim k + r) 0 ≡ own_image k t r i
  pub outside : (p : ℕ) → half k * 2 ^ col_dim k ≤ p → get_or xs p 0 ≡ 0

module _ (k : ℕ) (s : 7 ≤ k) (top : k ≤ max_dim) (t : List ℕ) where
  pub last_none : (xs : List ℕ) → SpanLanes t (half k) (col_dim k) (half k) xs → LastUpto k 0 t xs
  last_none xs u =
      record {
        count = u.count;
        low = λ i r hi hr h. absurd (omega arith);
        high = λ i r hi hr h q irr. own_lanes q irr k top t xs u i r hi hr;
        outside = u.outside;
      }

  -- b_(h+3), as the code has it
  one-image : (x : List ℕ) → x ≡ element_images (half k + 2) 1 t 1 → (i : ℕ) → i < half k → get_or (take (half k) x) i 0 ≡ image_at t (half k + 2) i
  one-image x e i hi =
      get_or-take (half k) x i 0 hi ∙ ap (λ (l : List ℕ). get_or l i 0) e ∙ element_at (half k + 2) 1 t 1 i (omega arith)
      ∙ xor_zero_right (image_at t (half k + 2 + 0) i) ∙ ap (λ (p : ℕ). image_at t p i) {x = half k + 2 + 0} {y = half k + 2} (omega arith)

  module _ (x : List ℕ) (ex : x ≡ element_images (half k + 2) 1 t 1) (n : ℕ) (hn : n < 2 ^ col_dim k) (v w : List ℕ) (u : LastUpto k n t v)
      (f : Strided (2 ^ col_dim k) n (half k) (λ o. get_or (take (half k) x) o 0) v w) where
    pub last-next : LastUpto k (n + 1) t w
    last-next =
        record {
          count = f.kept ∙ u.count;
          low = λ i r hi hr h. at i r hi hr h (ℕ_discrete r n);
          high = λ i r hi hr h q irr. strided_other (2 ^ col_dim k) n f i r hn hr (λ e. omega arith) ∙ u.high i r hi hr (omega arith) q irr;
          outside = λ p h. strided_beyond (2 ^ col_dim k) n f p hn h ∙ u.outside p h;
        }
      where
        at : (i r : ℕ) → i < half k → r < 2 ^ col_dim k → r < n + 1 → Dec (r ≡ n) → get_or w (i * 2 ^ col_dim k + r) 0 ≡ image_at t (half k + 2) i
        at i r hi hr h (yes e) = ap (λ (r : ℕ). get_or w (i * 2 ^ col_dim k + r) 0) e ∙ f.inside i hi ∙ one-image x ex i hi
        at i r hi hr h (no e) = strided_other (2 ^ col_dim k) n f i r hn hr e ∙ u.low i r hi hr (omega arith)

  pub last-all : (xs : List ℕ) → LastUpto k 4 t xs → LastLanes k t xs
  last-all xs u =
      record {
        count = u.count;
        inside = λ q irr i r hi hr. entry q irr i r hi hr (dec_lt r 4);
        below = λ q irr b. All-of (λ x. x < 2 ^ degree q) xs 0 (λ p h. small q irr b p (dec_lt p (half k * 2 ^ col_dim k)));
      }
    where
      entry : (q : ℕ) → Irreducible q → (i r : ℕ) → i < half k → r < 2 ^ col_dim k → Dec (r < 4) → get_or xs (i * 2 ^ col_dim k + r) 0 ≡ image_at (row_images k t r) (half k + 2) i
      entry q irr i r hi hr (yes h) = u.low i r hi hr h ∙ sym (last-low k s top t r h i)
      entry q irr i r hi hr (no h) = u.high i r hi hr (omega arith) q irr ∙ sym (last-high k s top t r (omega arith) i (omega arith))

      one : (q : ℕ) → Irreducible q → Below (2 ^ degree q) t → (i r : ℕ) → i < half k → r < 2 ^ col_dim k → Dec (r < 4) → get_or xs (i * 2 ^ col_dim k + r) 0 < 2 ^ degree q
      one q irr b i r hi hr (yes h) =
          subst (λ (x : ℕ). x < 2 ^ degree q) (sym (u.low i r hi hr h)) (All-at (λ (x : ℕ). x < 2 ^ degree q) t 0 b (pow_pos (degree q)) (16 * (half k + 2) + i))
      one q irr b i r hi hr (no h) =
          subst (λ (x : ℕ). x < 2 ^ degree q) (sym (u.high i r hi hr (omega arith) q irr)) (element_below q irr (half k) (col_dim k) t b r i (omega arith))

      small : (q : ℕ) → Irreducible q → Below (2 ^ degree q) t → (p : ℕ) → Dec (p < half k * 2 ^ col_dim k) → get_or xs p 0 < 2 ^ degree q
      small q irr b p (no h) = subst (λ (x : ℕ). x < 2 ^ degree q) (sym (u.outside p (omega arith))) (pow_pos (degree q))
      small q irr b p (yes h) =
          subst (λ (i : ℕ). get_or xs i 0 < 2 ^ degree q) (div-add-mod' p (2 ^ col_dim k))
          (one q irr b (p / 2 ^ col_dim k) (p % 2 ^ col_dim k) ((div-lt_iff_lt-mul (pow_pos (col_dim k))).1 h) (mod-lt p (pow_pos (col_dim k))) (dec_lt (p % 2 ^ col_dim k) 4))

  -- the same, as the code has it
  module _ (x : List ℕ) (ex : x ≡ element_images (half k + 2) 1 t 1) (rows : ℕ) (er : rows ≡ 2 ^ col_dim k) where
    pub enough : half k ≤ length x
    enough = omega (arith, ap length ex, length_element (half k + 2) 1 t 1)

    pub length_x : length (take (half k) x) ≡ half k
    length_x = length-take-le (half k) x enough

    pub lane_room : (n : ℕ) (v : List ℕ) → n < 4 → LastUpto k n t v → (n < rows) × (length (take (half k) x) * rows ≤ length v)
    lane_room n v h u =
        let many : 2 ^ 2 ≤ 2 ^ col_dim k = pow_mono {i = 2} {j = col_dim k} (omega arith) in
        (omega arith, omega (arith, ap₂ ◌*◌ length_x er, few_lanes k top, u.count))

    pub last_turn : (n : ℕ) (v w : List ℕ) → n < 4 → LastUpto k n t v → Strided rows n (length (take (half k) x)) (λ o. get_or (take (half k) x) o 0) v w → LastUpto k (n + 1) t w
    last_turn n v w h u f =
        let many : 2 ^ 2 ≤ 2 ^ col_dim k = pow_mono {i = 2} {j = col_dim k} (omega arith) in
        last-next x ex n (omega arith) v w u
        (subst (λ (l : ℕ). Strided (2 ^ col_dim k) n l (λ o. get_or (take (half k) x) o 0) v w) length_x
        (subst (λ (m : ℕ). Strided m n (length (take (half k) x)) (λ o. get_or (take (half k) x) o 0) v w) er f))
