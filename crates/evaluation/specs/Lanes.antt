-- Eight lanes, one after the other: where the lanes are the blocks of a word, this is the word. Assumes nothing.
use Rattle.std.specs.Prelude.{◌≡◌, List, ℕ, ◌+◌, ◌*◌, ◌/◌, ◌%◌, ◌<◌, length}
use Rattle.std.proofs.Common.{sym, ap, ◌∙◌, mod-lt, div-add-mod', div-lt_iff_lt-mul, arith, ext_get_or}
use Rattle.std.proofs.Math.ListN.{get_or}
use Rattle.lists.specs.Lanes.{lane, get_or_lane, place-fits}
use Rattle.lists.specs.Tables.{tab, part, get_d_part, length_tab, get_or_tab}

-- the lanes of `size` symbols, one after the other
unfoldable pub in_order : ℕ → List ℕ → List ℕ
in_order size xs = tab (8 * size) (λ i. get_or xs (i % size * 8 + i / size) 0)

module _ (size : ℕ) where
  positive : {i : ℕ} → i < 8 * size → 0 < size
  positive {i} h = omega arith

  lane_below : {i : ℕ} → i < 8 * size → i / size < 8
  lane_below {i} h = (div-lt_iff_lt-mul (positive h)).1 h

  -- where position i of the word stands
  pub place-below : (i : ℕ) → i < 8 * size → i % size * 8 + i / size < 8 * size
  place-below i h = omega (arith, place-fits {count = 8} {n = size} {o = i % size} {r = i / size} (mod-lt i (positive h)) (lane_below h))

  module _ (xs : List ℕ) where
    pub length_in_order : length (in_order size xs) ≡ 8 * size
    unfolding in_order
    length_in_order = length_tab (8 * size) (λ i. get_or xs (i % size * 8 + i / size) 0)

    pub get_or_in_order : (i : ℕ) → i < 8 * size → get_or (in_order size xs) i 0 ≡ get_or xs (i % size * 8 + i / size) 0
    unfolding in_order
    get_or_in_order i h = get_or_tab (8 * size) (λ j. get_or xs (j % size * 8 + j / size) 0) i 0 h

    pub in_order_word : (w : List ℕ) → length w ≡ 8 * size → ((r : ℕ) → r < 8 → lane 8 r size xs ≡ part size r w) → in_order size xs ≡ w
    in_order_word w e b =
        ext_get_or 0 (in_order size xs) w (length_in_order ∙ sym e)
        (λ i h. let l : i < 8 * size = omega (arith, length_in_order) in
        get_or_in_order i l
        ∙ sym (get_or_lane 8 (i / size) size xs (i % size) (mod-lt i (positive l)))
        ∙ ap (λ (ys : List ℕ). get_or ys (i % size) 0) (b (i / size) (lane_below l))
        ∙ get_d_part size (i / size) (i % size) w 0 (mod-lt i (positive l))
        ∙ ap (λ (j : ℕ). get_or w j 0) (div-add-mod' i size))
