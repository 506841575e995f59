-- A pass over the rows: the coefficients, copied, are evaluated on the coset of block j of each row. Assumes nothing.
use mathlib.Core.Path.{◌≡◌, refl, sym, ap, ap₂, ◌∙◌, subst}
use mathlib.Core.List.{List, ◌++◌}
use Prim.Native.Nat.{ℕ, ◌+◌, ◌-◌, ◌*◌, ◌%◌, ◌^◌, ◌≤◌, ◌<◌}
use native.Mathlib.Decide.{dec_lt, ℕ_discrete}
use native.Mathlib.Nat.{le_refl}
use native.Mathlib.Omega.{arith}
use borrow.Rule.Slice.PartMut.{put_mid}
use lib.ListN.{length, get_or, take, drop, length-append, length-drop, get_or-append}
use lib.Pow.{pow_pos, pow_mono}
use lib.Seq.{take_at, drop_at, length-take-le}
use Rattle.lists.specs.All.{Below, All-of}
use Rattle.lists.specs.Lanes.{lane_ext, lane_take, place-fits}
use Rattle.lists.specs.Tables.{part}
use Rattle.field.specs.Binary.{◌⊕◌, degree}
use Rattle.field.specs.Symbols.{symbols}
use Rattle.field.specs.declared.Field.{Field}
use Rattle.poly.specs.Transform.{transform}
use Rattle.poly.proofs.Transform.{transform_ext}
use Rattle.space.specs.Sizes.{max_dim, lane_cells}
use Rattle.transform.specs.Lanes.{image_at, lane_shift, InLanes, Evaluated}
use Rattle.transform.specs.Spans.{Zeros}
use Rattle.proximity.specs.Dim.{half, col_dim}
use Rattle.proximity.specs.Proof.{slot}
use Rattle.proximity.specs.LineImages.{element_images}
use Rattle.rows.specs.Rows.{InTable, block_image, row_block, number, row_lane, Coefficients, LastLanes, PassValues, PassStored, Stored}
use Rattle.rows.proofs.OwnLanes.{few_lanes, rows_times, element_below, length_element}
use Rattle.rows.proofs.Stores.{number-one}
use Rattle.rows.proofs.LastBasis.{block-low, block-high}

-- 1, shifted
pub power : (k : ℕ) → k ≤ max_dim → 1 * 2 ^ k % 18446744073709551616 ≡ 2 ^ k
power k h = let few : 2 ^ k ≤ 2 ^ max_dim = pow_mono {j = max_dim} h in omega arith

-- ---- the copy

module _ (n : ℕ) (w v : List ℕ) (lw : 2 * n ≤ length w) (e : v ≡ take n w ++ (take n w ++ drop (n + n) w)) where
  abbrev first : List ℕ
  first = take n w

  length_first : length first ≡ n
  length_first = length-take-le n w (omega arith)

  rest-is : drop n v ≡ first ++ drop (n + n) w
  rest-is = ap (drop n) e ∙ drop_at first (first ++ drop (n + n) w) n length_first

  pub copied : take (2 * n - n) (drop n v) ≡ first
  copied = let count : 2 * n - n ≡ n = omega arith in ap₂ take count rest-is ∙ take_at first (drop (n + n) w) n length_first

  pub length_copied : length v ≡ length w
  length_copied =
      ap length e ∙ length-append first (first ++ drop (n + n) w)
      ∙ omega (arith, length-append first (drop (n + n) w), length-drop (n + n) w, length_first)

  -- what is written over the copy
  module _ (out : List ℕ) (lo : length out ≡ n) where
    first-kept : take n (put_mid n (2 * n - n) v out) ≡ first
    first-kept =
        take_at (take n v) (out ++ drop (2 * n - n) (drop n v)) n (length-take-le n v (omega (arith, length_copied)))
        ∙ ap (take n) e ∙ take_at first (first ++ drop (n + n) w) n length_first

    written : drop n (put_mid n (2 * n - n) v out) ≡ out ++ drop (2 * n - n) (drop n v)
    written = drop_at (take n v) (out ++ drop (2 * n - n) (drop n v)) n (length-take-le n v (omega (arith, length_copied)))

-- ---- the evaluation

module _ (f : Field) (k j : ℕ) (t last : List ℕ) (T : InTable f k t) (L : LastLanes k t last) (hj : j < 8) (from shift : List ℕ)
    (zf : j < 4 → Zeros lane_cells from) (lf : 4 ≤ j → from ≡ last) (es : shift ≡ element_images (half k) 2 t j) where
  abbrev q : ℕ
  q = f.modulus

  abbrev Small : ℕ → Type 0
  Small x = x < 2 ^ degree q

  length_from : Dec (j < 4) → length from ≡ lane_cells
  length_from (yes h) = (zf h).count
  length_from (no h) = ap length (lf (omega arith)) ∙ L.count

  from-small : Dec (j < 4) → Below (2 ^ degree q) from
  from-small (yes h) = All-of Small from 0 (λ p l. subst Small (sym ((zf h).each p)) (pow_pos (degree q)))
  from-small (no h) = subst (Below (2 ^ degree q)) (sym (lf (omega arith))) (L.below q T.irreducible T.below)

  shift_small : Below (2 ^ degree q) shift
  shift_small =
      subst (Below (2 ^ degree q)) (sym es)
      (All-of Small (element_images (half k) 2 t j) 0 (λ i l. element_below q T.irreducible (half k) 2 t T.below j i (omega (arith, length_element (half k) 2 t j))))

  pass_shift : (r : ℕ) → r < 2 ^ col_dim k → (i : ℕ) → i < half k → lane_shift from (2 ^ col_dim k) shift r i ≡ block_image k t r j i
  pass_shift r hr i hi = by (dec_lt j 4)
    where
      by : Dec (j < 4) → lane_shift from (2 ^ col_dim k) shift r i ≡ block_image k t r j i
      by (yes h) =
          ap₂ (λ (x : ℕ) (l : List ℕ). x ⊕ get_or l i 0) ((zf h).each (i * 2 ^ col_dim k + r)) es ∙ block-low k T.low T.high t r j i hi h
      by (no h) =
          ap₂ (λ (x : ℕ) (l : List ℕ). x ⊕ get_or l i 0) (ap (λ (l : List ℕ). get_or l (i * 2 ^ col_dim k + r) 0) (lf (omega arith)) ∙ L.inside q T.irreducible i r hi hr) es
          ∙ block-high k T.low T.high t r j i hi (omega arith) hj

  module _ (n : ℕ) (en : n ≡ 2 ^ k) (w v : List ℕ) (lw : 2 * 2 ^ k ≤ length w) (e : v ≡ take n w ++ (take n w ++ drop (n + n) w)) (bw : Below (2 ^ degree q) (take (2 ^ k) w))
      (rows : ℕ) (er : rows ≡ 2 ^ col_dim k) where
    lent : 2 * n ≤ length w
    lent = omega arith

    values_are : take (2 * n - n) (drop n v) ≡ take (2 ^ k) w
    values_are = copied n w v lent e ∙ ap (λ (x : ℕ). take x w) en

    length_values : length (take (2 ^ k) w) ≡ 2 ^ half k * 2 ^ col_dim k
    length_values = length-take-le (2 ^ k) w (omega arith) ∙ rows_times k

    pub pass_in_lanes : InLanes f t from rows (half k) shift (take (2 * n - n) (drop n v))
    pass_in_lanes =
        subst (λ (x : List ℕ). InLanes f t from rows (half k) shift x) (sym values_are)
        (subst (λ (m : ℕ). InLanes f t from m (half k) shift (take (2 ^ k) w)) (sym er)
        (record {
          sized = T.sized;
          few = omega (arith, T.high);
          long = length_values;
          room = omega (arith, few_lanes k T.high, length_from (dec_lt j 4));
          image-symbols = T.below;
          lane-symbols = from-small (dec_lt j 4);
          shift_symbols = shift_small;
          symbols = bw;
        }))

    pub pass_values : (out : List ℕ) → Evaluated q t from rows (half k) shift (take (2 * n - n) (drop n v)) out → PassValues q k t j w (put_mid n (2 * n - n) v out)
    pass_values out u = record { first = kept; values = right }
      where
        ev : Evaluated q t from (2 ^ col_dim k) (half k) shift (take (2 ^ k) w) out
        ev =
            subst (λ (x : List ℕ). Evaluated q t from (2 ^ col_dim k) (half k) shift x out) values_are
            (subst (λ (m : ℕ). Evaluated q t from m (half k) shift (take (2 * n - n) (drop n v)) out) er u)

        lo : length out ≡ 2 ^ half k * 2 ^ col_dim k
        lo = ev.kept ∙ length_values

        ln : length out ≡ n
        ln = lo ∙ sym (rows_times k) ∙ sym en

        kept : take (2 ^ k) (put_mid n (2 * n - n) v out) ≡ take (2 ^ k) w
        kept =
            ap (λ (x : ℕ). take x (put_mid n (2 * n - n) v out)) (sym en) ∙ first-kept n w v lent e out ln ∙ ap (λ (x : ℕ). take x w) en

        back : drop (2 ^ k) (put_mid n (2 * n - n) v out) ≡ out ++ drop (2 * n - n) (drop n v)
        back = ap (λ (x : ℕ). drop x (put_mid n (2 * n - n) v out)) (sym en) ∙ written n w v lent e out ln

        right : (r : ℕ) → r < 2 ^ col_dim k → row_lane k r (drop (2 ^ k) (put_mid n (2 * n - n) v out)) ≡ transform (symbols q) (image_at t) (half k) (block_image k t r j) (row_lane k r w)
        right r hr =
            ap (row_lane k r) back
            ∙ lane_ext (2 ^ col_dim k) r (2 ^ half k) (out ++ drop (2 * n - n) (drop n v)) out
            (λ o ho. get_or-append out (drop (2 * n - n) (drop n v)) 0 (o * 2 ^ col_dim k + r) (omega (arith, lo, place-fits ho hr)))
            ∙ ev.right r hr
            ∙ transform_ext (symbols q) (image_at t) (image_at t) (half k) (λ i j hi hj. refl) (half k) (le_refl (half k)) (lane_shift from (2 ^ col_dim k) shift r) (block_image k t r j) (row_lane k r (take (2 ^ k) w))
            (pass_shift r hr)
            ∙ ap (transform (symbols q) (image_at t) (half k) (block_image k t r j)) (lane_take (2 ^ col_dim k) r (2 ^ half k) (2 ^ k) hr (rows_times k) w)

-- ---- the pass, stored

pub stored-none : (q k : ℕ) (t w π : List ℕ) → Stored q k t w 0 π
stored-none q k t w π r i hr hi = absurd (omega arith)

pub stored_next : (q k j : ℕ) (t w work new values old π : List ℕ) → j < 8 → Coefficients q k t w (take (2 ^ k) work) → PassValues q k t j work new → values ≡ drop (2 ^ k) new
    → PassStored k j (2 ^ col_dim k) values old π → Stored q k t w j old → Stored q k t w (j + 1) π
stored_next q k j t w work new values old π hj C P ev s D r i hr hi d = by (ℕ_discrete i j)
  where
    here : (j ≡ slot r → ⊥) → part (2 ^ half k) (number r j) π ≡ row_block q k t w r j
    here d =
        s.done r hr d ∙ ap (row_lane k r) ev ∙ P.values r hr
        ∙ ap (transform (symbols q) (image_at t) (half k) (block_image k t r j))
        (sym (lane_take (2 ^ col_dim k) r (2 ^ half k) (2 ^ k) hr (rows_times k) work) ∙ C.right r hr)

    by : Dec (i ≡ j) → part (2 ^ half k) (number r i) π ≡ row_block q k t w r i
    by (yes e) = subst (λ (i : ℕ). part (2 ^ half k) (number r i) π ≡ row_block q k t w r i) (sym e) (here (λ z. d (e ∙ z)))
    by (no e) =
        s.other (number r i) (λ m hm dm z. e (number-one r m i j (omega arith) hj d dm z).1) ∙ D r i hr (omega arith) d
