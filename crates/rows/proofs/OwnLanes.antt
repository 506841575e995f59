-- The coefficients of the rows: interpolation in lanes, with the images of β as the lanes' shifts. Assumes nothing.
use mathlib.Core.Path.{◌≡◌, refl, sym, ap, ap₂, ◌∙◌, subst}
use mathlib.Core.List.{List}
use Prim.Native.Nat.{ℕ, ◌+◌, ◌*◌, ◌^◌, ◌≤◌, ◌<◌}
use native.Mathlib.Nat.{le_refl, mul_comm, mul-le-mul_right}
use native.Mathlib.Omega.{arith}
use lib.ListN.{length, get_or, drop}
use lib.Pow.{pow_pos, pow_mono}
use Rattle.lists.specs.All.{All, Below, All-at, All-of, All-take, All-drop}
use Rattle.lists.specs.Lanes.{lane, lanes_each}
use Rattle.lists.specs.Tables.{part, length_tab, get_or_tab, All-tab}
use Rattle.field.specs.Binary.{◌⊕◌, degree, Irreducible}
use Rattle.field.specs.Symbols.{symbols, symbols-field}
use Rattle.field.specs.Xor.{xor_zero_right}
use Rattle.field.specs.declared.Field.{Field}
use Rattle.poly.specs.Span.{elem}
use Rattle.poly.proofs.Span.{elem_sym}
use Rattle.poly.specs.Transform.{inverse}
use Rattle.poly.proofs.Transform.{inverse_ext}
use Rattle.space.specs.Sizes.{max_dim, lane_cells, max_column}
use Rattle.transform.specs.Lanes.{image_at, lane_shift, InLanes, Interpolated}
use Rattle.transform.specs.Slices.{Transposed}
use Rattle.transform.specs.Spans.{Zeros, image_list, SpanLanes}
use Rattle.transform.specs.SpanLaws.{span_below}
use Rattle.proximity.specs.Dim.{half, col_dim}
use Rattle.proximity.specs.Subspaces.{pow_rows}
use Rattle.proximity.specs.LineImages.{image_column, element_images}
use Rattle.proximity.specs.ImageLaws.{same-elem}
use Rattle.rows.specs.Rows.{InTable, own_image, row_lane, Coefficients}

-- the lanes have room
pub few_lanes : (k : ℕ) → k ≤ max_dim → half k * 2 ^ col_dim k ≤ lane_cells
few_lanes k h =
    let few : 2 ^ col_dim k ≤ max_column = pow_mono {j = col_dim max_dim} (omega arith) in
    omega (arith, mul-le-mul_right {m = half k} {n = half max_dim} (2 ^ col_dim k) (omega arith))

pub rows_times : (k : ℕ) → 2 ^ k ≡ 2 ^ half k * 2 ^ col_dim k
rows_times k = pow_rows k ∙ mul_comm (2 ^ col_dim k) (2 ^ half k)

-- the word fits the lanes
pub spread_fits : (k rows size : ℕ) → rows ≡ 2 ^ col_dim k → size ≡ 2 ^ half k → (word old : List ℕ) → length word ≡ 2 ^ k → length old ≡ 2 ^ k
    → (rows * size ≤ length word) × (rows * size ≤ length old)
spread_fits k rows size er es word old lw lo =
    let n : rows * size ≡ 2 ^ col_dim k * 2 ^ half k = ap₂ ◌*◌ er es in (omega (arith, pow_rows k), omega (arith, pow_rows k))

-- an entry of the images of an element
pub element_at : (h c : ℕ) (t : List ℕ) (r i : ℕ) → i < 16 → get_or (element_images h c t r) i 0 ≡ elem (symbols 0) (image_column h c t i) r
unfolding element_images
element_at h c t r i l = get_or_tab 16 (λ j. elem (symbols 0) (image_column h c t j) r) i 0 l

pub length_element : (h c : ℕ) (t : List ℕ) (r : ℕ) → length (element_images h c t r) ≡ 16
unfolding element_images
length_element h c t r = length_tab 16 (λ j. elem (symbols 0) (image_column h c t j) r)

pub element_below : (q : ℕ) → Irreducible q → (h c : ℕ) (t : List ℕ) → Below (2 ^ degree q) t → (r i : ℕ) → i < 16 → get_or (element_images h c t r) i 0 < 2 ^ degree q
element_below q irr h c t b r i l =
    subst (λ (x : ℕ). x < 2 ^ degree q) (same-elem q 0 (image_column h c t i) r ∙ sym (element_at h c t r i l))
    (elem_sym (symbols-field q irr) (image_column h c t i) r
    (All-tab (symbols q).Sym c (λ j. get_or t (16 * (h + j) + i) 0) (λ j n. All-at (symbols q).Sym t 0 b (pow_pos (degree q)) (16 * (h + j) + i))))

-- the lanes of the span are the images of β
pub own_lanes : (q : ℕ) → Irreducible q → (k : ℕ) → k ≤ max_dim → (t xs : List ℕ) → SpanLanes t (half k) (col_dim k) (half k) xs
    → (i r : ℕ) → i < half k → r < 2 ^ col_dim k → get_or xs (i * 2 ^ col_dim k + r) 0 ≡ own_image k t r i
unfolding image_list
own_lanes q irr k top t xs s i r hi hr =
    s.inside i hi q irr r hr ∙ same-elem q 0 (image_column (half k) (col_dim k) t i) r ∙ sym (element_at (half k) (col_dim k) t r i (omega arith))

module _ (f : Field) (k : ℕ) (t : List ℕ) (T : InTable f k t) where
  abbrev q : ℕ
  q = f.modulus

  abbrev Small : ℕ → Type 0
  Small x = x < 2 ^ degree q

  zeros-small : (xs : List ℕ) → Zeros 16 xs → Below (2 ^ degree q) xs
  zeros-small xs z = All-of Small xs 0 (λ p h. subst Small (sym (z.each p)) (pow_pos (degree q)))

  module _ (lanes shift : List ℕ) (s : SpanLanes t (half k) (col_dim k) (half k) lanes) (z : Zeros 16 shift) (rows size : ℕ) (er : rows ≡ 2 ^ col_dim k) (es : size ≡ 2 ^ half k)
      (word old spread : List ℕ) (lw : length word ≡ 2 ^ k) (bw : Below (2 ^ degree q) word) (lo : length old ≡ 2 ^ k) (d : Transposed rows size word old spread) where
    lane-is-part : (r : ℕ) → r < 2 ^ col_dim k → row_lane k r spread ≡ part (2 ^ half k) r word
    lane-is-part r h =
        ap₂ (λ (a b : ℕ). lane a r b spread) (sym er) (sym es) ∙ d.lanes r (omega arith) ∙ ap (λ (a : ℕ). part a r word) es

    length_spread : length spread ≡ 2 ^ half k * 2 ^ col_dim k
    length_spread = d.kept ∙ lo ∙ rows_times k

    spread_small : Below (2 ^ degree q) spread
    spread_small =
        lanes_each Small (2 ^ col_dim k) (2 ^ half k) spread length_spread
        (λ r h. subst (All Small) (sym (lane-is-part r h)) (All-take Small (2 ^ half k) (drop (r * 2 ^ half k) word) (All-drop Small (r * 2 ^ half k) word bw)))

    pub own_in_lanes : (n : ℕ) → n ≡ 2 ^ col_dim k → InLanes f t lanes n (half k) shift spread
    own_in_lanes n en =
        subst (λ (n : ℕ). InLanes f t lanes n (half k) shift spread) (sym en)
        (record {
          sized = T.sized;
          few = omega (arith, T.high);
          long = length_spread;
          room = omega (arith, few_lanes k T.high, s.count);
          image-symbols = T.below;
          lane-symbols = span_below q T.irreducible t (half k) (col_dim k) (half k) lanes s T.below;
          shift_symbols = zeros-small shift z;
          symbols = spread_small;
        })

    own_shift : (r : ℕ) → r < 2 ^ col_dim k → (i : ℕ) → i < half k → lane_shift lanes (2 ^ col_dim k) shift r i ≡ own_image k t r i
    own_shift r hr i hi =
        ap₂ (λ (x y : ℕ). x ⊕ y) (own_lanes q T.irreducible k T.high t lanes s i r hi hr) (z.each i) ∙ xor_zero_right (own_image k t r i)

    pub own_coefficients : (n : ℕ) → n ≡ 2 ^ col_dim k → (new : List ℕ) → Interpolated q t lanes n (half k) shift spread new → Coefficients q k t word new
    own_coefficients n en new u =
        let v : Interpolated q t lanes (2 ^ col_dim k) (half k) shift spread new = subst (λ (n : ℕ). Interpolated q t lanes n (half k) shift spread new) en u in
        record {
          below = v.below;
          right = λ r hr. v.right r hr
              ∙ inverse_ext (symbols q) (image_at t) (image_at t) (half k) (λ i j hi hj. refl) (half k) (le_refl (half k)) (lane_shift lanes (2 ^ col_dim k) shift r) (own_image k t r) (row_lane k r spread) (own_shift r hr)
              ∙ ap (inverse (symbols q) (image_at t) (half k) (own_image k t r)) (lane-is-part r hr);
        }
