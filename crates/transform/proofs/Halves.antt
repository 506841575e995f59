-- A transform in lanes by its two halves. Assumes nothing.
use mathlib.Core.Path.{◌≡◌, refl, sym, ap, ap₂, ◌∙◌, subst}
use mathlib.Core.List.{List, ◌++◌}
use Prim.Native.Nat.{ℕ, ◌+◌, ◌-◌, ◌*◌, ◌/◌, ◌^◌, ◌≤◌, ◌<◌}
use native.Mathlib.Nat.{add-mul, pow-suc, le_refl}
use native.Mathlib.Numerals.{add-one}
use native.Mathlib.Omega.{arith}
use borrow.Rule.Slice.PartMut.{put_mid}
use lib.ListN.{length, get_or, take, drop, length-append, length-drop}
use lib.Pow.{pow_pos}
use lib.Seq.{take_at, drop_at, length-take-le}
use Rattle.lists.specs.All.{Below, All-at, All-of, All-append, All-take, All-drop}
use Rattle.lists.specs.Overwrite.{second-lent, both-back}
use Rattle.lists.specs.Tables.{part-fits}
use Rattle.lists.specs.Lanes.{lane, length_lane, lane_append, lane_drop}
use Rattle.field.specs.Binary.{◌⊕◌, degree}
use Rattle.field.specs.Xor.{xor_assoc, xor_below}
use Rattle.field.specs.Symbols.{symbols}
use Rattle.field.specs.declared.Field.{Field}
use Rattle.poly.specs.Poly.{add_p}
use Rattle.poly.specs.Transform.{folded, unfolded, transform, inverse, shifted}
use Rattle.poly.proofs.Transform.{transform_layer, inverse_layer, transform_ext, inverse_ext}
use Rattle.transform.specs.Layers.{Layered, Unlayered}
use Rattle.transform.specs.Lanes.{image_at, lane_shift, Shifted, InLanes, Evaluated, Interpolated}
use Rattle.space.specs.Sizes.{max_dim}

pub next_pow : (i : ℕ) → 2 ^ (i + 1) ≡ 2 ^ i + 2 ^ i
next_pow i = ap (λ (k : ℕ). 2 ^ k) (add-one i) ∙ pow-suc 2 i ∙ omega arith

pub half_pow : (m : ℕ) → 0 < m → 2 ^ m ≡ 2 ^ (m - 1) + 2 ^ (m - 1)
half_pow m h = ap (λ (i : ℕ). 2 ^ i) {x = m} {y = m - 1 + 1} (omega arith) ∙ next_pow (m - 1)

-- ---- no layer

module _ (f : Field) (images lanes : List ℕ) (count m : ℕ) (shift old : List ℕ) (pre : InLanes f images lanes count m shift old) (none : m ≡ 0) where
  pub evaluated_none : Evaluated f.modulus images lanes count m shift old old
  evaluated_none =
      record {
        kept = refl;
        below = pre.symbols;
        right = λ r h. sym (ap (λ (t : ℕ). transform (symbols f.modulus) (image_at images) t (lane_shift lanes count shift r) (lane count r (2 ^ m) old)) none);
      }

  pub interpolated_none : Interpolated f.modulus images lanes count m shift old old
  interpolated_none =
      record {
        kept = refl;
        below = pre.symbols;
        right = λ r h. sym (ap (λ (t : ℕ). inverse (symbols f.modulus) (image_at images) t (lane_shift lanes count shift r) (lane count r (2 ^ m) old)) none);
      }

-- ---- what the two halves take

module _ (f : Field) (images lanes : List ℕ) (count m : ℕ) (shift old : List ℕ) (pre : InLanes f images lanes count m shift old) (pos : 0 < m) where
  abbrev n : ℕ
  n = 2 ^ (m - 1)

  pub two_halves : length old ≡ (n + n) * count
  two_halves = pre.long ∙ ap (λ (t : ℕ). t * count) (half_pow m pos)

  pub half_length : length old / 2 ≡ n * count
  half_length = omega (arith, two_halves, add-mul n n count)

  pub last_list : (m - 1) * count + count ≤ length lanes
  last_list = omega (arith, pre.room, part-fits {i = m - 1} {n = m} count (omega arith))

  pub last_shift : get_or shift (m - 1) 0 < 2 ^ degree f.modulus
  last_shift = All-at (λ x. x < 2 ^ degree f.modulus) shift 0 pre.shift_symbols (pow_pos (degree f.modulus)) (m - 1)

  pub in_half : (x xs : List ℕ) → Below (2 ^ degree f.modulus) x → length xs ≡ n * count → Below (2 ^ degree f.modulus) xs → InLanes f images lanes count (m - 1) x xs
  in_half x xs bx e b =
      record {
        sized = pre.sized;
        few = omega (arith, pre.few);
        long = e;
        room = omega (arith, last_list);
        image-symbols = pre.image-symbols;
        lane-symbols = pre.lane-symbols;
        shift_symbols = bx;
        symbols = b;
      }

  pub shifted-below : (x : List ℕ) → Shifted images (m - 1) shift x → Below (2 ^ degree f.modulus) x
  shifted-below x s =
      All-of (λ y. y < 2 ^ degree f.modulus) x 0
      (λ j h. subst (λ (y : ℕ). y < 2 ^ degree f.modulus) (sym (s.right j (omega (arith, s.count))))
      (xor_below (degree f.modulus) (at shift pre.shift_symbols j) (at images pre.image-symbols (16 * (m - 1) + j))))
    where
      at : (xs : List ℕ) → Below (2 ^ degree f.modulus) xs → (p : ℕ) → get_or xs p 0 < 2 ^ degree f.modulus
      at xs b = All-at (λ y. y < 2 ^ degree f.modulus) xs 0 b (pow_pos (degree f.modulus))

-- ---- the parts that the calls are lent, of values that are as long

module _ (f : Field) (images lanes : List ℕ) (count m : ℕ) (shift old : List ℕ) (pre : InLanes f images lanes count m shift old) (pos : 0 < m)
    (zs : List ℕ) (kept : length zs ≡ length old) where
  abbrev half : ℕ
  half = length old / 2

  half_is : half ≡ 2 ^ (m - 1) * count
  half_is = half_length f images lanes count m shift old pre pos

  twice_half : length zs ≡ half + half
  twice_half =
      kept
      ∙ omega (arith, half_is, two_halves f images lanes count m shift old pre pos, add-mul (2 ^ (m - 1)) (2 ^ (m - 1)) count)

  pub length_lower : length (take half zs) ≡ half
  length_lower = length-take-le half zs (omega (arith, twice_half))

  pub lower_taken : Below (2 ^ degree f.modulus) zs → InLanes f images lanes count (m - 1) shift (take half zs)
  lower_taken b =
      in_half f images lanes count m shift old pre pos shift (take half zs) pre.shift_symbols (length_lower ∙ half_is)
      (All-take (λ (x : ℕ). x < 2 ^ degree f.modulus) half zs b)

  module _ (first : List ℕ) (e : length first ≡ length (take half zs)) where
    abbrev joined : List ℕ
    joined = first ++ drop half zs

    first_long : length first ≡ half
    first_long = e ∙ length_lower

    -- the part that the second call is lent
    abbrev pub second-arg : List ℕ
    second-arg = take (length joined - half) (drop half joined)

    pub second-arg-is : second-arg ≡ drop half zs
    second-arg-is = second-lent half zs first first_long twice_half

    length-second-arg : length second-arg ≡ half
    length-second-arg = ap length second-arg-is ∙ length-drop half zs ∙ omega (arith, twice_half)

    pub upper_taken : Below (2 ^ degree f.modulus) zs → (x : List ℕ) → Shifted images (m - 1) shift x → InLanes f images lanes count (m - 1) x second-arg
    upper_taken b x s =
        in_half f images lanes count m shift old pre pos x second-arg (shifted-below f images lanes count m shift old pre pos x s)
        (length-second-arg ∙ half_is)
        (subst (Below (2 ^ degree f.modulus)) (sym second-arg-is) (All-drop (λ (x : ℕ). x < 2 ^ degree f.modulus) half zs b))

    -- both parts put back
    pub back_is : (second : List ℕ) → put_mid half (length joined - half) joined second ≡ first ++ second
    back_is second = both-back half zs first first_long twice_half second

-- the shift of the upper half in lane r
upper_shift : (images lanes : List ℕ) (count m : ℕ) (shift x : List ℕ) → m ≤ max_dim → Shifted images m shift x → (q r i : ℕ) → i < m
    → lane_shift lanes count x r i ≡ shifted (symbols q) (image_at images) m (lane_shift lanes count shift r) i
upper_shift images lanes count m shift x h s q r i hi =
    ap (λ (t : ℕ). get_or lanes (i * count + r) 0 ⊕ t) (s.right i (omega arith)) ∙ sym (xor_assoc (get_or lanes (i * count + r) 0) (get_or shift i 0) (image_at images m i))

-- ---- the transform from those of its halves

module _ (q : ℕ) (images lanes : List ℕ) (count m : ℕ) (shift old : List ℕ) (few : m ≤ max_dim) (pos : 0 < m) (long : length old ≡ 2 ^ m * count) where
  abbrev size : ℕ
  size = 2 ^ (m - 1)

  whole : length old ≡ size * count + size * count
  whole = long ∙ ap (λ (t : ℕ). t * count) (half_pow m pos) ∙ add-mul size size count

  abbrev at : ℕ → ℕ → ℕ
  at r = lane_shift lanes count shift r

  module _ (half : ℕ) (eh : half ≡ size * count) (x : List ℕ) (sx : Shifted images (m - 1) shift x) where
    upper_transform : (r : ℕ) (d : List ℕ) → transform (symbols q) (image_at images) (m - 1) (lane_shift lanes count x r) d
        ≡ transform (symbols q) (image_at images) (m - 1) (shifted (symbols q) (image_at images) (m - 1) (at r)) d
    upper_transform r d =
        transform_ext (symbols q) (image_at images) (image_at images) (m - 1) (λ i j hi hj. refl) (m - 1) (le_refl (m - 1))
        (lane_shift lanes count x r) (shifted (symbols q) (image_at images) (m - 1) (at r)) d
        (upper_shift images lanes count (m - 1) shift x (omega arith) sx q r)

    upper_inverse : (r : ℕ) (d : List ℕ) → inverse (symbols q) (image_at images) (m - 1) (lane_shift lanes count x r) d
        ≡ inverse (symbols q) (image_at images) (m - 1) (shifted (symbols q) (image_at images) (m - 1) (at r)) d
    upper_inverse r d =
        inverse_ext (symbols q) (image_at images) (image_at images) (m - 1) (λ i j hi hj. refl) (m - 1) (le_refl (m - 1))
        (lane_shift lanes count x r) (shifted (symbols q) (image_at images) (m - 1) (at r)) d
        (upper_shift images lanes count (m - 1) shift x (omega arith) sx q r)

    -- a layer, then each half
    module _ (zs first part second : List ℕ) (lay : Layered q (m - 1) count (λ r. at r (m - 1)) old zs)
        (e₁ : Evaluated q images lanes count (m - 1) shift (take half zs) first) (ep : part ≡ drop half zs)
        (e₂ : Evaluated q images lanes count (m - 1) x part second) where
      length_first : length first ≡ size * count
      length_first = e₁.kept ∙ length-take-le half zs (omega (arith, lay.kept, whole)) ∙ eh

      length_second : length second ≡ size * count
      length_second = e₂.kept ∙ ap length ep ∙ length-drop half zs ∙ omega (arith, lay.kept, whole)

      lane_first : (r : ℕ) → r < count → lane count r size first
          ≡ transform (symbols q) (image_at images) (m - 1) (at r) (folded (symbols q) (m - 1) (at r (m - 1)) (lane count r (2 ^ m) old))
      lane_first r h =
          e₁.right r h
          ∙ ap (transform (symbols q) (image_at images) (m - 1) (at r))
          (ap (λ (t : ℕ). lane count r size (take t zs)) eh ∙ lay.lower r h
          ∙ ap (λ (t : ℕ). folded (symbols q) (m - 1) (at r (m - 1)) (lane count r t old)) (sym (half_pow m pos)))

      lane-second : (r : ℕ) → r < count → lane count r size second
          ≡ transform (symbols q) (image_at images) (m - 1) (shifted (symbols q) (image_at images) (m - 1) (at r))
          (add_p (symbols q) (folded (symbols q) (m - 1) (at r (m - 1)) (lane count r (2 ^ m) old)) (drop size (lane count r (2 ^ m) old)))
      lane-second r h =
          e₂.right r h
          ∙ upper_transform r (lane count r size part)
          ∙ ap (transform (symbols q) (image_at images) (m - 1) (shifted (symbols q) (image_at images) (m - 1) (at r)))
          (ap (lane count r size) (ep ∙ ap (λ (t : ℕ). drop t zs) eh) ∙ lay.upper r h
          ∙ ap (λ (t : ℕ). add_p (symbols q) (folded (symbols q) (m - 1) (at r (m - 1)) (lane count r t old)) (drop size (lane count r t old))) (sym (half_pow m pos)))

      pub evaluated_step : Evaluated q images lanes count m shift old (first ++ second)
      evaluated_step =
          record {
            kept = length-append first second ∙ omega (arith, length_first, length_second, whole);
            below = All-append (λ y. y < 2 ^ degree q) first second e₁.below e₂.below;
            right = λ r h. ap (λ (t : ℕ). lane count r t (first ++ second)) (half_pow m pos)
                ∙ lane_append count r size (size * count) h refl size first second length_first
                ∙ ap₂ ◌++◌ (lane_first r h) (lane-second r h)
                ∙ sym (transform_layer (symbols q) (image_at images) m pos (at r) (lane count r (2 ^ m) old));
          }

    -- each half, then a layer back
    module _ (first part second : List ℕ) (e₁ : Interpolated q images lanes count (m - 1) shift (take half old) first) (ep : part ≡ drop half old)
        (e₂ : Interpolated q images lanes count (m - 1) x part second) where
      length_one : length first ≡ size * count
      length_one = e₁.kept ∙ length-take-le half old (omega (arith, whole)) ∙ eh

      length_two : length second ≡ size * count
      length_two = e₂.kept ∙ ap length ep ∙ length-drop half old ∙ omega (arith, whole)

      pub length_both : length (first ++ second) ≡ (size + size) * count
      length_both = length-append first second ∙ omega (arith, length_one, length_two, add-mul size size count)

      pub both_below : Below (2 ^ degree q) (first ++ second)
      both_below = All-append (λ y. y < 2 ^ degree q) first second e₁.below e₂.below

      module _ (r : ℕ) (h : r < count) where
        abbrev g : List ℕ
        g = lane count r (2 ^ m) old

        split : g ≡ lane count r size (take half old) ++ lane count r size (drop half old)
        split = ap (λ (t : ℕ). lane count r t old) (half_pow m pos) ∙ lane_drop count r size half h eh size old (omega (arith, whole))

        lower : lane count r size (take half old) ≡ take size g
        lower =
            sym (ap (take size) split ∙ take_at (lane count r size (take half old)) (lane count r size (drop half old)) size (length_lane count r size (take half old)))

        upper : lane count r size (drop half old) ≡ drop size g
        upper =
            sym (ap (drop size) split ∙ drop_at (lane count r size (take half old)) (lane count r size (drop half old)) size (length_lane count r size (take half old)))

        one-is : lane count r size (take (size * count) (first ++ second)) ≡ inverse (symbols q) (image_at images) (m - 1) (at r) (take size g)
        one-is =
            ap (lane count r size) (take_at first second (size * count) length_one) ∙ e₁.right r h
            ∙ ap (inverse (symbols q) (image_at images) (m - 1) (at r)) lower

        two_is : lane count r size (drop (size * count) (first ++ second))
            ≡ inverse (symbols q) (image_at images) (m - 1) (shifted (symbols q) (image_at images) (m - 1) (at r)) (drop size g)
        two_is =
            ap (lane count r size) (drop_at first second (size * count) length_one) ∙ e₂.right r h ∙ upper_inverse r (lane count r size part)
            ∙ ap (inverse (symbols q) (image_at images) (m - 1) (shifted (symbols q) (image_at images) (m - 1) (at r))) (ap (lane count r size) ep ∙ upper)

      pub interpolated_step : (new : List ℕ) → Unlayered q (m - 1) count (λ r. at r (m - 1)) (first ++ second) new → Interpolated q images lanes count m shift old new
      interpolated_step new u =
          record {
            kept = u.kept ∙ length_both ∙ omega (arith, whole, add-mul size size count);
            below = u.below;
            right = λ r h. ap (λ (t : ℕ). lane count r t new) (half_pow m pos) ∙ u.whole r h
                ∙ ap₂ (unfolded (symbols q) (at r (m - 1))) (one-is r h) (two_is r h)
                ∙ sym (inverse_layer (symbols q) (image_at images) m pos (at r) (lane count r (2 ^ m) old));
          }
