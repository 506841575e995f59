-- The transforms of the eight blocks, from the transform in lanes. Assumes nothing.
use mathlib.Core.Path.{◌≡◌, refl, sym, ap, ap₂, ◌∙◌, subst}
use mathlib.Core.List.{List, map}
use Prim.Native.Nat.{ℕ, ◌+◌, ◌-◌, ◌*◌, ◌^◌, ◌≤◌, ◌<◌}
use native.Mathlib.Nat.{le_refl, mul_comm}
use native.Mathlib.Omega.{arith}
use lib.ListN.{length, get_or, drop, length-drop, length-map, get_or-map}
use lib.Pow.{pow_pos}
use lib.Seq.{ext_get_or, get_or-drop}
use Rattle.lists.specs.All.{All, Below, All-of}
use Rattle.lists.specs.Tables.{part, part-flat}
use Rattle.lists.specs.Lanes.{length_lane, lane_each}
use Rattle.field.specs.Binary.{◌⊕◌, degree, Irreducible}
use Rattle.field.specs.Xor.{xor_zero_right}
use Rattle.field.specs.Laws.{Ops, IsField}
use Rattle.field.specs.Symbols.{symbols, symbols-field}
use Rattle.field.specs.declared.Field.{Field}
use Rattle.poly.specs.Span.{elem}
use Rattle.poly.specs.Novel.{image}
use Rattle.poly.proofs.Novel.{image-zero, elem-image}
use Rattle.poly.specs.Transform.{transform, inverse}
use Rattle.poly.proofs.Transform.{transform_ext, inverse_ext, length_transform}
use Rattle.poly.specs.Values.{table, images_of}
use Rattle.poly.specs.Degree.{monomials}
use Rattle.poly.specs.Codeword.{Basis, word_of}
use Rattle.poly.specs.Blocks.{eighths, block_shift, block_values}
use Rattle.poly.proofs.Blocks.{word_of_blocks}
use Rattle.space.specs.Images.{Images}
use Rattle.transform.specs.Lanes.{image_at, lane_shift, InLanes, Evaluated, Interpolated}
use Rattle.transform.specs.Spans.{Zeros, image_list, SpanLanes}
use Rattle.transform.specs.SpanLaws.{span_below}
use Rattle.transform.specs.Blocks.{InBlocks, block, block_image, BlocksInterpolated, BlocksEvaluated}
use Rattle.transform.proofs.SpanLists.{length_images, images-at}

pub eight : (k : ℕ) → 3 ≤ k → 2 ^ k ≡ 2 ^ (k - 3) * 8
eight k h = eighths k h ∙ mul_comm 8 (2 ^ (k - 3))

module _ (q : ℕ) (irr : Irreducible q) (images : List ℕ) where
  abbrev K : Ops
  K = symbols q

  abbrev F : IsField K
  F = symbols-field q irr

  -- ---- with the basis whose images the table holds

  module _ (b : List ℕ) (I : Images K b images) where
    pub images_of_lem : (from c j : ℕ) → from + c ≡ length b → j + 1 < length b → image_list images from c j ≡ map (image K b j) (drop from b)
    images_of_lem from c j e hj =
        ext_get_or 0 (image_list images from c j) (map (image K b j) (drop from b))
        (length_images images from c j ∙ sym (length-map (drop from b) (image K b j) ∙ length-drop from b ∙ omega arith))
        (λ i h. let l : i < c = omega (arith, length_images images from c j) in
        images-at images from c j i l ∙ I.right (from + i) j (omega arith) hj ∙ ap (image K b j) (sym (get_or-drop from b i 0))
        ∙ sym (get_or-map (image K b j) (drop from b) i 0) ∙ ap (get_or (map (image K b j) (drop from b)) i) (image-zero F b j))

    -- the span of the last c basis elements
    pub span_image : (from c j : ℕ) → from + c ≡ length b → j + 1 < length b → (e : ℕ) → elem K (image_list images from c j) e ≡ image K b j (elem K (drop from b) e)
    span_image from c j h hj e = ap (λ (l : List ℕ). elem K l e) (images_of_lem from c j h hj) ∙ elem-image F b j (drop from b) e

    module _ (k : ℕ) (hk : 3 ≤ k) (B : Basis K k b) (r : ℕ) where
      same-table : (i j : ℕ) → i < k - 3 → j < k - 3 → image_at images i j ≡ table K b i j
      same-table i j hi hj = I.right i j (omega (arith, B.count)) (omega (arith, B.count))

      same_shift : (j : ℕ) → j < k - 3 → block_image q images k r j ≡ images_of K b (block_shift K k b r) j
      same_shift j h = span_image (k - 3) 3 j (omega (arith, B.count)) (omega (arith, B.count)) r

      inverse-block : (d : List ℕ) → inverse K (image_at images) (k - 3) (block_image q images k r) d ≡ inverse K (table K b) (k - 3) (images_of K b (block_shift K k b r)) d
      inverse-block d =
          inverse_ext K (image_at images) (table K b) (k - 3) (λ i j hi hj. same-table i j hi (omega arith)) (k - 3) (le_refl (k - 3)) (block_image q images k r) (images_of K b (block_shift K k b r)) d same_shift

      transform-block : (d : List ℕ) → transform K (image_at images) (k - 3) (block_image q images k r) d ≡ block_values K k b d r
      transform-block d =
          transform_ext K (image_at images) (table K b) (k - 3) same-table (k - 3) (le_refl (k - 3)) (block_image q images k r) (images_of K b (block_shift K k b r)) d same_shift

  -- ---- from the transform in lanes

  module _ (k : ℕ) (hk : 3 ≤ k) (lanes shift : List ℕ) (s : SpanLanes images (k - 3) 3 (k - 3) lanes) (z : Zeros 16 shift) where
    lane_shift_lem : (r : ℕ) → r < 8 → (j : ℕ) → j < k - 3 → lane_shift lanes 8 shift r j ≡ block_image q images k r j
    lane_shift_lem r hr j h = ap₂ (λ (x y : ℕ). x ⊕ y) (s.inside j h q irr r hr) (z.each j) ∙ xor_zero_right (block_image q images k r j)

    pub blocks_interpolated : (old new : List ℕ) → Interpolated q images lanes 8 (k - 3) shift old new → BlocksInterpolated q images k old new
    blocks_interpolated old new t =
        record {
          kept = t.kept;
          below = t.below;
          right = numeric;
          coeffs = λ b B I r h. numeric r h ∙ inverse-block b I k hk B r (block k r old);
        }
      where
        numeric : (r : ℕ) → r < 8 → block k r new ≡ inverse K (image_at images) (k - 3) (block_image q images k r) (block k r old)
        numeric r h =
            t.right r h
            ∙ inverse_ext K (image_at images) (image_at images) (k - 3) (λ i j hi hj. refl) (k - 3) (le_refl (k - 3)) (lane_shift lanes 8 shift r) (block_image q images k r) (block k r old)
            (lane_shift_lem r h)

    pub blocks_evaluated : (old new : List ℕ) → Below (2 ^ degree q) old → Evaluated q images lanes 8 (k - 3) shift old new → BlocksEvaluated q images k old new
    blocks_evaluated old new bo t =
        record {
          kept = t.kept;
          below = t.below;
          right = numeric;
          word = λ b B I d e r h. words b B I d e r h;
        }
      where
        numeric : (r : ℕ) → r < 8 → block k r new ≡ transform K (image_at images) (k - 3) (block_image q images k r) (block k r old)
        numeric r h =
            t.right r h
            ∙ transform_ext K (image_at images) (image_at images) (k - 3) (λ i j hi hj. refl) (k - 3) (le_refl (k - 3)) (lane_shift lanes 8 shift r) (block_image q images k r) (block k r old)
            (lane_shift_lem r h)

        words : (b : List ℕ) → Basis K k b → Images K b images → (d : List ℕ) → ((r : ℕ) → r < 8 → block k r old ≡ d)
            → (r : ℕ) → r < 8 → block k r new ≡ part (2 ^ (k - 3)) r (word_of K k b (monomials K b (k - 3) d))
        words b B I d e r h =
            let long : length d ≡ 2 ^ (k - 3) = ap length (sym (e 0 (omega arith))) ∙ length_lane 8 0 (2 ^ (k - 3)) old in
            let small : All K.Sym d = subst (All K.Sym) (e 0 (omega arith)) (lane_each K.Sym 8 0 (2 ^ (k - 3)) old (pow_pos (degree q)) bo) in
            numeric r h ∙ ap (transform K (image_at images) (k - 3) (block_image q images k r)) (e r h) ∙ transform-block b I k hk B r d
            ∙ sym (part-flat 8 (2 ^ (k - 3)) (block_values K k b d) r (λ i l. length_transform K (table K b) (k - 3) (images_of K b (block_shift K k b i)) d long) h)
            ∙ ap (part (2 ^ (k - 3)) r) (word_of_blocks F k hk b B d long small)

-- ---- what the transform in lanes takes

module _ (f : Field) (images : List ℕ) (k : ℕ) (values : List ℕ) (pre : InBlocks f images k values) (lanes shift : List ℕ)
    (s : SpanLanes images (k - 3) 3 (k - 3) lanes) (z : Zeros 16 shift) where
  pub in_lanes : InLanes f images lanes 8 (k - 3) shift values
  in_lanes =
      record {
        sized = pre.sized;
        few = omega (arith, pre.high);
        long = pre.long ∙ eight k pre.low;
        room = omega (arith, s.count, pre.high);
        image-symbols = pre.image-symbols;
        lane-symbols = span_below f.modulus pre.irreducible images (k - 3) 3 (k - 3) lanes s pre.image-symbols;
        shift_symbols = All-of (λ x. x < 2 ^ degree f.modulus) shift 0 (λ p h. subst (λ (x : ℕ). x < 2 ^ degree f.modulus) (sym (z.each p)) (pow_pos (degree f.modulus)));
        symbols = pre.symbols;
      }
