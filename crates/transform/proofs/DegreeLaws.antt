-- The degree of a short word, from the coefficients of its blocks. Assumes nothing.
use mathlib.Core.Path.{◌≡◌, refl, sym, ap, ap₂, ◌∙◌, subst}
use mathlib.Core.Bool.{Bool, true, false}
use mathlib.Core.List.{List, map}
use Prim.Native.Nat.{ℕ, suc, ◌+◌, ◌-◌, ◌*◌, ◌/◌, ◌^◌, ◌≤◌, ◌<◌}
use native.Mathlib.Nat.{mul_comm}
use native.Mathlib.Omega.{arith}
use lib.ListN.{length, get_or, take, drop, length-take, length-drop, length-map, take-append-drop, get_or-map}
use lib.Pow.{pow_mono}
use lib.Seq.{get_or-drop, length-take-le}
use Rattle.lists.specs.All.{All, Below, All-of, All-take, All-drop}
use Rattle.lists.specs.Decides.{Decides, decides_true, decides_false}
use Rattle.lists.specs.Lanes.{lane, get_or_lane, lane_take, lanes_same, lanes_each}
use Rattle.lists.specs.Tables.{part, part-fits, part_append, length_part, get_d_part}
use Rattle.field.specs.Binary.{◌⊕◌, degree, Irreducible}
use Rattle.field.specs.Laws.{Ops, IsField, 0_⊕}
use Rattle.field.specs.Symbols.{symbols, symbols-field}
use Rattle.field.specs.declared.Field.{Field}
use Rattle.poly.specs.Blocks.{eighths, block_shift, block_coeffs}
use Rattle.poly.specs.Codeword.{Basis, Codeword}
use Rattle.poly.specs.Coefficients.{coeff, Low}
use Rattle.poly.specs.Joined.{block_coefficients}
use Rattle.poly.proofs.Joined.{joined}
use Rattle.poly.specs.Novel.{image}
use Rattle.poly.proofs.Novel.{image-zero, elem-image}
use Rattle.poly.proofs.NovelDegree.{novel_degree}
use Rattle.poly.specs.Span.{elem}
use Rattle.poly.specs.Transform.{inverse}
use Rattle.poly.proofs.Transform.{inverse_ext, length_inverse}
use Rattle.poly.specs.Values.{table, images_of}
use Rattle.space.specs.Images.{Images, upper_images, upper_image}
use Rattle.transform.specs.Blocks.{InBlocks, block, BlocksInterpolated, EqualLanes}
use Rattle.transform.specs.Degree.{Highest, BlocksJoined, ToldInLanes}
use Rattle.std.specs.Prelude.{Some, None}
use Rattle.transform.specs.Lanes.{image_at, lane_shift, Interpolated}
use Rattle.transform.specs.Slices.{Transposed}
use Rattle.transform.proofs.BlockLaws.{eight}
use Rattle.transform.proofs.CodewordTest.{eighth, word_below, block_coeffs_lem, codeword_test}

-- ---- the coefficients of a word, from those of its blocks

module _ (q : ℕ) (irr : Irreducible q) (images : List ℕ) (k : ℕ) (hk : 3 ≤ k) (few : k ≤ 6) (b : List ℕ) (B : Basis (symbols q) k b) (I : Images (symbols q) b images) where
  abbrev K : Ops
  K = symbols q

  abbrev F : IsField K
  F = symbols-field q irr

  abbrev h : ℕ
  h = k - 3

  -- the images of number j of the last three basis elements
  abbrev last : ℕ → List ℕ
  last j = map (image K b j) (drop h b)

  last-count : (j : ℕ) → length (last j) ≡ 3
  last-count j = length-map (drop h b) (image K b j) ∙ length-drop h b ∙ omega (arith, B.count)

  last_entries : (i j : ℕ) → i < 3 → get_or (last j) i 0 ≡ table K b (h + i) j
  last_entries i j l =
      sym (ap (get_or (last j) i) (image-zero F b j)) ∙ get_or-map (image K b j) (drop h b) i 0 ∙ ap (image K b j) (get_or-drop h b i 0)

  -- the coefficients of a block
  block_same : (word : List ℕ) (r : ℕ) → block_coefficients F (table K b) h 3 last last-count last_entries (images_of K b 0) word r ≡ block_coeffs K k b word r
  block_same word r =
      inverse_ext K (table K b) (table K b) h (λ i j hi hj. refl) h (omega arith) (λ j. images_of K b 0 j ⊕ elem K (last j) r) (images_of K b (block_shift K k b r)) (part (2 ^ h) r word)
      (λ j l. ap₂ ◌⊕◌ (image-zero F b j) (elem-image F b j (drop h b) r) ∙ 0_⊕ F (image K b j (block_shift K k b r)))

  -- the upper layers by the table are those by the basis
  upper_same : (lanes shift : List ℕ) → ((p : ℕ) → get_or lanes p 0 ≡ 0) → ((p : ℕ) → get_or shift p 0 ≡ 0) → (o : ℕ) (xs : List ℕ)
      → inverse K (image_at (upper_images h images)) 3 (lane_shift lanes (2 ^ h) shift o) xs ≡ inverse K (λ i j. table K b (h + i) (h + j)) 3 (λ j. images_of K b 0 (h + j)) xs
  upper_same lanes shift zl zs o xs =
      inverse_ext K (image_at (upper_images h images)) (λ i j. table K b (h + i) (h + j)) 3
      (λ i j hi hj. upper_image h images i j (omega arith) ∙ I.right (h + i) (h + j) (omega (arith, B.count)) (omega (arith, B.count))) 3 (omega arith) (lane_shift lanes (2 ^ h) shift o)
      (λ j. images_of K b 0 (h + j)) xs (λ j l. ap₂ ◌⊕◌ (zl (j * 2 ^ h + o)) (zs j) ∙ F.zero-sum 0 ∙ sym (image-zero F b (h + j)))

  module _ (word : List ℕ) (lw : length word ≡ 2 ^ k) (blocks : List ℕ) (lb : length blocks ≡ 64) (each : (r : ℕ) → r < 8 → block k r blocks ≡ block_coeffs K k b word r) where
    abbrev whole : List ℕ
    whole = inverse K (table K b) k (images_of K b 0) word

    size : 2 ^ k ≡ 8 * 2 ^ h
    size = eighths k hk

    small : 2 ^ k ≤ 64
    small = pow_mono {i = k} {j = 6} few

    -- number o of each block, and lane o of the whole
    lane_whole : (o : ℕ) → o < 2 ^ h → inverse K (λ i j. table K b (h + i) (h + j)) 3 (λ j. images_of K b 0 (h + j)) (part 8 o blocks) ≡ lane (2 ^ h) o 8 whole
    lane_whole o l =
        sym (joined F (table K b) h 3 last last-count last_entries 3 k (omega arith) (omega arith) (images_of K b 0) word lw o l (part 8 o blocks)
        (length_part 8 o blocks (omega (arith, lb, small, size)))
        (λ r hr. get_d_part 8 o r blocks 0 hr ∙ sym (get_or_lane 8 r (2 ^ h) blocks o l) ∙ ap (λ (xs : List ℕ). get_or xs o 0) (each r hr ∙ sym (block_same word r))))

    pub blocks_joined : (lanes shift : List ℕ) → ((p : ℕ) → get_or lanes p 0 ≡ 0) → ((p : ℕ) → get_or shift p 0 ≡ 0) → (old out new : List ℕ) → Transposed (2 ^ h) 8 blocks old out
        → length new ≡ 2 ^ k → Interpolated q (upper_images h images) lanes (2 ^ h) 3 shift (take (2 ^ k) out) new → new ≡ whole
    blocks_joined lanes shift zl zs old out new t ln s =
        lanes_same (2 ^ h) 8 new whole (ln ∙ size) (length_inverse K (table K b) k (images_of K b 0) word lw ∙ size)
        (λ r o hr ho. sym (get_or_lane (2 ^ h) o 8 new r hr) ∙ ap (λ (xs : List ℕ). get_or xs r 0) (same o ho) ∙ get_or_lane (2 ^ h) o 8 whole r hr)
      where
        same : (o : ℕ) → o < 2 ^ h → lane (2 ^ h) o 8 new ≡ lane (2 ^ h) o 8 whole
        same o l =
            s.right o l
            ∙ ap (inverse K (image_at (upper_images h images)) 3 (lane_shift lanes (2 ^ h) shift o)) (lane_take (2 ^ h) o 8 (2 ^ k) l size out ∙ t.lanes o l)
            ∙ upper_same lanes shift zl zs o (part 8 o blocks) ∙ lane_whole o l

-- ---- what the upper layers take

pub zeros-small : (m : ℕ) (xs : List ℕ) → 0 < m → ((p : ℕ) → get_or xs p 0 ≡ 0) → Below m xs
zeros-small m xs h z = All-of (λ (x : ℕ). x < m) xs 0 (λ i l. subst (λ (x : ℕ). x < m) (sym (z i)) h)

-- blocks that are put after one another have the numbers of the lanes
pub transposed_small : (P : ℕ → Type 0) (rows size : ℕ) (blocks old out : List ℕ) → size * rows ≤ length blocks → size * rows ≤ length out
    → Transposed rows size blocks old out → All P (take (size * rows) blocks) → All P (take (size * rows) out)
transposed_small P rows size blocks old out lb lo t a =
    lanes_each P rows size (take (size * rows) out) (length-take-le (size * rows) out lo)
    (λ o l. subst (All P) (sym (lane_take rows o size (size * rows) l refl out ∙ t.lanes o l ∙ inside o l))
    (All-take P size (drop (o * size) (take (size * rows) blocks)) (All-drop P (o * size) (take (size * rows) blocks) a)))
  where
    inside : (o : ℕ) → o < rows → part size o blocks ≡ part size o (take (size * rows) blocks)
    inside o l =
        ap (part size o) (sym (take-append-drop (size * rows) blocks))
        ∙ part_append size o (take (size * rows) blocks) (drop (size * rows) blocks)
        (omega (arith, length-take-le (size * rows) blocks lb, part-fits {i = o} {n = rows} size l, mul_comm rows size))

-- ---- the two answers

-- a short word in lanes, and its blocks' coefficients at the front of `work`
module _ (f : Field) (images : List ℕ) (k : ℕ) (xs : List ℕ) (pre : InBlocks f images k (take (2 ^ k) xs)) (new : List ℕ) (t : BlocksInterpolated f.modulus images k (take (2 ^ k) xs) new)
    (answer : Bool) (d : Decides answer (EqualLanes (length new / 8) new)) where
  pub short-fits : 2 ^ k ≤ length xs
  short-fits = omega (arith, pre.long, length-take (2 ^ k) xs)

  module _ (b : List ℕ) (B : Basis (symbols f.modulus) k b) (I : Images (symbols f.modulus) b images) (word : List ℕ) (lw : length word ≡ 2 ^ k)
      (e : (r : ℕ) → r < 8 → block k r xs ≡ part (2 ^ (k - 3)) r word) where
    front : (r : ℕ) → r < 8 → block k r (take (2 ^ k) xs) ≡ part (2 ^ (k - 3)) r word
    front r h = lane_take 8 r (2 ^ (k - 3)) (2 ^ k) h (eight k pre.low) xs ∙ e r h

    decides : Decides answer (Codeword (symbols f.modulus) k b word)
    decides =
        codeword_test f.modulus pre.irreducible images k pre.low (take (2 ^ k) xs) new pre.symbols t b B I word lw front answer
        (subst (λ (n : ℕ). Decides answer (EqualLanes n new)) (eighth k pre.low new (t.kept ∙ pre.long)) d)

    symbols-word : All (symbols f.modulus).Sym word
    symbols-word = word_below f.modulus pre.irreducible images k pre.low (take (2 ^ k) xs) new pre.symbols t b B I word lw front

    coefficients : (r : ℕ) → r < 8 → block k r new ≡ block_coeffs (symbols f.modulus) k b word r
    coefficients = block_coeffs_lem f.modulus pre.irreducible images k pre.low (take (2 ^ k) xs) new pre.symbols t b B I word lw front

  pub told-within : answer ≡ true → ToldInLanes f.modulus images k xs None
  told-within h b B I word lw e = decides_true (Codeword (symbols f.modulus) k b word) (decides b B I word lw e) h

  module _ (work : List ℕ) (ew : take (2 ^ k) work ≡ new) where
    pub work_blocks : InBlocks f images k (take (2 ^ k) work)
    work_blocks =
        record {
          sized = pre.sized;
          irreducible = pre.irreducible;
          low = pre.low;
          high = pre.high;
          long = ap length ew ∙ t.kept ∙ pre.long;
          image-symbols = pre.image-symbols;
          symbols = subst (Below (2 ^ degree f.modulus)) (sym ew) t.below;
        }

    pub told-above : answer ≡ false → (ys : List ℕ) → BlocksJoined f.modulus images k work ys → (g : ℕ) → Highest (take (2 ^ k) ys) g → ToldInLanes f.modulus images k xs (Some g)
    told-above h ys j g top b B I word lw e = (
      none,
      novel_degree (symbols-field f.modulus pre.irreducible) k b B word lw (symbols-word b B I word lw e) g (subst (Low (suc g)) whole top.0)
          (λ z. subst (Low 0) whole (top.1 (ap (λ (l : List ℕ). coeff l g) whole ∙ z))) none,
    )
      where
        none : Codeword (symbols f.modulus) k b word → ⊥
        none = decides_false (Codeword (symbols f.modulus) k b word) (decides b B I word lw e) h

        whole : take (2 ^ k) ys ≡ inverse (symbols f.modulus) (table (symbols f.modulus) b) k (images_of (symbols f.modulus) b 0) word
        whole =
            j.1 b B I word lw
            (λ r l. sym (lane_take 8 r (2 ^ (k - 3)) (2 ^ k) l (eight k pre.low) work) ∙ ap (block k r) ew ∙ coefficients b B I word lw e r l)
