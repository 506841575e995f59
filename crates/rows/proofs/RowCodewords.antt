-- Rows whose blocks are stored so are codewords: the polynomial of row r has the coefficients that its block of the word gives. Assumes nothing.
use mathlib.Core.Path.{◌≡◌, refl, sym, ap, ◌∙◌}
use mathlib.Core.List.{List}
use Prim.Native.Nat.{ℕ, ◌+◌, ◌-◌, ◌*◌, ◌^◌, ◌≤◌, ◌<◌}
use native.Mathlib.Decide.{ℕ_discrete}
use native.Mathlib.Nat.{le_refl}
use native.Mathlib.Omega.{arith}
use lib.ListN.{length, get_or, drop}
use lib.Pow.{pow_pos}
use Rattle.lists.specs.All.{All, All-take, All-drop}
use Rattle.lists.specs.Tables.{part, flat, part-flat, length_tab}
use Rattle.field.specs.Binary.{Irreducible}
use Rattle.field.specs.Laws.{Ops, IsField}
use Rattle.field.specs.Symbols.{symbols, symbols-field}
use Rattle.poly.specs.Poly.{eval}
use Rattle.poly.specs.Span.{elem}
use Rattle.poly.proofs.Span.{elem_sym}
use Rattle.poly.proofs.Novel.{W-next}
use Rattle.poly.specs.Transform.{transform}
use Rattle.poly.proofs.Transform.{length_transform, length_inverse, transform-inverse, transform_ext}
use Rattle.poly.specs.Values.{table, images_of}
use Rattle.poly.proofs.Values.{coeffs_sym}
use Rattle.poly.specs.Degree.{monomials, length_monomials}
use Rattle.poly.proofs.Degree.{monomials_sym}
use Rattle.poly.specs.Codeword.{Basis, word_of, Codeword}
use Rattle.poly.specs.Blocks.{block_values}
use Rattle.poly.proofs.Blocks.{word_of_blocks}
use Rattle.space.specs.Images.{Images}
use Rattle.space.specs.Sizes.{max_dim}
use Rattle.transform.specs.Lanes.{image_at}
use Rattle.proximity.specs.Dim.{half, row_dim, col_dim}
use Rattle.proximity.specs.Spaces.{β, row_basis}
use Rattle.proximity.specs.Proof.{slot, row, block}
use Rattle.proximity.specs.Subspaces.{row-basis, slot-elem, elem_drop, inside}
use Rattle.proximity.specs.Layout.{length_block}
use Rattle.proximity.specs.Blocks.{block_at, row_of_blocks}
use Rattle.proximity.specs.LineImages.{row_images}
use Rattle.proximity.specs.ImageLaws.{element_right, row-images, entry-low, image-same}
use Rattle.rows.specs.Rows.{own_image, block_image, row_coeffs, row_block, Stored}
use Rattle.rows.proofs.Stores.{stored-block}

module _ (q : ℕ) (irr : Irreducible q) (k : ℕ) (s : 7 ≤ k) (top : k ≤ max_dim) (b : List ℕ) (B : Basis (symbols q) k b) (t : List ℕ) (I : Images (symbols q) b t)
    (w π : List ℕ) (lw : length w ≡ 2 ^ k) (sw : All (symbols q).Sym w) (lπ : 7 * 2 ^ k ≤ length π) (D : Stored q k t w 8 π) (r : ℕ) (hr : r < 2 ^ col_dim k) where
  abbrev K : Ops
  K = symbols q

  abbrev F : IsField K
  F = symbols-field q irr

  abbrev h : ℕ
  h = half k

  abbrev rb : List ℕ
  rb = row_basis K k b r

  abbrev d : List ℕ
  d = row_coeffs q k t w r

  RB : Basis K (row_dim k) rb
  RB = row-basis F k b s B r hr

  RI : Images K rb (row_images k t r)
  RI = row-images q irr b t I k s top B.count r

  width : row_dim k - 3 ≡ h
  width = omega arith

  -- ---- the coefficients

  length_own : length (part (2 ^ h) r w) ≡ 2 ^ h
  length_own = length_block k w π lw lπ r hr

  length_d : length d ≡ 2 ^ h
  length_d = length_inverse K (image_at t) h (own_image k t r) (part (2 ^ h) r w) length_own

  own_right : (i : ℕ) → i < h → own_image k t r i ≡ images_of K b (β K k b r) i
  own_right i l = element_right q irr b t I h (col_dim k) (omega (arith, B.count)) r i (omega (arith, B.count)) (omega arith)

  d_sym : All K.Sym d
  d_sym =
      coeffs_sym F b B.elements (W-next F b B.elements B.independent) (image_at t) h (inside F k b s B h (omega arith)) (λ i j hi hj. I.right i j (omega (arith, B.count)) (omega (arith, B.count)))
      (own_image k t r) (β K k b r) own_right (elem_sym F (drop h b) r (All-drop K.Sym h b B.elements))
      (part (2 ^ h) r w) (All-take K.Sym (2 ^ h) (drop (r * 2 ^ h) w) (All-drop K.Sym (r * 2 ^ h) w sw))

  -- ---- the blocks

  same-table : (i j : ℕ) → i < h → j < h → image_at t i j ≡ table K rb i j
  same-table i j hi hj =
      I.right i j (omega (arith, B.count)) (omega (arith, B.count))
      ∙ ap (λ (x : ℕ). images_of K b x j) (sym (entry-low q irr b t I k s top B.count r i (omega arith)))
      ∙ image-same q irr b t I k s top B.count r j (get_or rb i 0) (omega arith)

  coset_right : (j i : ℕ) → i < h → block_image k t r j i ≡ images_of K rb (elem K (drop h rb) j) i
  coset_right j i l = element_right q irr rb (row_images k t r) RI h 3 (omega (arith, RB.count)) j i (omega (arith, RB.count)) (omega arith)

  values_are : (j : ℕ) → row_block q k t w r j ≡ block_values K (row_dim k) rb d j
  values_are j =
      transform_ext K (image_at t) (table K rb) h same-table h (le_refl h) (block_image k t r j) (images_of K rb (elem K (drop h rb) j)) d (coset_right j)
      ∙ ap (λ (m : ℕ). transform K (table K rb) m (images_of K rb (elem K (drop m rb) j)) d) (sym width)

  -- the coset of the block that lies in the word is that of β
  slot_shift : elem K (drop h rb) (slot r) ≡ β K k b r
  slot_shift =
      elem_drop F h rb (slot r) (omega (arith, RB.count)) ∙ ap (elem K rb) {x = slot r * 2 ^ h} {y = slot r * 2 ^ h + 0} (omega arith)
      ∙ slot-elem F k b s B r 0 (pow_pos h) ∙ ap (elem K b) {x = r * 2 ^ h + 0} {y = r * 2 ^ h} (omega arith)
      ∙ sym (elem_drop F h b r (inside F k b s B h (omega arith)))

  slot-image : (i : ℕ) → i < h → block_image k t r (slot r) i ≡ own_image k t r i
  slot-image i l =
      coset_right (slot r) i l ∙ ap (λ (x : ℕ). images_of K rb x i) slot_shift
      ∙ sym (image-same q irr b t I k s top B.count r i (β K k b r) (omega arith)) ∙ sym (own_right i l)

  slot-block : row_block q k t w r (slot r) ≡ part (2 ^ h) r w
  slot-block =
      transform_ext K (image_at t) (image_at t) h (λ i j hi hj. refl) h (le_refl h) (block_image k t r (slot r)) (own_image k t r) d slot-image
      ∙ transform-inverse F (image_at t) h (own_image k t r) (part (2 ^ h) r w) length_own

  block-is : (j : ℕ) → j < 8 → block k w π r j ≡ row_block q k t w r j
  block-is j hj = by (ℕ_discrete j (slot r))
    where
      by : Dec (j ≡ slot r) → block k w π r j ≡ row_block q k t w r j
      by (yes e) = block_at k w π r j e ∙ sym (ap (row_block q k t w r) e ∙ slot-block)
      by (no e) = stored-block k w π r j e ∙ D r j hr hj e

  -- ---- the row

  abbrev p : List ℕ
  p = monomials K rb (row_dim k - 3) d

  long-values : (j : ℕ) → j < 8 → length (block_values K (row_dim k) rb d j) ≡ 2 ^ h
  long-values j l = ap length (sym (values_are j)) ∙ length_transform K (image_at t) h (block_image k t r j) d length_d

  word-is : flat 8 (block_values K (row_dim k) rb d) ≡ word_of K (row_dim k) rb p
  word-is = word_of_blocks F (row_dim k) (omega arith) rb RB d (length_d ∙ ap (λ (m : ℕ). 2 ^ m) (sym width)) d_sym

  row_is : word_of K (row_dim k) rb p ≡ row k w π r
  row_is =
      row_of_blocks k w π lw lπ r hr (word_of K (row_dim k) rb p) (length_tab (2 ^ row_dim k) (λ i. eval K p (elem K rb i)))
      (λ j l. ap (part (2 ^ h) j) (sym word-is) ∙ part-flat 8 (2 ^ h) (block_values K (row_dim k) rb d) j long-values l ∙ sym (values_are j) ∙ sym (block-is j l))

  pub row_codeword : Codeword K (row_dim k) rb (row k w π r)
  row_codeword = (p, length_monomials K rb (row_dim k - 3) d (omega (arith, RB.count)), monomials_sym F rb RB.elements (row_dim k - 3) d d_sym, sym row_is)
