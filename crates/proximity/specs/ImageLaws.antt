-- The table of a line's space is right where that of the space is. Assumes nothing.
use Rattle.std.specs.Prelude.{◌≡◌, refl, ℕ, ◌+◌, ◌*◌, ◌/◌, ◌%◌, ◌-◌, ◌≤◌, ◌<◌, eqb, take, drop}
use Rattle.std.proofs.Math.Path.{sym, ap, subst}
use Rattle.std.proofs.Common.{◌∙◌, lt-ltb, le-ltb, eq-eqb, ne_eqb, length-append, length-drop, ext_get_or, length-take-le, get_or-take, get_or-drop, get_or-append-add}
use mathlib.Core.List.{List, [], ◌∷◌, map}
use Rattle.std.proofs.Math.Decide.{dec_lt, ℕ_discrete}
use native.Mathlib.Omega.{arith}
use Rattle.std.proofs.Math.ListN.{length, get_or, get_or-append}
use Rattle.std.proofs.lemmas.List.{length-map}
use Rattle.lists.specs.All.{All, All-at}
use Rattle.lists.specs.Pick.{pick, pick_true, pick_false}
use Rattle.lists.specs.Members.{get_or_map_in}
use Rattle.lists.specs.Tables.{tab, length_tab, get_or_tab, All-tab}
use Rattle.field.specs.Binary.{◌⊕◌, Irreducible}
use Rattle.field.specs.Laws.{Ops, IsField}
use Rattle.field.specs.Symbols.{symbols, symbols-field}
use Rattle.poly.specs.Span.{bit_of, elem}
use Rattle.poly.proofs.Span.{elem_sym}
use Rattle.poly.specs.Novel.{image}
use Rattle.poly.proofs.Novel.{elem-image}
use Rattle.poly.specs.Tower.{image_take, image_append}
use Rattle.poly.proofs.Tower.{length_images}
use Rattle.poly.proofs.ImageTable.{image-table}
use Rattle.poly.specs.Codeword.{Basis}
use Rattle.space.specs.Images.{Images, upper_images, length_upper_images, upper_image, upper_each}
use Rattle.space.specs.Sizes.{max_dim, cells}
use Rattle.proximity.specs.Dim.{half, col_dim}
use Rattle.proximity.specs.Spaces.{β, row_last, row_basis, col_basis}
use Rattle.proximity.specs.declared.Line.{Line}
use Rattle.proximity.specs.declared.Line.TheVariants.{Row, Column}
use Rattle.proximity.specs.ByLine.{line_basis}
use Rattle.proximity.specs.LineImages.{image_column, element_images, row_images, line_images, LineTable}

-- Sums are the same under every modulus
pub same-elem : (m n : ℕ) (bs : List ℕ) (r : ℕ) → elem (symbols m) bs r ≡ elem (symbols n) bs r
same-elem m n [] r = refl
same-elem m n (b ∷ bs) r = ap (λ (t : ℕ). bit_of (r % 2) b ⊕ t) (same-elem m n bs (r / 2))

module _ (m : ℕ) (irr : Irreducible m) (b t : List ℕ) (I : Images (symbols m) b t) where
  abbrev K : Ops
  K = symbols m

  abbrev F : IsField K
  F = symbols-field m irr

  entry_sym : (p : ℕ) → K.Sym (get_or t p 0)
  entry_sym p = All-at K.Sym t 0 I.elements F.sym_zero p

  -- ---- the images of an element

  module _ (h c : ℕ) (e : h + c ≡ length b) where
    -- The images of number j of the basis elements after the first h
    column-right : (j : ℕ) → j + 1 < length b → image_column h c t j ≡ map (image K b j) (drop h b)
    column-right j l =
        ext_get_or 0 (image_column h c t j) (map (image K b j) (drop h b)) (length_tab c _ ∙ sym (length-map (drop h b) _ ∙ rest))
        (λ i g. let n : i < c = omega (arith, length_tab c (λ i. get_or t (16 * (h + i) + j) 0)) in
        get_or_tab c (λ i. get_or t (16 * (h + i) + j) 0) i 0 n
        ∙ I.right (h + i) j (omega arith) l
        ∙ ap (image K b j) (sym (get_or-drop h b i 0))
        ∙ sym (get_or_map_in (image K b j) (drop h b) i 0 0 (omega (arith, rest))))
      where
        rest : length (drop h b) ≡ c
        rest = length-drop h b ∙ omega arith

    -- Entry j is the image of number j of element r of their span
    pub element_right : (r j : ℕ) → j + 1 < length b → j < 16 → get_or (element_images h c t r) j 0 ≡ image K b j (elem K (drop h b) r)
    unfolding element_images
    element_right r j l g =
        get_or_tab 16 (λ j. elem (symbols 0) (image_column h c t j) r) j 0 g
        ∙ same-elem 0 m (image_column h c t j) r
        ∙ ap (λ (x : List ℕ). elem K x r) (column-right j l)
        ∙ elem-image F b j (drop h b) r

  pub element_elements : (h c r : ℕ) → All K.Sym (element_images h c t r)
  unfolding element_images
  element_elements h c r =
      All-tab K.Sym 16 (λ j. elem (symbols 0) (image_column h c t j) r)
      (λ j l. subst K.Sym (same-elem m 0 (image_column h c t j) r) (elem_sym F (image_column h c t j) r (All-tab K.Sym c (λ i. get_or t (16 * (h + i) + j) 0) (λ i n. entry_sym (16 * (h + i) + j)))))

  -- ---- a space of dimension 7 or more

  module _ (k : ℕ) (s : 7 ≤ k) (top : k ≤ max_dim) (lb : length b ≡ k) where
    abbrev h : ℕ
    h = half k

    -- ---- a row
    module _ (r : ℕ) where
      abbrev rb : List ℕ
      rb = row_basis K k b r

      length_low : length (take (h + 2) b) ≡ h + 2
      length_low = length-take-le (h + 2) b (omega arith)

      pub length_rb : length rb ≡ h + 3
      length_rb = length-append (take (h + 2) b) (row_last K k b r ∷ []) ∙ omega (arith, length_low)

      pub entry-low : (i : ℕ) → i < h + 2 → get_or rb i 0 ≡ get_or b i 0
      entry-low i l = get_or-append (take (h + 2) b) (row_last K k b r ∷ []) 0 i (omega (arith, length_low)) ∙ get_or-take (h + 2) b i 0 l

      pub entry-last : get_or rb (h + 2) 0 ≡ row_last K k b r
      entry-last =
          ap (λ (i : ℕ). get_or rb i 0) {x = h + 2} {y = length (take (h + 2) b) + 0} (omega (arith, length_low))
          ∙ get_or-append-add (take (h + 2) b) (row_last K k b r ∷ []) 0 0

      pub image-same : (j x : ℕ) → j < h + 2 → image K b j x ≡ image K rb j x
      image-same j x l = sym (image_append K (take (h + 2) b) (row_last K k b r ∷ []) j x (omega (arith, length_low)) ∙ image_take K b (h + 2) j x l)

      -- the table of the space, at the basis elements that the row has too
      old : (i j : ℕ) → i < h + 3 → j < h + 2 → get_or t (16 * i + j) 0 ≡ image K b j (get_or b i 0)
      old i j l g = I.right i j (omega arith) (omega arith)

      abbrev new : ℕ → ℕ
      new p = pick (eqb (p / 16) (h + 2)) (get_or (element_images h (col_dim k) t r) (p % 16) 0) (get_or t p 0)

      by-entry : (i j : ℕ) → i < h + 3 → j < h + 2 → Dec (r < 4) → Dec (i < h + 2) → get_or (row_images k t r) (16 * i + j) 0 ≡ image K b j (get_or rb i 0)
      unfolding row_images
      by-entry i j l g (yes u) (yes v) =
          ap (λ (x : List ℕ). get_or x (16 * i + j) 0) (pick_true t (tab cells new) (lt-ltb r 4 u)) ∙ old i j l g ∙ ap (image K b j) (sym (entry-low i v))
      by-entry i j l g (yes u) (no v) =
          let last : i ≡ h + 2 = omega arith in
          ap (λ (x : List ℕ). get_or x (16 * i + j) 0) (pick_true t (tab cells new) (lt-ltb r 4 u)) ∙ old i j l g
          ∙ ap (image K b j) (ap (λ (i : ℕ). get_or b i 0) last ∙ sym (pick_true _ (β K k b r) (lt-ltb r 4 u)) ∙ sym entry-last ∙ ap (λ (i : ℕ). get_or rb i 0) (sym last))
      by-entry i j l g (no u) (yes v) =
          ap (λ (x : List ℕ). get_or x (16 * i + j) 0) (pick_false t (tab cells new) (le-ltb r 4 (omega arith))) ∙ get_or_tab cells new (16 * i + j) 0 (omega arith)
          ∙ pick_false _ _ (ne_eqb ((16 * i + j) / 16) (h + 2) (λ e. omega arith)) ∙ old i j l g ∙ ap (image K b j) (sym (entry-low i v))
      by-entry i j l g (no u) (no v) =
          let last : i ≡ h + 2 = omega arith in
          let place : (16 * i + j) % 16 ≡ j = omega arith in
          ap (λ (x : List ℕ). get_or x (16 * i + j) 0) (pick_false t (tab cells new) (le-ltb r 4 (omega arith))) ∙ get_or_tab cells new (16 * i + j) 0 (omega arith)
          ∙ pick_true _ _ (eq-eqb ((16 * i + j) / 16) (h + 2) (omega arith))
          ∙ ap (λ (p : ℕ). get_or (element_images h (col_dim k) t r) p 0) place
          ∙ element_right h (col_dim k) (omega arith) r j (omega arith) (omega arith)
          ∙ ap (image K b j) (sym (pick_false (get_or b (h + 2) 0) (β K k b r) (le-ltb r 4 (omega arith))) ∙ sym entry-last ∙ ap (λ (i : ℕ). get_or rb i 0) (sym last))

      length_row-images : Dec (r < 4) → length (row_images k t r) ≡ cells
      unfolding row_images
      length_row-images (yes u) = ap length (pick_true t (tab cells new) (lt-ltb r 4 u)) ∙ I.count
      length_row-images (no u) = ap length (pick_false t (tab cells new) (le-ltb r 4 (omega arith))) ∙ length_tab cells new

      new_sym : (p : ℕ) → Dec (p / 16 ≡ h + 2) → K.Sym (new p)
      new_sym p (yes e) = subst K.Sym (sym (pick_true _ _ (eq-eqb (p / 16) (h + 2) e))) (All-at K.Sym (element_images h (col_dim k) t r) 0 (element_elements h (col_dim k) r) F.sym_zero (p % 16))
      new_sym p (no e) = subst K.Sym (sym (pick_false _ _ (ne_eqb (p / 16) (h + 2) e))) (entry_sym p)

      row-elements : Dec (r < 4) → All K.Sym (row_images k t r)
      unfolding row_images
      row-elements (yes u) = subst (All K.Sym) (sym (pick_true t (tab cells new) (lt-ltb r 4 u))) I.elements
      row-elements (no u) = subst (All K.Sym) (sym (pick_false t (tab cells new) (le-ltb r 4 (omega arith)))) (All-tab K.Sym cells new (λ p l. new_sym p (ℕ_discrete (p / 16) (h + 2))))

      pub row-images : Images K rb (row_images k t r)
      row-images =
          record {
            count = length_row-images (dec_lt r 4);
            elements = row-elements (dec_lt r 4);
            right = λ i j l g. let f : j < h + 2 = omega (arith, length_rb) in
                by-entry i j (omega (arith, length_rb)) f (dec_lt r 4) (dec_lt i (h + 2)) ∙ image-same j (get_or rb i 0) f;
          }

    -- ---- a column
    pub column-images : Images K (col_basis K k b) (upper_images h t)
    column-images =
        record {
          count = length_upper_images h t;
          elements = upper_each K.Sym h t F.sym_zero I.elements;
          right = λ i j l g. let f : i < k - h = omega (arith, count) in
              let f' : j + 1 < k - h = omega (arith, count) in
              upper_image h t i j (omega arith) ∙ I.right (h + i) (h + j) (omega arith) (omega arith) ∙ image-table F b h j i (omega arith);
        }
      where
        count : length (col_basis K k b) ≡ k - h
        count = length_images F b h ∙ length-drop h b ∙ ap (λ (n : ℕ). n - h) lb

-- The table of each line
pub line_images_lem : (m : ℕ) → Irreducible m → (k : ℕ) → 7 ≤ k → k ≤ max_dim → (t : List ℕ) (l : Line) (b : List ℕ)
    → Basis (symbols m) k b → Images (symbols m) b t → Images (symbols m) (line_basis (symbols m) k b l) (line_images k t l)
line_images_lem m irr k s top t (Row r) b B I = row-images m irr b t I k s top B.count r
line_images_lem m irr k s top t (Column a) b B I = column-images m irr b t I k s top B.count

pub line_table : (k : ℕ) → 7 ≤ k → k ≤ max_dim → (t : List ℕ) (l : Line) {r : List ℕ} → r ≡ line_images k t l → LineTable k t l r
line_table k s top t l e =
    record { entries = e; right = λ m irr b B I. subst (Images (symbols m) (line_basis (symbols m) k b l)) (sym e) (line_images_lem m irr k s top t l b B I) }
