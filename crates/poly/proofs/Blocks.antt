-- The codeword test: a word is a codeword exactly when its eight blocks, each on its coset, have the same coefficients.
use Rattle.std.specs.Prelude.{◌≡◌, refl, ◌≢◌, ◌↔◌, List, ℕ, ◌+◌, ◌*◌, ◌^◌, ◌-◌, ◌≤◌, ◌<◌, length, take, drop}
use Rattle.std.proofs.Common.{sym, ap, ap₂, ◌∙◌, mul_comm, arith, take-append-drop, length-take-le}
use Rattle.std.proofs.Math.Path.{subst⁻¹}
use Rattle.lists.specs.All.{All, All-take, All-drop}
use Rattle.lists.specs.Tables.{tab, flat, part, part-fits, part-tab, part_ext, part-flat, length_part, length_flat, length_tab, tab_ext}
use Rattle.field.specs.Laws.{Ops, IsField}
use Rattle.poly.specs.Poly.{eval}
use Rattle.poly.specs.Span.{elem}
use Rattle.poly.proofs.Span.{elem_append, elem_sym}
use Rattle.poly.specs.Novel.{step, eval_x}
use Rattle.poly.proofs.Novel.{W-next, elem-low}
use Rattle.poly.specs.Transform.{transform, inverse}
use Rattle.poly.proofs.Transform.{length_transform, length_inverse, transform-inverse}
use Rattle.poly.specs.Values.{table, images_of}
use Rattle.poly.proofs.Values.{transform-values, inverse-values, coeffs_sym}
use Rattle.poly.specs.Degree.{monomials, length_monomials, Novel}
use Rattle.poly.proofs.Degree.{monomials_sym, eval-monomials, to_novel}
use Rattle.poly.specs.Codeword.{Basis, word_of, Codeword}
use Rattle.poly.specs.Blocks.{eighths, block_shift, block_coeffs, block_values}

module _ {K : Ops} (F : IsField K) (k : ℕ) (hk : 3 ≤ k) (b : List ℕ) (B : Basis K k b) where
  infixl 60 ◌⊕◌
  open K use {◌⊕◌, Sym}

  -- The size of a block
  abbrev size : ℕ
  size = 2 ^ (k - 3)

  fits : k - 3 ≤ length b
  fits = omega (arith, B.count)

  nz : (j : ℕ) → j < length b → step K b j ≢ 0
  nz = W-next F b B.elements B.independent

  shift_sym : (r : ℕ) → Sym (block_shift K k b r)
  shift_sym r = elem_sym F (drop (k - 3) b) r (All-drop Sym (k - 3) b B.elements)

  -- Element i of block r
  pub block_point : (r i : ℕ) → i < size → elem K b (r * size + i) ≡ block_shift K k b r ⊕ elem K b i
  block_point r i h =
      let n : length (take (k - 3) b) ≡ k - 3 = length-take-le (k - 3) b fits in
      ap₂ (elem K) (sym (take-append-drop (k - 3) b)) (ap (λ (t : ℕ). t + i) (mul_comm r size ∙ ap (λ (t : ℕ). 2 ^ t * r) (sym n)) ∙ omega arith)
      ∙ elem_append F (take (k - 3) b) (drop (k - 3) b) i r (subst⁻¹ (λ (t : ℕ). i < 2 ^ t) n h)
      ∙ ap (λ (t : ℕ). t ⊕ block_shift K k b r) (sym (elem-low F b (k - 3) i h))
      ∙ F.sum_comm (elem K b i) (block_shift K k b r)

  -- A block of the word of p
  block_of_word : (p : List ℕ) (r : ℕ) → r < 8 → part size r (word_of K k b p) ≡ tab size (λ i. eval K p (block_shift K k b r ⊕ elem K b i))
  block_of_word p r h =
      ap (λ (n : ℕ). part size r (tab n (λ i. eval K p (elem K b i)))) (eighths k hk)
      ∙ part-tab 8 size r (λ i. eval K p (elem K b i)) h
      ∙ tab_ext size (λ i. eval K p (elem K b (r * size + i))) (λ i. eval K p (block_shift K k b r ⊕ elem K b i)) (λ i l. ap (eval K p) (block_point r i l))

  -- The blocks of the word of p have the coefficients of p
  coeffs_of_word : (p : List ℕ) (n : Novel F b B.elements B.independent (k - 3) p) (r : ℕ) → r < 8 → block_coeffs K k b (word_of K k b p) r ≡ n.coeffs
  coeffs_of_word p n r h =
      ap (inverse K (table K b) (k - 3) (images_of K b (block_shift K k b r)))
      (block_of_word p r h
      ∙ tab_ext size (λ i. eval K p (block_shift K k b r ⊕ elem K b i)) (λ i. eval_x K b (k - 3) n.coeffs (block_shift K k b r ⊕ elem K b i))
      (λ i l. sym (n.values (block_shift K k b r ⊕ elem K b i) (F.sym_sum (shift_sym r) (elem_sym F b i B.elements)))))
      ∙ inverse-values F b B.elements nz (table K b) (k - 3) fits (λ i j hi hj. refl) (images_of K b (block_shift K k b r)) (block_shift K k b r) (λ j h. refl) (shift_sym r)
      n.coeffs n.count n.elements

  novel_of : (p : List ℕ) → length p ≡ size → All Sym p → Novel F b B.elements B.independent (k - 3) p
  novel_of p e s = to_novel F b B.elements B.independent (k - 3) fits p e s

  -- The eight blocks with the coefficients d, one after the other, are the word of its polynomial
  pub word_of_blocks : (d : List ℕ) → length d ≡ size → All Sym d → flat 8 (block_values K k b d) ≡ word_of K k b (monomials K b (k - 3) d)
  word_of_blocks d e sd =
      part_ext 8 size (flat 8 (block_values K k b d)) (word_of K k b p) (length_flat 8 size (block_values K k b d) long) (length_tab (2 ^ k) (λ i. eval K p (elem K b i)) ∙ (eighths k hk))
      (λ r h. part-flat 8 size (block_values K k b d) r long h
      ∙ transform-values F b B.elements nz (table K b) (k - 3) fits (λ i j hi hj. refl) (images_of K b (block_shift K k b r)) (block_shift K k b r) (λ j h. refl) (shift_sym r) d e sd
      ∙ tab_ext size (λ i. eval_x K b (k - 3) d (block_shift K k b r ⊕ elem K b i)) (λ i. eval K p (block_shift K k b r ⊕ elem K b i))
      (λ i l. sym (eval-monomials F b (k - 3) d (block_shift K k b r ⊕ elem K b i) (F.sym_sum (shift_sym r) (elem_sym F b i B.elements))))
      ∙ sym (block_of_word p r h))
    where
      p : List ℕ
      p = monomials K b (k - 3) d

      long : (r : ℕ) → r < 8 → length (block_values K k b d r) ≡ size
      long r h = length_transform K (table K b) (k - 3) (images_of K b (block_shift K k b r)) d e

  module _ (w : List ℕ) (lw : length w ≡ 2 ^ k) (sw : All Sym w) where
    long-block : (r : ℕ) → r < 8 → length (part size r w) ≡ size
    long-block r h = length_part size r w (omega (arith, part-fits {i = r} {n = 8} size h, (eighths k hk)))

    length_block_coeffs : (r : ℕ) → r < 8 → length (block_coeffs K k b w r) ≡ size
    length_block_coeffs r h = length_inverse K (table K b) (k - 3) (images_of K b (block_shift K k b r)) (part size r w) (long-block r h)

    pub block_coeffs_sym : (r : ℕ) → All Sym (block_coeffs K k b w r)
    block_coeffs_sym r =
        coeffs_sym F b B.elements nz (table K b) (k - 3) fits (λ i j hi hj. refl) (images_of K b (block_shift K k b r)) (block_shift K k b r) (λ j h. refl) (shift_sym r)
        (part size r w) (All-take Sym size (drop (r * size) w) (All-drop Sym (r * size) w sw))

    -- The word whose blocks all have the coefficients of block 0
    same_blocks : ((r : ℕ) → r < 8 → block_coeffs K k b w r ≡ block_coeffs K k b w 0) → w ≡ flat 8 (block_values K k b (block_coeffs K k b w 0))
    same_blocks e =
        part_ext 8 size w (flat 8 (block_values K k b d)) (lw ∙ (eighths k hk)) (length_flat 8 size (block_values K k b d) long)
        (λ r h. sym (transform-inverse F (table K b) (k - 3) (images_of K b (block_shift K k b r)) (part size r w) (long-block r h))
        ∙ ap (transform K (table K b) (k - 3) (images_of K b (block_shift K k b r))) (e r h)
        ∙ sym (part-flat 8 size (block_values K k b d) r long h))
      where
        d : List ℕ
        d = block_coeffs K k b w 0

        long : (r : ℕ) → r < 8 → length (block_values K k b d r) ≡ size
        long r h = length_transform K (table K b) (k - 3) (images_of K b (block_shift K k b r)) d (length_block_coeffs 0 (omega arith))

    -- The test
    pub codeword_blocks : Codeword K k b w ↔ ((r : ℕ) → r < 8 → block_coeffs K k b w r ≡ block_coeffs K k b w 0)
    codeword_blocks = (forth, back)
      where
        forth : Codeword K k b w → (r : ℕ) → r < 8 → block_coeffs K k b w r ≡ block_coeffs K k b w 0
        forth (p, lp, sp, e) r h =
            let n : Novel F b B.elements B.independent (k - 3) p = novel_of p lp sp in
            ap (λ (l : List ℕ). block_coeffs K k b l r) e ∙ coeffs_of_word p n r h ∙ sym (coeffs_of_word p n 0 (omega arith)) ∙ ap (λ (l : List ℕ). block_coeffs K k b l 0) (sym e)

        back : ((r : ℕ) → r < 8 → block_coeffs K k b w r ≡ block_coeffs K k b w 0) → Codeword K k b w
        back e =
            let d : List ℕ = block_coeffs K k b w 0 in
            let ld : length d ≡ size = length_block_coeffs 0 (omega arith) in (
              monomials K b (k - 3) d,
              length_monomials K b (k - 3) d fits,
              monomials_sym F b B.elements (k - 3) d (block_coeffs_sym 0),
              same_blocks e ∙ word_of_blocks d ld (block_coeffs_sym 0),
            )

    -- The polynomial of a codeword, from the coefficients of block 0
    module _ (p : List ℕ) (lp : length p ≡ size) (sp : All Sym p) (e : w ≡ word_of K k b p) where
      same_coeffs : block_coeffs K k b w 0 ≡ (novel_of p lp sp).coeffs
      same_coeffs = ap (λ (l : List ℕ). block_coeffs K k b l 0) e ∙ coeffs_of_word p (novel_of p lp sp) 0 (omega arith)

      pub codeword_values : (x : ℕ) → Sym x → eval_x K b (k - 3) (block_coeffs K k b w 0) x ≡ eval K p x
      codeword_values x s = ap (λ (d : List ℕ). eval_x K b (k - 3) d x) same_coeffs ∙ (novel_of p lp sp).values x s
