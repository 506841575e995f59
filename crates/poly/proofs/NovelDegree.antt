-- The least degree by the coefficients over the basis of Lin, Chung and Han: its polynomial of number i has degree i, so the number of the highest coefficient that is not 0 is the degree. Assumes nothing.
use Rattle.std.specs.Prelude.{◌≡◌, refl, ◌≢◌, List, [], ◌∷◌, ℕ, zero, suc, ◌+◌, ◌-◌, ◌^◌, ◌≤◌, ◌<◌, length, get_or, take, drop}
use Rattle.std.proofs.Common.{sym, ap, ◌∙◌, subst, arith, length-take, length-drop, pow_pos, get_or-take, get_or-drop, length-take-le}
use Rattle.std.proofs.Math.Nat.{pow-succ'}
use Rattle.std.proofs.Math.Decide.{dec_lt}
use Rattle.lists.specs.All.{All, All-take, All-drop}
use Rattle.lists.specs.Tables.{tab_ext, tab_of}
use Rattle.field.specs.Laws.{Ops, IsField, ring, 0_⊕, ⊗_0, ⊗-zero}
use Rattle.poly.specs.Poly.{eval, add_p, scale_p, mul_p}
use Rattle.poly.proofs.Poly.{add_p_sym}
use Rattle.poly.specs.Coefficients.{coeff, Low, low_length, low-le}
use Rattle.poly.proofs.Coefficients.{low-add_p, low-scale_p, coeff_sym, coeff-add_p, coeff-scale_p, coeff-mul_p, mul_p-zeros}
use Rattle.poly.specs.Span.{elem, vanish}
use Rattle.poly.proofs.Span.{vanish_sym, elem_sym}
use Rattle.poly.specs.Novel.{step, eval_x}
use Rattle.poly.proofs.Novel.{step_sym, W-next}
use Rattle.poly.proofs.Transform.{length_inverse}
use Rattle.poly.specs.Values.{table, images_of}
use Rattle.poly.proofs.Values.{inverse-at, coeffs_sym}
use Rattle.poly.specs.Degree.{vanish_p, image_p, monomials, length_monomials}
use Rattle.poly.proofs.Degree.{vanish_p_sym, image_p_sym, monomials_sym, eval-monomials}
use Rattle.poly.specs.Codeword.{Basis, word_of, Codeword}
use Rattle.poly.specs.LeastDegree.{LeastDegree, Degree}
use Rattle.poly.proofs.LeastDegree.{least_of_degree, zero_codeword}
use Rattle.poly.specs.NovelDegree.{novel_coeffs}

-- the same coefficients, the same degree
degree-same : {p q : List ℕ} {g : ℕ} → ((i : ℕ) → coeff p i ≡ coeff q i) → Degree p g → Degree q g
degree-same e d = record { top = λ z. d.top (e _ ∙ z); low = λ i l. sym (e i) ∙ d.low i l }

-- ---- the two parts of a list

low_take : (n m : ℕ) (d : List ℕ) → Low n d → Low n (take m d)
low_take n m d l i h = by (dec_lt i m)
  where
    by : Dec (i < m) → coeff (take m d) i ≡ 0
    by (yes t) = get_or-take m d i 0 t ∙ l i h
    by (no t) = low_length (take m d) i (omega (arith, length-take m d)) i (omega arith)

low_drop : (n m : ℕ) (d : List ℕ) → Low n d → Low (n - m) (drop m d)
low_drop n m d l i h = get_or-drop m d i 0 ∙ l (m + i) (omega arith)

degree_take : (m : ℕ) (d : List ℕ) (g : ℕ) → g < m → Degree d g → Degree (take m d) g
degree_take m d g h D = record { top = λ z. D.top (sym (get_or-take m d g 0 h) ∙ z); low = low_take (suc g) m d D.low }

degree_drop : (m : ℕ) (d : List ℕ) (g : ℕ) → m ≤ g → Degree d g → Degree (drop m d) (g - m)
degree_drop m d g h D =
    record {
      top = λ z. D.top (ap (coeff d) {x = g} {y = m + (g - m)} (omega arith) ∙ sym (get_or-drop m d (g - m) 0) ∙ z);
      low = λ i l. get_or-drop m d i 0 ∙ D.low (m + i) (omega arith);
    }

module _ {K : Ops} (F : IsField K) where
  infixl 60 ◌⊕◌
  infixl 70 ◌⊗◌
  open K use {◌⊕◌, ◌⊗◌, inv, Sym}

  -- ---- sums, multiples and products

  -- a sum whose second polynomial has the larger degree
  degree-add_p : (p q : List ℕ) (g : ℕ) → Low g p → Degree q g → Degree (add_p K p q) g
  degree-add_p p q g l d =
      record {
        top = λ z. d.top (sym (coeff-add_p F p q g ∙ ap (λ (t : ℕ). t ⊕ coeff q g) (l g (omega arith)) ∙ 0_⊕ F (coeff q g)) ∙ z);
        low = low-add_p F (suc g) p q (low-le g (suc g) p l (omega arith)) d.low;
      }

  -- and one whose first has
  degree-add_p-first : (p q : List ℕ) (g : ℕ) → Degree p g → Low g q → Degree (add_p K p q) g
  degree-add_p-first p q g d l =
      degree-same (λ i. coeff-add_p F q p i ∙ F.sum_comm (coeff q i) (coeff p i) ∙ sym (coeff-add_p F p q i)) (degree-add_p q p g l d)

  degree-scale_p : (a : ℕ) (p : List ℕ) (g : ℕ) → Sym a → a ≢ 0 → All Sym p → Degree p g → Degree (scale_p K a p) g
  degree-scale_p a p g sa n sp d =
      record {
        top = λ z. d.top (⊗-zero F a (coeff p g) sa (coeff_sym F p g sp) n (sym (coeff-scale_p F a p g) ∙ z));
        low = low-scale_p F (suc g) a p d.low;
      }

  last-term : (c y u : ℕ) → u ≡ 0 → c ⊗ y ⊕ u ≡ c ⊗ y
  last-term c y u e = simp (e, ring, F)

  first-term : (c y u : ℕ) → y ≡ 0 → c ⊗ y ⊕ u ≡ u
  first-term c y u e = simp (e, ring, F)

  shift_low : (n : ℕ) (p : List ℕ) → Low n p → Low (suc n) (0 ∷ p)
  shift_low n p l zero h = refl
  shift_low n p l (suc i) h = l i (omega arith)

  -- the degrees of a product's factors add up
  degree-mul_p : (p q : List ℕ) (a b n : ℕ) → All Sym p → All Sym q → Degree p a → Degree q b → n ≡ a + b → Degree (mul_p K p q) n
  degree-mul_p [] q a b n sp sq d e h = absurd (d.top refl)
  degree-mul_p (c ∷ p) q zero b n sp sq d e h =
      subst (Degree (mul_p K (c ∷ p) q)) {x = b} {y = n} (omega arith)
      (record {
        top = λ z. e.top (⊗-zero F c (coeff q b) sp.0 (coeff_sym F q b sq) d.top (sym (at b) ∙ z));
        low = λ i l. at i ∙ ap (λ (t : ℕ). c ⊗ t) (e.low i l) ∙ ⊗_0 F c;
      })
    where
      rest : (i : ℕ) → coeff (0 ∷ mul_p K p q) i ≡ 0
      rest zero = refl
      rest (suc i) = mul_p-zeros F p q (λ j l. d.low (suc j) (omega arith)) i (omega arith)

      at : (i : ℕ) → coeff (mul_p K (c ∷ p) q) i ≡ c ⊗ coeff q i
      at i = coeff-mul_p F c p q i ∙ last-term c (coeff q i) _ (rest i)
  degree-mul_p (c ∷ p) q (suc a) b n sp sq d e h =
      let ih : Degree (mul_p K p q) (a + b) = degree-mul_p p q a b (a + b) sp.1 sq (record { top = d.top; low = λ i l. d.low (suc i) (omega arith) }) e refl in
      let at : (i : ℕ) → suc b ≤ i → coeff (mul_p K (c ∷ p) q) i ≡ coeff (0 ∷ mul_p K p q) i = λ i l. coeff-mul_p F c p q i ∙ first-term c (coeff q i) _ (e.low i l) in
      subst (Degree (mul_p K (c ∷ p) q)) {x = suc (a + b)} {y = n} (omega arith)
      (record {
        top = λ z. ih.top (sym (at (suc (a + b)) (omega arith)) ∙ z);
        low = λ i l. at i (omega arith) ∙ shift_low (suc (a + b)) (mul_p K p q) ih.low i l;
      })

  mul_p-zeros-right : (p q : List ℕ) → Low 0 q → Low 0 (mul_p K p q)
  mul_p-zeros-right [] q z i l = refl
  mul_p-zeros-right (c ∷ p) q z zero l = coeff-mul_p F c p q 0 ∙ first-term c (coeff q 0) 0 (z 0 l)
  mul_p-zeros-right (c ∷ p) q z (suc i) l = coeff-mul_p F c p q (suc i) ∙ first-term c (coeff q (suc i)) _ (z (suc i) (omega arith)) ∙ mul_p-zeros-right p q z i (omega arith)

  -- ---- subspace polynomials

  degree-vanish_p : (bs : List ℕ) → All Sym bs → Degree (vanish_p K bs) (2 ^ length bs)
  degree-vanish_p [] s = record { top = λ z. omega arith; low = low_length (0 ∷ 1 ∷ []) 2 (omega arith) }
  degree-vanish_p (b ∷ bs) s =
      let ih : Degree (vanish_p K bs) (2 ^ length bs) = degree-vanish_p bs s.1 in
      let sv : All Sym (vanish_p K bs) = vanish_p_sym F bs s.1 in
      let c : ℕ = vanish K bs b in
      degree-mul_p (vanish_p K bs) (add_p K (vanish_p K bs) (c ∷ [])) (2 ^ length bs) (2 ^ length bs) (2 ^ suc (length bs)) sv (add_p_sym F (vanish_p K bs) (c ∷ []) sv (vanish_sym F bs b s.1 s.0, tt)) ih
      (degree-add_p-first (vanish_p K bs) (c ∷ []) (2 ^ length bs) ih (low_length (c ∷ []) (2 ^ length bs) (omega (arith, pow_pos (length bs))))) (omega (arith, pow-succ' 2 (length bs)))

  inv_nonzero : (x : ℕ) → Sym x → x ≢ 0 → inv x ≢ 0
  inv_nonzero x sx n z = let o : ◌≡◌ {A = ℕ} 1 0 = sym (F.prod_inv x sx n) ∙ ap (λ (t : ℕ). x ⊗ t) z ∙ ⊗_0 F x in omega arith

  module _ (bs : List ℕ) (sb : All Sym bs) (nz : (j : ℕ) → j < length bs → step K bs j ≢ 0) where
    degree-image_p : (j : ℕ) → j < length bs → Degree (image_p K bs j) (2 ^ j)
    degree-image_p j h =
        degree-scale_p (inv (step K bs j)) (vanish_p K (take j bs)) (2 ^ j) (F.sym_inv (step_sym F bs sb j)) (inv_nonzero (step K bs j) (step_sym F bs sb j) (nz j h))
        (vanish_p_sym F (take j bs) (All-take Sym j bs sb))
        (subst (λ (n : ℕ). Degree (vanish_p K (take j bs)) (2 ^ n)) (length-take-le j bs (omega arith)) (degree-vanish_p (take j bs) (All-take Sym j bs sb)))

    -- ---- from the one basis to the other

    zero-monomials : (j : ℕ) (d : List ℕ) → Low 0 d → Low 0 (monomials K bs j d)
    zero-monomials zero d l zero h = l 0 h
    zero-monomials zero d l (suc i) h = refl
    zero-monomials (suc j) d l i h =
        low-add_p F 0 (monomials K bs j (take (2 ^ j) d)) (mul_p K (image_p K bs j) (monomials K bs j (drop (2 ^ j) d)))
        (zero-monomials j (take (2 ^ j) d) (low_take 0 (2 ^ j) d l))
        (mul_p-zeros-right (image_p K bs j) (monomials K bs j (drop (2 ^ j) d)) (zero-monomials j (drop (2 ^ j) d) (λ o t. low_drop 0 (2 ^ j) d l o (omega arith)))) i h

    one-coefficient : (d : List ℕ) → length d ≡ 1 → (i : ℕ) → coeff d i ≡ coeff (get_or d 0 0 ∷ []) i
    one-coefficient [] e i = absurd (omega arith)
    one-coefficient (c ∷ []) e i = refl
    one-coefficient (c ∷ x ∷ d) e i = absurd (omega arith)

    -- the degree is the number of the highest coefficient over either
    degree-monomials : (j : ℕ) (d : List ℕ) (g : ℕ) → j ≤ length bs → length d ≡ 2 ^ j → All Sym d → Degree d g → Degree (monomials K bs j d) g
    degree-monomials zero d g hj l s D = degree-same (one-coefficient d l) D
    degree-monomials (suc j) d g hj l s D =
        by (degree-monomials j (take (2 ^ j) d) g (omega arith) (omega (arith, length-take (2 ^ j) d, pow-succ' 2 j)) (All-take Sym (2 ^ j) d s))
        (degree-monomials j (drop (2 ^ j) d) (g - 2 ^ j) (omega arith) (omega (arith, length-drop (2 ^ j) d, pow-succ' 2 j)) (All-drop Sym (2 ^ j) d s)) (dec_lt g (2 ^ j))
      where
        lower : List ℕ
        lower = monomials K bs j (take (2 ^ j) d)

        upper : List ℕ
        upper = monomials K bs j (drop (2 ^ j) d)

        by : (Degree (take (2 ^ j) d) g → Degree lower g) → (Degree (drop (2 ^ j) d) (g - 2 ^ j) → Degree upper (g - 2 ^ j)) → Dec (g < 2 ^ j)
            → Degree (add_p K lower (mul_p K (image_p K bs j) upper)) g
        by f h (yes t) =
            degree-add_p-first lower (mul_p K (image_p K bs j) upper) g (f (degree_take (2 ^ j) d g t D))
            (λ i r. mul_p-zeros-right (image_p K bs j) upper (zero-monomials j (drop (2 ^ j) d) (λ o u. low_drop (suc g) (2 ^ j) d D.low o (omega arith))) i (omega arith))
        by f h (no t) =
            degree-add_p lower (mul_p K (image_p K bs j) upper) g (low_length lower g (omega (arith, length_monomials K bs j (take (2 ^ j) d) (omega arith))))
            (degree-mul_p (image_p K bs j) upper (2 ^ j) (g - 2 ^ j) g (image_p_sym F bs sb j) (monomials_sym F bs sb j (drop (2 ^ j) d) (All-drop Sym (2 ^ j) d s)) (degree-image_p j (omega arith))
            (h (degree_drop (2 ^ j) d g (omega arith) D)) (omega arith))

  -- ---- what the code finds

  module _ (m : ℕ) (b : List ℕ) (B : Basis K m b) (v : List ℕ) (lv : length v ≡ 2 ^ m) (sv : All Sym v) where
    fits : m ≤ length b
    fits = omega (arith, B.count)

    steps : (j : ℕ) → j < length b → step K b j ≢ 0
    steps = W-next F b B.elements B.independent

    novel_sym : All Sym (novel_coeffs F m b B v lv sv)
    novel_sym = coeffs_sym F b B.elements steps (table K b) m fits (λ i j hi hj. refl) (images_of K b 0) 0 (λ j h. refl) F.sym_zero v sv

    abbrev powers : List ℕ
    powers = monomials K b m (novel_coeffs F m b B v lv sv)

    powers-word : v ≡ word_of K m b powers
    powers-word =
        tab_of (2 ^ m) v 0 lv
        ∙ tab_ext (2 ^ m) (λ i. get_or v i 0) (λ i. eval K powers (elem K b i))
        (λ i h.
        sym (inverse-at F b B.elements steps (table K b) m fits (λ i j hi hj. refl) (images_of K b 0) 0 (λ j h. refl) F.sym_zero v lv sv i h)
        ∙ ap (eval_x K b m (novel_coeffs F m b B v lv sv)) (0_⊕ F (elem K b i)) ∙ sym (eval-monomials F b m (novel_coeffs F m b B v lv sv) (elem K b i) (elem_sym F b i B.elements)))

    -- g is the number of the highest coefficient that is not 0, or all are 0. On a word that is no codeword g is the least degree.
    pub novel_degree : (g : ℕ) → Low (suc g) (novel_coeffs F m b B v lv sv) → (coeff (novel_coeffs F m b B v lv sv) g ≡ 0 → Low 0 (novel_coeffs F m b B v lv sv)) → (Codeword K m b v → ⊥) → LeastDegree K (word_of K m b) v g
    novel_degree g l z n =
        least_of_degree F m b B v powers (length_monomials K b m (novel_coeffs F m b B v lv sv) fits) (monomials_sym F b B.elements m (novel_coeffs F m b B v lv sv) novel_sym) powers-word g
        (degree-monomials b B.elements steps m (novel_coeffs F m b B v lv sv) g fits (length_inverse K (table K b) m (images_of K b 0) v lv) novel_sym
        (record { top = λ e. n (zero_codeword F m b B v powers powers-word (zero-monomials b B.elements steps m (novel_coeffs F m b B v lv sv) (z e))); low = l }))
