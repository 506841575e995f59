-- The spaces of the rows and of the columns: they have bases, and their elements lie where the layout needs them.
use Rattle.std.specs.Prelude.{◌≡◌, refl, ◌≢◌, List, [], ◌∷◌, ◌++◌, ℕ, zero, suc, ◌+◌, ◌*◌, ◌^◌, ◌-◌, ◌/◌, ◌%◌, ◌≤◌, ◌<◌, length, get_or, take, drop}
use Rattle.std.proofs.Common.{sym, ap, ap₂, ◌∙◌, subst, mod-lt, div-add-mod', div-lt_iff_lt-mul, zero-mul, suc-mul, mul-le-mul_right, arith, lt-ltb, le-ltb, length-append, length-drop, take-append-drop, length-take-le, drop-cons, pow-add, pow_pos, pow_mono}
use Rattle.std.proofs.Math.Decide.{dec_lt}
use Rattle.std.proofs.lemmas.List.{length-map}
use Rattle.std.proofs.Math.Pow.{pow-lt}
use Rattle.lists.specs.All.{All-take, All-drop, All-append, All-map}
use Rattle.lists.specs.Pick.{pick_true, pick_false}
use Rattle.field.specs.Laws.{Ops, IsField, 0_⊕, ⊕_0, ⊕-zero}
use Rattle.poly.specs.Span.{elem, Independent}
use Rattle.poly.proofs.Span.{elem_sym, elem-zero, elem_append, vanish_sym, vanish_coset, elem-vanish, vanish_independent}
use Rattle.poly.specs.Codeword.{Basis}
use Rattle.poly.proofs.Codeword.{basis_distinct}
use Rattle.proximity.specs.Dim.{half, row_dim, col_dim}
use Rattle.proximity.specs.Spaces.{q, β, row_last, row_basis, col_basis}
use Rattle.proximity.specs.Proof.{slot, height_of}

pub pow_four : (h : ℕ) → 2 ^ (h + 2) ≡ 4 * 2 ^ h
pow_four h = omega (arith, pow-add 2 h 2)

pub pow_eight : (h : ℕ) → 2 ^ (h + 3) ≡ 8 * 2 ^ h
pow_eight h = omega (arith, pow-add 2 h 3)

-- The word's positions by row
pub pow_rows : (k : ℕ) → 2 ^ k ≡ 2 ^ col_dim k * 2 ^ half k
pow_rows k = ap (λ (t : ℕ). 2 ^ t) {x = k} {y = col_dim k + half k} (omega arith) ∙ pow-add 2 (col_dim k) (half k)

-- Position j of block r lies below n blocks
pub block-lt : {r j n m : ℕ} → r < n → j < m → r * m + j < n * m
block-lt {r} {j} {n} {m} hr hj = omega (arith, mul-le-mul_right m hr, suc-mul r m)

module _ {K : Ops} (F : IsField K) where
  infixl 60 ◌⊕◌
  infixl 70 ◌⊗◌
  open K use {◌⊕◌, ◌⊗◌, Sym}

  elem_at : (bs cs : List ℕ) (n r s : ℕ) → length bs ≡ n → r < 2 ^ n → elem K (bs ++ cs) (s * 2 ^ n + r) ≡ elem K bs r ⊕ elem K cs s
  elem_at bs cs n r s e =
      subst (λ (n : ℕ). r < 2 ^ n → elem K (bs ++ cs) (s * 2 ^ n + r) ≡ elem K bs r ⊕ elem K cs s) e
      (λ h. ap (elem K (bs ++ cs)) (omega arith) ∙ elem_append F bs cs r s h)

  -- The elements of a space by two parts of its basis
  pub elem-split : (n : ℕ) (b : List ℕ) (r s : ℕ) → n ≤ length b → r < 2 ^ n → elem K b (s * 2 ^ n + r) ≡ elem K (take n b) r ⊕ elem K (drop n b) s
  elem-split n b r s g h =
      ap (λ (t : List ℕ). elem K t (s * 2 ^ n + r)) (sym (take-append-drop n b)) ∙ elem_at (take n b) (drop n b) n r s (length-take-le n b g) h

  pub elem_take : (n : ℕ) (b : List ℕ) (i : ℕ) → n ≤ length b → i < 2 ^ n → elem K (take n b) i ≡ elem K b i
  elem_take n b i g h =
      sym (ap (elem K b) {x = i} {y = 0 * 2 ^ n + i} (omega (arith, zero-mul (2 ^ n))) ∙ elem-split n b i 0 g h ∙ ap (λ (t : ℕ). elem K (take n b) i ⊕ t) (elem-zero F (drop n b)) ∙ ⊕_0 F (elem K (take n b) i))

  -- The rest of the basis spans the elements whose number is a multiple
  pub elem_drop : (n : ℕ) (b : List ℕ) (s : ℕ) → n ≤ length b → elem K (drop n b) s ≡ elem K b (s * 2 ^ n)
  elem_drop n b s g =
      sym (ap (elem K b) {x = s * 2 ^ n} {y = s * 2 ^ n + 0} (omega arith) ∙ elem-split n b 0 s g (pow_pos n) ∙ ap (λ (t : ℕ). t ⊕ elem K (drop n b) s) (elem-zero F (take n b)) ∙ 0_⊕ F (elem K (drop n b) s))

  elem-first : (x : ℕ) (b : List ℕ) → elem K (x ∷ b) 1 ≡ x
  elem-first x b = ap (λ (t : ℕ). x ⊕ t) (elem-zero F b) ∙ ⊕_0 F x

  -- Basis element n is element 2^n
  pub elem_unit : (n : ℕ) (b : List ℕ) → n < length b → get_or b n 0 ≡ elem K b (2 ^ n)
  elem_unit n b h =
      sym (elem-first (get_or b n 0) (drop (suc n) b)) ∙ ap (λ (t : List ℕ). elem K t 1) (sym (drop-cons b n 0 h))
      ∙ elem_drop n b 1 (omega arith) ∙ ap (elem K b) {x = 1 * 2 ^ n} {y = 2 ^ n} (omega arith)

  pub independent_take : (n : ℕ) (b : List ℕ) → n ≤ length b → Independent K b → Independent K (take n b)
  independent_take n b g ind i h e =
      let h' : i < 2 ^ n = subst (λ (t : ℕ). i < 2 ^ t) (length-take-le n b g) h in
      ind i (omega (arith, pow_mono g)) (sym (elem_take n b i g h') ∙ e)

  snoc_step : (bs : List ℕ) (x : ℕ) → Independent K bs → ((i : ℕ) → i < 2 ^ length bs → elem K bs i ≢ x)
      → (r s : ℕ) → r < 2 ^ length bs → s < 2 → elem K (bs ++ (x ∷ [])) (s * 2 ^ length bs + r) ≡ 0 → s * 2 ^ length bs + r ≡ 0
  snoc_step bs x ind out r zero hr hs e =
      let z : r ≡ 0 = ind r hr (sym (elem_at bs (x ∷ []) (length bs) r 0 refl hr ∙ ap (λ (t : ℕ). elem K bs r ⊕ t) (elem-zero F (x ∷ [])) ∙ ⊕_0 F (elem K bs r)) ∙ e) in
      omega (arith, zero-mul (2 ^ length bs))
  snoc_step bs x ind out r (suc zero) hr hs e =
      absurd (out r hr (⊕-zero F (elem K bs r) x (sym (elem_at bs (x ∷ []) (length bs) r 1 refl hr ∙ ap (λ (t : ℕ). elem K bs r ⊕ t) (elem-first x [])) ∙ e)))
  snoc_step bs x ind out r (suc (suc s)) hr hs e = absurd (omega arith)

  -- One more basis element, outside the span
  pub independent_snoc : (bs : List ℕ) (x : ℕ) → Independent K bs → ((i : ℕ) → i < 2 ^ length bs → elem K bs i ≢ x) → Independent K (bs ++ (x ∷ []))
  independent_snoc bs x ind out i h e =
      let p : 0 < 2 ^ length bs = pow_pos (length bs) in
      let d : i / 2 ^ length bs * 2 ^ length bs + i % 2 ^ length bs ≡ i = div-add-mod' i (2 ^ length bs) in
      let l : i < 2 * 2 ^ length bs = omega (arith, subst (λ (t : ℕ). i < 2 ^ t) (length-append bs (x ∷ [])) h, pow-add 2 (length bs) 1) in
      sym d ∙ snoc_step bs x ind out (i % 2 ^ length bs) (i / 2 ^ length bs) (mod-lt i p) ((div-lt_iff_lt-mul p).1 l) (ap (elem K (bs ++ (x ∷ []))) d ∙ e)

  -- ---- a space of dimension 7 or more
  module _ (k : ℕ) (b : List ℕ) (s : 7 ≤ k) (B : Basis K k b) where
    pub inside : (n : ℕ) → n ≤ k → n ≤ length b
    inside n h = omega (arith, B.count)

    -- β as an element of the space
    shift_elem : (r : ℕ) → β K k b r ≡ elem K b (r * 2 ^ half k)
    shift_elem r = elem_drop (half k) b r (inside (half k) (omega arith))

    last-low : (r : ℕ) → r < 4 → row_last K k b r ≡ get_or b (half k + 2) 0
    last-low r h = pick_true (get_or b (half k + 2) 0) (β K k b r) (lt-ltb r 4 h)

    last-high : (r : ℕ) → 4 ≤ r → row_last K k b r ≡ β K k b r
    last-high r h = pick_false (get_or b (half k + 2) 0) (β K k b r) (le-ltb r 4 h)

    -- The number of the last basis element of row r
    last-elem : (r : ℕ) → r < 2 ^ col_dim k → (i : ℕ) × (2 ^ (half k + 2) ≤ i) × (i < 2 ^ k) × (row_last K k b r ≡ elem K b i)
    last-elem r h = by (dec_lt r 4)
      where
        by : Dec (r < 4) → (i : ℕ) × (2 ^ (half k + 2) ≤ i) × (i < 2 ^ k) × (row_last K k b r ≡ elem K b i)
        by (yes t) = (2 ^ (half k + 2), omega arith, pow-lt (omega arith), last-low r t ∙ elem_unit (half k + 2) b (omega (arith, B.count)))
        by (no t) =
            (r * 2 ^ half k, omega (arith, pow_four (half k), mul-le-mul_right {m = 4} {n = r} (2 ^ half k) (omega arith)), omega (arith, pow_rows k, block-lt {r = r} {j = 0} h (pow_pos (half k))), last-high r (omega arith) ∙ shift_elem r)

    last_sym : (r : ℕ) → r < 2 ^ col_dim k → Sym (row_last K k b r)
    last_sym r h = let (i, l, u, e) = last-elem r h in subst Sym (sym e) (elem_sym F b i B.elements)

    length_take_low : (n : ℕ) → n ≤ k → length (take n b) ≡ n
    length_take_low n h = length-take-le n b (inside n h)

    pub row-basis : (r : ℕ) → r < 2 ^ col_dim k → Basis K (row_dim k) (row_basis K k b r)
    row-basis r h = record {
      count = length-append (take (half k + 2) b) _ ∙ omega (arith, length_take_low (half k + 2) (omega arith));
      elements = All-append Sym (take (half k + 2) b) _ (All-take Sym (half k + 2) b B.elements) (last_sym r h, tt);
      independent = independent_snoc (take (half k + 2) b) _ (independent_take (half k + 2) b (inside (half k + 2) (omega arith)) B.independent) outside;
    }
      where
        outside : (i : ℕ) → i < 2 ^ length (take (half k + 2) b) → elem K (take (half k + 2) b) i ≢ row_last K k b r
        outside i hi e =
            let (j, l, u, f) = last-elem r h in
            let hi' : i < 2 ^ (half k + 2) = subst (λ (t : ℕ). i < 2 ^ t) (length_take_low (half k + 2) (omega arith)) hi in
            let same : i ≡ j = basis_distinct F k b B i j (omega arith) u (sym (elem_take (half k + 2) b i (inside (half k + 2) (omega arith)) hi') ∙ e ∙ f) in
            omega arith

    pub col_basis_lem : Basis K (col_dim k) (col_basis K k b)
    col_basis_lem = record {
      count = length-map (drop (half k) b) _ ∙ length-drop (half k) b ∙ ap (λ (t : ℕ). t - half k) B.count;
      elements = All-map Sym Sym (q K k b) (drop (half k) b) (λ x sx. vanish_sym F (take (half k) b) x (All-take Sym (half k) b B.elements) sx) (All-drop Sym (half k) b B.elements);
      independent = vanish_independent F (take (half k) b) (drop (half k) b) (All-take Sym (half k) b B.elements) (All-drop Sym (half k) b B.elements)
          (subst (Independent K) (sym (take-append-drop (half k) b)) B.independent);
    }

    -- Element r of a column's space is q(β) of row r
    pub col_elem : (r : ℕ) → elem K (col_basis K k b) r ≡ height_of K k b r
    col_elem r = elem-vanish F (take (half k) b) (drop (half k) b) r

    snoc_elem : (x a : ℕ) → a < 2 ^ (half k + 2) → elem K (take (half k + 2) b ++ (x ∷ [])) a ≡ elem K b a
    snoc_elem x a h =
        ap (elem K (take (half k + 2) b ++ (x ∷ []))) {x = a} {y = 0 * 2 ^ (half k + 2) + a} (omega (arith, zero-mul (2 ^ (half k + 2))))
        ∙ elem_at (take (half k + 2) b) (x ∷ []) (half k + 2) a 0 (length_take_low (half k + 2) (omega arith)) h
        ∙ ap (λ (t : ℕ). elem K (take (half k + 2) b) a ⊕ t) (elem-zero F (x ∷ [])) ∙ ⊕_0 F (elem K (take (half k + 2) b) a)
        ∙ elem_take (half k + 2) b a (inside (half k + 2) (omega arith)) h

    -- The first four blocks of a row are the span of the first basis elements
    pub row-elem : (r a : ℕ) → a < 2 ^ (half k + 2) → elem K (row_basis K k b r) a ≡ elem K b a
    row-elem r a h = snoc_elem (row_last K k b r) a h

    -- The block of a row that lies in the word is the coset of β
    pub slot-elem : (r j : ℕ) → j < 2 ^ half k → elem K (row_basis K k b r) (slot r * 2 ^ half k + j) ≡ elem K b (r * 2 ^ half k + j)
    slot-elem r j h = by (dec_lt r 4)
      where
        by : Dec (r < 4) → elem K (row_basis K k b r) (slot r * 2 ^ half k + j) ≡ elem K b (r * 2 ^ half k + j)
        by (yes t) =
            ap (λ (i : ℕ). elem K (row_basis K k b r) (i * 2 ^ half k + j)) {x = slot r} {y = r} (omega arith)
            ∙ snoc_elem (row_last K k b r) (r * 2 ^ half k + j) (omega (arith, pow_four (half k), block-lt {r = r} {j = j} t h))
        by (no t) =
            ap (λ (x : ℕ). elem K (take (half k + 2) b ++ (x ∷ [])) (slot r * 2 ^ half k + j)) (last-high r (omega arith))
            ∙ ap (elem K (take (half k + 2) b ++ (β K k b r ∷ []))) {x = slot r * 2 ^ half k + j} {y = 1 * 2 ^ (half k + 2) + j}
            (omega (arith, pow_four (half k), ap (λ (i : ℕ). i * 2 ^ half k) {x = slot r} {y = 4} (omega arith)))
            ∙ elem_at (take (half k + 2) b) (β K k b r ∷ []) (half k + 2) j 1 (length_take_low (half k + 2) (omega arith)) (omega (arith, pow_four (half k)))
            ∙ ap₂ ◌⊕◌
            (elem_take (half k + 2) b j (inside (half k + 2) (omega arith)) (omega (arith, pow_four (half k))) ∙ sym (elem_take (half k) b j (inside (half k) (omega arith)) h))
            (elem-first (β K k b r) [])
            ∙ sym (elem-split (half k) b j r (inside (half k) (omega arith)) h)

    -- q is q(β) on the coset of β
    pub q_coset : (r j : ℕ) → j < 2 ^ half k → q K k b (elem K b (r * 2 ^ half k + j)) ≡ height_of K k b r
    q_coset r j h =
        ap (q K k b) (elem-split (half k) b j r (inside (half k) (omega arith)) h ∙ F.sum_comm (elem K (take (half k) b) j) (β K k b r))
        ∙ vanish_coset F (take (half k) b) (β K k b r) j
