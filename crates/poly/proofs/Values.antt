-- The transform gives the values of a polynomial on a coset, the inverse its coefficients: each function on a coset has one polynomial.
use Rattle.std.specs.Prelude.{◌≡◌, refl, ◌≢◌, List, ◌++◌, ℕ, zero, suc, ◌+◌, ◌^◌, ◌-◌, ◌≤◌, ◌<◌, length, get_or, take, drop}
use Rattle.std.proofs.Common.{sym, ap, ap₂, ◌∙◌, le_refl, arith, get_or-append-add}
use Rattle.std.proofs.Math.Path.{subst⁻¹}
use Rattle.std.proofs.Math.Decide.{dec_lt}
use Rattle.std.proofs.Math.ListN.{get_or-append}
use Rattle.field.specs.Laws.{Ops, IsField, ⊕_assoc, ⊕-⊗}
use Rattle.lists.specs.Tables.{tab, tab_of, tab_ext, length_tab, get_or_tab, All-tab}
use Rattle.lists.specs.All.{All, All-drop}
use Rattle.poly.specs.Poly.{add_p, scale_p}
use Rattle.poly.specs.Span.{elem}
use Rattle.poly.proofs.Span.{elem_sym}
use Rattle.poly.specs.Novel.{step, image, eval_x}
use Rattle.poly.proofs.Novel.{image-sum, image_coset, image-next, image_sym, eval_x-add_p, eval_x-scale_p, eval_x_sym, upper_point, get_or_sym}
use Rattle.poly.specs.Transform.{folded, shifted, transform, inverse}
use Rattle.poly.proofs.Transform.{length_folded, length_upper, length_transform, length_inverse, inverse-transform, transform-inverse, folded_sym, upper_sym, inverse_sym}
use Rattle.poly.specs.Values.{table, images_of, OnCoset}

-- A function of the numbers below n + n, by the two halves of its table
at_halves : (n : ℕ) (p q : List ℕ) (g : ℕ → ℕ) → length p ≡ n → ((i : ℕ) → i < n → get_or p i 0 ≡ g i) → ((i : ℕ) → i < n → get_or q i 0 ≡ g (i + n))
    → (i : ℕ) → i < n + n → get_or (p ++ q) i 0 ≡ g i
at_halves n p q g e hp hq i h = by (dec_lt i n)
  where
    by : Dec (i < n) → get_or (p ++ q) i 0 ≡ g i
    by (yes l) = get_or-append p q 0 i (omega arith) ∙ hp i l
    by (no m) =
        ap (λ (k : ℕ). get_or (p ++ q) k 0) {x = i} {y = length p + (i - n)} (omega arith) ∙ get_or-append-add p q (i - n) 0 ∙ hq (i - n) (omega arith)
        ∙ ap g {x = i - n + n} {y = i} (omega arith)

module _ {K : Ops} (F : IsField K) (bs : List ℕ) (sb : All K.Sym bs) (nz : (j : ℕ) → j < length bs → step K bs j ≢ 0) where
  infixl 60 ◌⊕◌
  infixl 70 ◌⊗◌
  open K use {◌⊕◌, ◌⊗◌, Sym}

  -- On the coset of s a polynomial has half as many coefficients
  on_coset : (j : ℕ) (d : List ℕ) (s r : ℕ) → r < 2 ^ j → eval_x K bs (suc j) d (s ⊕ elem K bs r) ≡ eval_x K bs j (folded K j (image K bs j s) d) (s ⊕ elem K bs r)
  on_coset j d s r h =
      let x : ℕ = s ⊕ elem K bs r in
      ap (λ (t : ℕ). eval_x K bs j (take (2 ^ j) d) x ⊕ t ⊗ eval_x K bs j (drop (2 ^ j) d) x) (image_coset F bs j s r h)
      ∙ ap (λ (t : ℕ). eval_x K bs j (take (2 ^ j) d) x ⊕ t) (sym (eval_x-scale_p F bs j (image K bs j s) (drop (2 ^ j) d) x))
      ∙ sym (eval_x-add_p F bs j (take (2 ^ j) d) (scale_p K (image K bs j s) (drop (2 ^ j) d)) x)

  one_more : (a c b : ℕ) → Sym b → a ⊕ (c ⊕ 1) ⊗ b ≡ a ⊕ c ⊗ b ⊕ b
  one_more a c b s = ap (λ (t : ℕ). a ⊕ t) (⊕-⊗ F c 1 b ∙ ap (λ (t : ℕ). c ⊗ b ⊕ t) (F.one_prod b s)) ∙ sym (⊕_assoc F a (c ⊗ b) b)

  -- On the coset of s + basis element j
  on-next_coset : (j : ℕ) → j < length bs → (d : List ℕ) (s r : ℕ) → Sym s → All Sym d → r < 2 ^ j
      → eval_x K bs (suc j) d (s ⊕ get_or bs j 0 ⊕ elem K bs r) ≡ eval_x K bs j (add_p K (folded K j (image K bs j s) d) (drop (2 ^ j) d)) (s ⊕ get_or bs j 0 ⊕ elem K bs r)
  on-next_coset j hj d s r ss sd h =
      let b : ℕ = get_or bs j 0 in
      let x : ℕ = s ⊕ b ⊕ elem K bs r in
      let hi : List ℕ = drop (2 ^ j) d in
      let sx : Sym x = F.sym_sum (F.sym_sum ss (get_or_sym F bs j sb)) (elem_sym F bs r sb) in
      ap (λ (t : ℕ). eval_x K bs j (take (2 ^ j) d) x ⊕ t ⊗ eval_x K bs j hi x)
      (image_coset F bs j (s ⊕ b) r h ∙ image-sum F bs j s b ∙ ap (λ (t : ℕ). image K bs j s ⊕ t) (image-next F bs sb j (nz j hj)))
      ∙ one_more (eval_x K bs j (take (2 ^ j) d) x) (image K bs j s) (eval_x K bs j hi x) (eval_x_sym F bs sb j hi x (All-drop Sym (2 ^ j) d sd) sx)
      ∙ ap (λ (t : ℕ). eval_x K bs j (take (2 ^ j) d) x ⊕ t ⊕ eval_x K bs j hi x) (sym (eval_x-scale_p F bs j (image K bs j s) hi x))
      ∙ ap (λ (t : ℕ). t ⊕ eval_x K bs j hi x) (sym (eval_x-add_p F bs j (take (2 ^ j) d) (scale_p K (image K bs j s) hi) x))
      ∙ sym (eval_x-add_p F bs j (folded K j (image K bs j s) d) hi x)

  -- T holds the images of the first m basis elements
  module _ (T : ℕ → ℕ → ℕ) (m : ℕ) (hm : m ≤ length bs) (same : (i j : ℕ) → i < m → j < m → T i j ≡ table K bs i j) where
    shifted-image : (j : ℕ) → j < m → (v : ℕ → ℕ) (s : ℕ) → ((i : ℕ) → i < suc j → v i ≡ image K bs i s) → (i : ℕ) → i < j
        → shifted K T j v i ≡ image K bs i (s ⊕ get_or bs j 0)
    shifted-image j hj v s ev i h = ap₂ ◌⊕◌ (ev i (omega arith)) (same j i hj (omega arith)) ∙ sym (image-sum F bs i s (get_or bs j 0))

    -- The transform gives the values
    pub transform-at : (j : ℕ) → j ≤ m → (v : ℕ → ℕ) (s : ℕ) (d : List ℕ) → ((i : ℕ) → i < j → v i ≡ image K bs i s) → Sym s → length d ≡ 2 ^ j → All Sym d
        → (i : ℕ) → i < 2 ^ j → get_or (transform K T j v d) i 0 ≡ eval_x K bs j d (s ⊕ elem K bs i)
    transform-at zero hj v s d ev ss e sd i h = ap (λ (k : ℕ). get_or d k 0) {x = i} {y = 0} (omega arith)
    transform-at (suc j) hj v s d ev ss e sd i h =
        let b : ℕ = get_or bs j 0 in
        let c : ℕ = v j in
        let ec : c ≡ image K bs j s = ev j (omega arith) in
        let sc : Sym c = subst⁻¹ Sym ec (image_sym F bs sb j s ss) in
        let lower : List ℕ = folded K j c d in
        let upper : List ℕ = add_p K (folded K j c d) (drop (2 ^ j) d) in
        at_halves (2 ^ j) (transform K T j v lower) (transform K T j (shifted K T j v) upper) (λ i. eval_x K bs (suc j) d (s ⊕ elem K bs i))
        (length_transform K T j v lower (length_folded K j c d e))
        (λ i h. transform-at j (omega arith) v s lower (λ i h. ev i (omega arith)) ss (length_folded K j c d e) (folded_sym F j c d sc sd) i h
        ∙ ap (λ (t : ℕ). eval_x K bs j (folded K j t d) (s ⊕ elem K bs i)) ec ∙ sym (on_coset j d s i h))
        (λ i h. transform-at j (omega arith) (shifted K T j v) (s ⊕ b) upper (shifted-image j hj v s ev) (F.sym_sum ss (get_or_sym F bs j sb)) (length_upper K j c d e)
        (upper_sym F j c d sc sd) i h
        ∙ ap (λ (t : ℕ). eval_x K bs j (add_p K (folded K j t d) (drop (2 ^ j) d)) (s ⊕ b ⊕ elem K bs i)) ec
        ∙ sym (on-next_coset j (omega arith) d s i ss sd h) ∙ ap (eval_x K bs (suc j) d) (sym (upper_point F bs j s i (omega arith) h)))
        i (omega arith)

    module _ (v : ℕ → ℕ) (s : ℕ) (ev : (j : ℕ) → j < m → v j ≡ image K bs j s) (ss : Sym s) where
      pub transform-values : (d : List ℕ) → length d ≡ 2 ^ m → All Sym d → transform K T m v d ≡ tab (2 ^ m) (λ i. eval_x K bs m d (s ⊕ elem K bs i))
      transform-values d e sd =
          tab_of (2 ^ m) (transform K T m v d) 0 (length_transform K T m v d e)
          ∙ tab_ext (2 ^ m) (λ i. get_or (transform K T m v d) i 0) (λ i. eval_x K bs m d (s ⊕ elem K bs i)) (transform-at m (le_refl m) v s d ev ss e sd)

      -- The inverse gives the coefficients back
      pub inverse-values : (d : List ℕ) → length d ≡ 2 ^ m → All Sym d → inverse K T m v (tab (2 ^ m) (λ i. eval_x K bs m d (s ⊕ elem K bs i))) ≡ d
      inverse-values d e sd = ap (inverse K T m v) (sym (transform-values d e sd)) ∙ inverse-transform F T m v d e

      table_sym : (i j : ℕ) → i < m → j < m → Sym (T i j)
      table_sym i j hi hj = subst⁻¹ Sym (same i j hi hj) (image_sym F bs sb j (get_or bs i 0) (get_or_sym F bs i sb))

      shift_sym : (j : ℕ) → j < m → Sym (v j)
      shift_sym j h = subst⁻¹ Sym (ev j h) (image_sym F bs sb j s ss)

      pub coeffs_sym : (g : List ℕ) → All Sym g → All Sym (inverse K T m v g)
      coeffs_sym g sg = inverse_sym F T m table_sym m (le_refl m) v g shift_sym sg

      -- The inverse gives a polynomial with the values g
      pub inverse-at : (g : List ℕ) → length g ≡ 2 ^ m → All Sym g → (i : ℕ) → i < 2 ^ m → eval_x K bs m (inverse K T m v g) (s ⊕ elem K bs i) ≡ get_or g i 0
      inverse-at g e sg i h =
          sym (transform-at m (le_refl m) v s (inverse K T m v g) ev ss (length_inverse K T m v g e) (coeffs_sym g sg) i h)
          ∙ ap (λ (l : List ℕ). get_or l i 0) (transform-inverse F T m v g e)

  -- Two polynomials with 2 ^ j coefficients that agree on a coset of the first 2 ^ j elements are equal
  pub eval_x_unique : (j : ℕ) → j ≤ length bs → (d e : List ℕ) (s : ℕ) → length d ≡ 2 ^ j → length e ≡ 2 ^ j → All Sym d → All Sym e → Sym s
      → ((i : ℕ) → i < 2 ^ j → eval_x K bs j d (s ⊕ elem K bs i) ≡ eval_x K bs j e (s ⊕ elem K bs i)) → d ≡ e
  eval_x_unique j hj d e s ld le sd se ss h = sym (back d ld sd) ∙ ap (inverse K (table K bs) j (images_of K bs s)) (tab_ext (2 ^ j) _ _ h) ∙ back e le se
    where
      back : (d : List ℕ) → length d ≡ 2 ^ j → All Sym d → inverse K (table K bs) j (images_of K bs s) (tab (2 ^ j) (λ i. eval_x K bs j d (s ⊕ elem K bs i))) ≡ d
      back = inverse-values (table K bs) j hj (λ i j hi hj. refl) (images_of K bs s) s (λ j h. refl) ss

  -- Every function on a coset of the first 2 ^ j elements is given by 2 ^ j coefficients
  pub eval_x_exists : (j : ℕ) → j ≤ length bs → (s : ℕ) (g : ℕ → ℕ) → Sym s → ((i : ℕ) → i < 2 ^ j → Sym (g i)) → OnCoset F bs sb nz j s g
  eval_x_exists j hj s g ss sg =
      record {
        coeffs = inverse K (table K bs) j (images_of K bs s) l;
        count = length_inverse K (table K bs) j (images_of K bs s) l (length_tab (2 ^ j) g);
        elements = coeffs_sym (table K bs) j hj (λ i j hi hj. refl) (images_of K bs s) s (λ j h. refl) ss l (All-tab Sym (2 ^ j) g sg);
        values = λ i h. inverse-at (table K bs) j hj (λ i j hi hj. refl) (images_of K bs s) s (λ j h. refl) ss l (length_tab (2 ^ j) g) (All-tab Sym (2 ^ j) g sg) i h
            ∙ get_or_tab (2 ^ j) g i 0 h;
      }
    where
      l : List ℕ
      l = tab (2 ^ j) g
