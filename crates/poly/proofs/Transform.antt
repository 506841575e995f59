-- Laws of the additive Fourier transform: its layers and lengths, that it and its inverse undo each other, and that symbols give symbols.
use Rattle.std.specs.Prelude.{◌≡◌, refl, List, [], ◌∷◌, ◌++◌, ℕ, zero, suc, ◌+◌, ◌-◌, ◌^◌, ◌≤◌, ◌<◌, length, take, drop}
use Rattle.std.proofs.Common.{sym, ap, ap₂, ◌∙◌, arith, length-take, length-drop, length-append, take-append-drop, take_at, drop_at}
use Rattle.std.proofs.Math.Nat.{suc_inj}
use Rattle.field.specs.Laws.{Ops, IsField, sums}
use Rattle.lists.specs.All.{All, All-take, All-drop, All-append}
use Rattle.poly.specs.Poly.{add_p, scale_p, length_add_p, length_scale_p}
use Rattle.poly.proofs.Poly.{add_p_sym, scale_p_sym}
use Rattle.poly.specs.Transform.{folded, unfolded, shifted, transform, inverse}

-- ---- one layer, from the number of layers

module _ (K : Ops) (T : ℕ → ℕ → ℕ) where
  pub transform_layer : (m : ℕ) → 0 < m → (v : ℕ → ℕ) (d : List ℕ) → transform K T m v d
      ≡ transform K T (m - 1) v (folded K (m - 1) (v (m - 1)) d) ++ transform K T (m - 1) (shifted K T (m - 1) v) (add_p K (folded K (m - 1) (v (m - 1)) d) (drop (2 ^ (m - 1)) d))
  transform_layer zero h v d = absurd (omega arith)
  transform_layer (suc j) h v d =
      ap (λ (t : ℕ). transform K T t v (folded K t (v t) d) ++ transform K T t (shifted K T t v) (add_p K (folded K t (v t) d) (drop (2 ^ t) d))) {x = j} {y = suc j - 1} (omega arith)

  pub inverse_layer : (m : ℕ) → 0 < m → (v : ℕ → ℕ) (g : List ℕ) → inverse K T m v g
      ≡ unfolded K (v (m - 1)) (inverse K T (m - 1) v (take (2 ^ (m - 1)) g)) (inverse K T (m - 1) (shifted K T (m - 1) v) (drop (2 ^ (m - 1)) g))
  inverse_layer zero h v g = absurd (omega arith)
  inverse_layer (suc j) h v g =
      ap (λ (t : ℕ). unfolded K (v t) (inverse K T t v (take (2 ^ t) g)) (inverse K T t (shifted K T t v) (drop (2 ^ t) g))) {x = j} {y = suc j - 1} (omega arith)

-- ---- lengths

module _ (K : Ops) where
  pub length_folded : (j c : ℕ) (d : List ℕ) → length d ≡ 2 ^ suc j → length (folded K j c d) ≡ 2 ^ j
  length_folded j c d e =
      omega (arith, length_add_p K (take (2 ^ j) d) (scale_p K c (drop (2 ^ j) d)), length_scale_p K c (drop (2 ^ j) d), length-take (2 ^ j) d, length-drop (2 ^ j) d)

  pub length_upper : (j c : ℕ) (d : List ℕ) → length d ≡ 2 ^ suc j → length (add_p K (folded K j c d) (drop (2 ^ j) d)) ≡ 2 ^ j
  length_upper j c d e = omega (arith, length_add_p K (folded K j c d) (drop (2 ^ j) d), length_folded j c d e, length-drop (2 ^ j) d)

  length_lower : (n c : ℕ) (p q : List ℕ) → length p ≡ n → length q ≡ n → length (add_p K p (scale_p K c (add_p K p q))) ≡ n
  length_lower n c p q ep eq = omega (arith, length_add_p K p (scale_p K c (add_p K p q)), length_scale_p K c (add_p K p q), length_add_p K p q)

  pub length_unfolded : (n c : ℕ) (p q : List ℕ) → length p ≡ n → length q ≡ n → length (unfolded K c p q) ≡ n + n
  length_unfolded n c p q ep eq =
      omega (arith, length-append (add_p K p (scale_p K c (add_p K p q))) (add_p K p q), length_lower n c p q ep eq, length_add_p K p q)

module _ (K : Ops) (T : ℕ → ℕ → ℕ) where
  pub length_transform : (j : ℕ) (v : ℕ → ℕ) (d : List ℕ) → length d ≡ 2 ^ j → length (transform K T j v d) ≡ 2 ^ j
  length_transform zero v d e = e
  length_transform (suc j) v d e =
      let a : List ℕ = folded K j (v j) d in
      let b : List ℕ = add_p K (folded K j (v j) d) (drop (2 ^ j) d) in
      omega (
        arith,
        length-append (transform K T j v a) (transform K T j (shifted K T j v) b),
        length_transform j v a (length_folded K j (v j) d e),
        length_transform j (shifted K T j v) b (length_upper K j (v j) d e),
      )

  pub length_inverse : (j : ℕ) (v : ℕ → ℕ) (g : List ℕ) → length g ≡ 2 ^ j → length (inverse K T j v g) ≡ 2 ^ j
  length_inverse zero v g e = e
  length_inverse (suc j) v g e =
      let p : List ℕ = inverse K T j v (take (2 ^ j) g) in
      let q : List ℕ = inverse K T j (shifted K T j v) (drop (2 ^ j) g) in
      omega (
        arith,
        length_unfolded K (2 ^ j) (v j) p q (length_inverse j v (take (2 ^ j) g) (omega (arith, length-take (2 ^ j) g)))
            (length_inverse j (shifted K T j v) (drop (2 ^ j) g) (omega (arith, length-drop (2 ^ j) g))),
      )

-- ---- only the images T i j and v j with i and j below the number of layers count

module _ (K : Ops) (T S : ℕ → ℕ → ℕ) (m : ℕ) (same : (i j : ℕ) → i < m → j < m → T i j ≡ S i j) where
  infixl 60 ◌⊕◌
  open K use {◌⊕◌}

  shifted_ext : (j : ℕ) → j < m → (u v : ℕ → ℕ) → ((i : ℕ) → i < suc j → u i ≡ v i) → (i : ℕ) → i < j → shifted K T j u i ≡ shifted K S j v i
  shifted_ext j hj u v e i h = ap₂ ◌⊕◌ (e i (omega arith)) (same j i hj (omega arith))

  pub transform_ext : (j : ℕ) → j ≤ m → (u v : ℕ → ℕ) (d : List ℕ) → ((i : ℕ) → i < j → u i ≡ v i) → transform K T j u d ≡ transform K S j v d
  transform_ext zero hj u v d e = refl
  transform_ext (suc j) hj u v d e =
      ap (λ (c : ℕ). transform K T j u (folded K j c d) ++ transform K T j (shifted K T j u) (add_p K (folded K j c d) (drop (2 ^ j) d))) (e j (omega arith))
      ∙ ap₂ ◌++◌ (transform_ext j (omega arith) u v (folded K j (v j) d) (λ i h. e i (omega arith)))
      (transform_ext j (omega arith) (shifted K T j u) (shifted K S j v) (add_p K (folded K j (v j) d) (drop (2 ^ j) d)) (shifted_ext j hj u v e))

-- the inverse reads T i j for j below i alone
module _ (K : Ops) (T S : ℕ → ℕ → ℕ) (m : ℕ) (same : (i j : ℕ) → i < m → j < i → T i j ≡ S i j) where
  infixl 60 ◌⊕◌
  open K use {◌⊕◌}

  shifted-below : (j : ℕ) → j < m → (u v : ℕ → ℕ) → ((i : ℕ) → i < suc j → u i ≡ v i) → (i : ℕ) → i < j → shifted K T j u i ≡ shifted K S j v i
  shifted-below j hj u v e i h = ap₂ ◌⊕◌ (e i (omega arith)) (same j i hj h)

  pub inverse_ext : (j : ℕ) → j ≤ m → (u v : ℕ → ℕ) (g : List ℕ) → ((i : ℕ) → i < j → u i ≡ v i) → inverse K T j u g ≡ inverse K S j v g
  inverse_ext zero hj u v g e = refl
  inverse_ext (suc j) hj u v g e =
      ap (λ (c : ℕ). unfolded K c (inverse K T j u (take (2 ^ j) g)) (inverse K T j (shifted K T j u) (drop (2 ^ j) g))) (e j (omega arith))
      ∙ ap₂ (unfolded K (v j)) (inverse_ext j (omega arith) u v (take (2 ^ j) g) (λ i h. e i (omega arith)))
      (inverse_ext j (omega arith) (shifted K T j u) (shifted K S j v) (drop (2 ^ j) g) (shifted-below j hj u v e))

-- ---- each undoes the other

module _ {K : Ops} (F : IsField K) where
  infixl 60 ◌⊕◌
  infixl 70 ◌⊗◌
  open K use {◌⊕◌, ◌⊗◌, Sym}

  undo_right : (a b : ℕ) → a ⊕ b ⊕ b ≡ a
  undo_right a b = simp (sums, F)

  undo_left : (a b : ℕ) → a ⊕ (a ⊕ b) ≡ b
  undo_left a b = simp (sums, F)

  -- A list added twice is gone
  pub add_p_undo_right : (p q : List ℕ) → length p ≡ length q → add_p K (add_p K p q) q ≡ p
  add_p_undo_right [] [] e = refl
  add_p_undo_right [] (b ∷ q) e = absurd (omega arith)
  add_p_undo_right (a ∷ p) [] e = absurd (omega arith)
  add_p_undo_right (a ∷ p) (b ∷ q) e = ap₂ ◌∷◌ (undo_right a b) (add_p_undo_right p q (suc_inj e))

  pub add_p_undo_left : (p q : List ℕ) → length p ≡ length q → add_p K p (add_p K p q) ≡ q
  add_p_undo_left [] [] e = refl
  add_p_undo_left [] (b ∷ q) e = absurd (omega arith)
  add_p_undo_left (a ∷ p) [] e = absurd (omega arith)
  add_p_undo_left (a ∷ p) (b ∷ q) e = ap₂ ◌∷◌ (undo_left a b) (add_p_undo_left p q (suc_inj e))

  -- One layer
  pub unfolded-folded : (j c : ℕ) (d : List ℕ) → length d ≡ 2 ^ suc j → unfolded K c (folded K j c d) (add_p K (folded K j c d) (drop (2 ^ j) d)) ≡ d
  unfolded-folded j c d e =
      let lo : List ℕ = take (2 ^ j) d in
      let hi : List ℕ = drop (2 ^ j) d in
      let a : List ℕ = folded K j c d in
      let upper : add_p K a (add_p K a hi) ≡ hi = add_p_undo_left a hi (omega (arith, length_folded K j c d e, length-drop (2 ^ j) d)) in
      ap (λ (h : List ℕ). add_p K a (scale_p K c h) ++ h) upper
      ∙ ap (λ (l : List ℕ). l ++ hi) (add_p_undo_right lo (scale_p K c hi) (omega (arith, length_scale_p K c hi, length-take (2 ^ j) d, length-drop (2 ^ j) d)))
      ∙ take-append-drop (2 ^ j) d

  module _ (j c : ℕ) (p q : List ℕ) (ep : length p ≡ 2 ^ j) (eq : length q ≡ 2 ^ j) where
    upper_half : drop (2 ^ j) (unfolded K c p q) ≡ add_p K p q
    upper_half = drop_at (add_p K p (scale_p K c (add_p K p q))) (add_p K p q) (2 ^ j) (length_lower K (2 ^ j) c p q ep eq)

    lower_half : take (2 ^ j) (unfolded K c p q) ≡ add_p K p (scale_p K c (add_p K p q))
    lower_half = take_at (add_p K p (scale_p K c (add_p K p q))) (add_p K p q) (2 ^ j) (length_lower K (2 ^ j) c p q ep eq)

    pub folded-unfolded : folded K j c (unfolded K c p q) ≡ p
    folded-unfolded =
        ap₂ (λ (x y : List ℕ). add_p K x (scale_p K c y)) lower_half upper_half
        ∙ add_p_undo_right p (scale_p K c (add_p K p q)) (omega (arith, length_scale_p K c (add_p K p q), length_add_p K p q))

    pub upper_unfolded : add_p K (folded K j c (unfolded K c p q)) (drop (2 ^ j) (unfolded K c p q)) ≡ q
    upper_unfolded = ap₂ (add_p K) folded-unfolded upper_half ∙ add_p_undo_left p q (ep ∙ sym eq)

  module _ (T : ℕ → ℕ → ℕ) where
    pub inverse-transform : (j : ℕ) (v : ℕ → ℕ) (d : List ℕ) → length d ≡ 2 ^ j → inverse K T j v (transform K T j v d) ≡ d
    inverse-transform zero v d e = refl
    inverse-transform (suc j) v d e =
        let a : List ℕ = folded K j (v j) d in
        let b : List ℕ = add_p K (folded K j (v j) d) (drop (2 ^ j) d) in
        let va : List ℕ = transform K T j v a in
        let vb : List ℕ = transform K T j (shifted K T j v) b in
        let la : length va ≡ 2 ^ j = length_transform K T j v a (length_folded K j (v j) d e) in
        ap₂ (λ (x y : List ℕ). unfolded K (v j) (inverse K T j v x) (inverse K T j (shifted K T j v) y)) (take_at va vb (2 ^ j) la) (drop_at va vb (2 ^ j) la)
        ∙ ap₂ (unfolded K (v j)) (inverse-transform j v a (length_folded K j (v j) d e)) (inverse-transform j (shifted K T j v) b (length_upper K j (v j) d e))
        ∙ unfolded-folded j (v j) d e

    pub transform-inverse : (j : ℕ) (v : ℕ → ℕ) (g : List ℕ) → length g ≡ 2 ^ j → transform K T j v (inverse K T j v g) ≡ g
    transform-inverse zero v g e = refl
    transform-inverse (suc j) v g e =
        let lo : List ℕ = take (2 ^ j) g in
        let hi : List ℕ = drop (2 ^ j) g in
        let el : length lo ≡ 2 ^ j = omega (arith, length-take (2 ^ j) g) in
        let eh : length hi ≡ 2 ^ j = omega (arith, length-drop (2 ^ j) g) in
        let p : List ℕ = inverse K T j v lo in
        let q : List ℕ = inverse K T j (shifted K T j v) hi in
        let ep : length p ≡ 2 ^ j = length_inverse K T j v lo el in
        let eq : length q ≡ 2 ^ j = length_inverse K T j (shifted K T j v) hi eh in
        ap₂ (λ (x y : List ℕ). transform K T j v x ++ transform K T j (shifted K T j v) y) (folded-unfolded j (v j) p q ep eq) (upper_unfolded j (v j) p q ep eq)
        ∙ ap₂ ◌++◌ (transform-inverse j v lo el) (transform-inverse j (shifted K T j v) hi eh)
        ∙ take-append-drop (2 ^ j) g

  -- ---- symbols

  pub folded_sym : (j c : ℕ) (d : List ℕ) → Sym c → All Sym d → All Sym (folded K j c d)
  folded_sym j c d sc sd =
      add_p_sym F (take (2 ^ j) d) (scale_p K c (drop (2 ^ j) d)) (All-take Sym (2 ^ j) d sd) (scale_p_sym F c (drop (2 ^ j) d) sc (All-drop Sym (2 ^ j) d sd))

  pub upper_sym : (j c : ℕ) (d : List ℕ) → Sym c → All Sym d → All Sym (add_p K (folded K j c d) (drop (2 ^ j) d))
  upper_sym j c d sc sd = add_p_sym F (folded K j c d) (drop (2 ^ j) d) (folded_sym j c d sc sd) (All-drop Sym (2 ^ j) d sd)

  pub unfolded_sym : (c : ℕ) (p q : List ℕ) → Sym c → All Sym p → All Sym q → All Sym (unfolded K c p q)
  unfolded_sym c p q sc sp sq = search (All-append, add_p_sym, scale_p_sym) depth 8

  module _ (T : ℕ → ℕ → ℕ) (m : ℕ) (table : (i j : ℕ) → i < m → j < m → Sym (T i j)) where
    shifted_sym : (j : ℕ) → j < m → (v : ℕ → ℕ) → ((i : ℕ) → i < suc j → Sym (v i)) → (i : ℕ) → i < j → Sym (shifted K T j v i)
    shifted_sym j hj v sv i h = F.sym_sum (sv i (omega arith)) (table j i hj (omega arith))

    pub inverse_sym : (j : ℕ) → j ≤ m → (v : ℕ → ℕ) (g : List ℕ) → ((i : ℕ) → i < j → Sym (v i)) → All Sym g → All Sym (inverse K T j v g)
    inverse_sym zero hj v g sv sg = sg
    inverse_sym (suc j) hj v g sv sg =
        unfolded_sym (v j) (inverse K T j v (take (2 ^ j) g)) (inverse K T j (shifted K T j v) (drop (2 ^ j) g)) (sv j (omega arith))
        (inverse_sym j (omega arith) v (take (2 ^ j) g) (λ i h. sv i (omega arith)) (All-take Sym (2 ^ j) g sg))
        (inverse_sym j (omega arith) (shifted K T j v) (drop (2 ^ j) g) (shifted_sym j hj v sv) (All-drop Sym (2 ^ j) g sg))
