-- Polynomials in two variables: degrees, values, and Q(x, q(x)) as a polynomial in x. A monic q is given by its coefficients but the highest.
use Rattle.std.specs.Prelude.{◌≡◌, refl, List, [], ◌∷◌, ◌++◌, ℕ, zero, suc, ◌+◌, ◌*◌, ◌<◌, length, get_or, drop, replicate}
use Rattle.std.proofs.Common.{sym, ap, ap₂, ◌∙◌, suc-ne-zero, suc-mul, zero-mul, arith, length-append}
use Rattle.std.proofs.Math.Nat.{suc_inj}
use Rattle.std.proofs.lemmas.List.{length-replicate}
use Rattle.lists.specs.All.{All, IsZero, All-append, All-replicate}
use Rattle.lists.specs.Tables.{tab}
use Rattle.field.specs.Laws.{Ops, IsField, ring}
use Rattle.poly.specs.Poly.{Distinct, eval, add_p, scale_p, mul_p, length_add_p, length_scale_p, length_mul_p}
use Rattle.poly.proofs.Poly.{eval-add_p, eval-scale_p, eval-mul_p, eval_sym, add_p_sym, scale_p_sym, mul_p_sym, eval-zeros}
use Rattle.poly.proofs.Unique.{eval_unique}
use Rattle.poly.specs.Span.{product_to}
use Rattle.proximity.specs.Bivariate.{at_x, at_y, eval2, monic}

-- Each digit has m coefficients, each of them with the property S
abbrev pub Digits : (ℕ → Type 0) → ℕ → List (List ℕ) → Type 0
Digits S m [] = Unit {0}
Digits S m (s ∷ Q) = (length s ≡ m) × All S s × Digits S m Q

pub length-snoc : (q : List ℕ) (c : ℕ) → length (q ++ (c ∷ [])) ≡ suc (length q)
length-snoc q c = length-append q (c ∷ []) ∙ omega arith

module _ (K : Ops) where
  infixl 60 ◌⊕◌
  infixl 70 ◌⊗◌
  open K use {◌⊕◌, ◌⊗◌, Sym}

  -- The value of the monic polynomial
  abbrev pub eval_monic : List ℕ → ℕ → ℕ
  eval_monic q x = eval K (q ++ (1 ∷ [])) x

  -- Q(x, q(x))
  abbrev pub compose : List ℕ → List (List ℕ) → List ℕ
  compose q [] = []
  compose q (s ∷ Q) = add_p K s (mul_p K (compose q Q) (q ++ (1 ∷ [])))

module _ (K : Ops) where
  open K use {Sym}

  pub length_monic : (n : ℕ) (r : ℕ → ℕ) → length (monic K n r) ≡ n
  length_monic zero r = refl
  length_monic (suc n) r =
      omega (arith, length_add_p K (0 ∷ monic K n r) (scale_p K (r n) (monic K n r ++ (1 ∷ []))), length_scale_p K (r n) (monic K n r ++ (1 ∷ [])), length-snoc (monic K n r) 1, length_monic n r)

  pub length_compose : (q : List ℕ) (Q : List (List ℕ)) → 0 < length q → Digits Sym (length q) Q → length (compose K q Q) ≡ length Q * length q
  length_compose q [] h g = sym (zero-mul (length q))
  length_compose q (s ∷ []) h g = omega (arith, length_add_p K s [], g.0)
  length_compose q (s ∷ t ∷ Q) h g =
      let e : length (compose K q (t ∷ Q)) ≡ length Q * length q + length q = length_compose q (t ∷ Q) h g.2 ∙ suc-mul (length Q) (length q) in
      omega (arith, length_add_p K s (mul_p K (compose K q (t ∷ Q)) (q ++ (1 ∷ []))), length_mul_p K (compose K q (t ∷ Q)) (q ++ (1 ∷ [])) (omega arith) (omega (arith, length-snoc q 1)), length-snoc q 1, g.0)

  pub length_at_y : (m : ℕ) (Q : List (List ℕ)) (y : ℕ) → Digits Sym m Q → length (at_y K m Q y) ≡ m
  length_at_y m [] y g = length-replicate m 0
  length_at_y m (s ∷ Q) y g =
      omega (arith, length_add_p K s (scale_p K y (at_y K m Q y)), length_scale_p K y (at_y K m Q y), length_at_y m Q y g.2, g.0)

  pub length_at_x : (Q : List (List ℕ)) (x : ℕ) → length (at_x K Q x) ≡ length Q
  length_at_x [] x = refl
  length_at_x (s ∷ Q) x = ap suc (length_at_x Q x)

  pub at_x-tab : (n : ℕ) (f : ℕ → List ℕ) (x : ℕ) → at_x K (tab n f) x ≡ tab n (λ j. eval K (f j) x)
  at_x-tab zero f x = refl
  at_x-tab (suc n) f x = ap (λ (t : List ℕ). eval K (f zero) x ∷ t) (at_x-tab n (λ j. f (suc j)) x)

pub digits-tab : (S : ℕ → Type 0) (m n : ℕ) (f : ℕ → List ℕ) → ((j : ℕ) → length (f j) ≡ m) → ((j : ℕ) → All S (f j)) → Digits S m (tab n f)
digits-tab S m zero f e a = tt
digits-tab S m (suc n) f e a = (e zero, a zero, digits-tab S m n (λ j. f (suc j)) (λ j. e (suc j)) (λ j. a (suc j)))

module _ {K : Ops} (F : IsField K) where
  infixl 60 ◌⊕◌
  infixl 70 ◌⊗◌
  open K use {◌⊕◌, ◌⊗◌, Sym}

  pub monic_sym : (n : ℕ) (r : ℕ → ℕ) → ((i : ℕ) → i < n → Sym (r i)) → All Sym (monic K n r)
  monic_sym zero r s = tt
  monic_sym (suc n) r s =
      let t : All Sym (monic K n r) = monic_sym n r (λ i h. s i (omega arith)) in
      add_p_sym F (0 ∷ monic K n r) (scale_p K (r n) (monic K n r ++ (1 ∷ []))) (F.sym_zero, t)
      (scale_p_sym F (r n) (monic K n r ++ (1 ∷ [])) (s n (omega arith)) (All-append Sym (monic K n r) (1 ∷ []) t (F.sym_one, tt)))

  pub compose_sym : (q : List ℕ) (m : ℕ) (Q : List (List ℕ)) → All Sym q → Digits Sym m Q → All Sym (compose K q Q)
  compose_sym q m [] sq g = tt
  compose_sym q m (s ∷ Q) sq g =
      add_p_sym F s (mul_p K (compose K q Q) (q ++ (1 ∷ []))) g.1 (mul_p_sym F (compose K q Q) (q ++ (1 ∷ [])) (compose_sym q m Q sq g.2) (All-append Sym q (1 ∷ []) sq (F.sym_one, tt)))

  pub at_x_sym : (m : ℕ) (Q : List (List ℕ)) (x : ℕ) → Digits Sym m Q → Sym x → All Sym (at_x K Q x)
  at_x_sym m [] x g sx = tt
  at_x_sym m (s ∷ Q) x g sx = (eval_sym F s x g.1 sx, at_x_sym m Q x g.2 sx)

  pub at_y_sym : (m : ℕ) (Q : List (List ℕ)) (y : ℕ) → Digits Sym m Q → Sym y → All Sym (at_y K m Q y)
  at_y_sym m [] y g sy = All-replicate Sym m 0 F.sym_zero
  at_y_sym m (s ∷ Q) y g sy = add_p_sym F s (scale_p K y (at_y K m Q y)) g.1 (scale_p_sym F y (at_y K m Q y) sy (at_y_sym m Q y g.2 sy))

  add_snoc_nil : (c x : ℕ) → c ⊕ x ⊗ 0 ≡ c ⊕ x ⊗ 0 ⊕ 0
  add_snoc_nil c x = simp (ring, F)

  add_snoc_step : (c d x u v w : ℕ) → w ≡ u ⊕ v → c ⊕ d ⊕ x ⊗ w ≡ c ⊕ x ⊗ u ⊕ (d ⊕ x ⊗ v)
  add_snoc_step c d x u v w e = simp (e, ring, F)

  -- The sum of a monic polynomial and one of lower degree
  eval_add_snoc : (p q : List ℕ) (x : ℕ) → length p ≡ length q → eval_monic K (add_p K p q) x ≡ eval_monic K p x ⊕ eval K q x
  eval_add_snoc [] [] x h = add_snoc_nil 1 x
  eval_add_snoc [] (d ∷ q) x h = absurd (suc-ne-zero _ (sym h))
  eval_add_snoc (c ∷ p) [] x h = absurd (suc-ne-zero _ h)
  eval_add_snoc (c ∷ p) (d ∷ q) x h = add_snoc_step c d x _ _ _ (eval_add_snoc p q x (suc_inj h))

  monic-step : (x a u : ℕ) → 0 ⊕ x ⊗ u ⊕ a ⊗ u ≡ (x ⊕ a) ⊗ u
  monic-step x a u = simp (ring, F)

  eval-monic-step : (n : ℕ) (r : ℕ → ℕ) (x : ℕ) → eval_monic K (monic K (suc n) r) x ≡ (x ⊕ r n) ⊗ eval_monic K (monic K n r) x
  eval-monic-step n r x =
      eval_add_snoc (0 ∷ monic K n r) (scale_p K (r n) (monic K n r ++ (1 ∷ []))) x (sym (length_scale_p K (r n) (monic K n r ++ (1 ∷ [])) ∙ length-snoc (monic K n r) 1))
      ∙ ap (λ (t : ℕ). 0 ⊕ x ⊗ eval_monic K (monic K n r) x ⊕ t) (eval-scale_p F (r n) (monic K n r ++ (1 ∷ [])) x)
      ∙ monic-step x (r n) (eval_monic K (monic K n r) x)

  monic-one : (a x : ℕ) → Sym a → (a ⊗ (1 ⊕ x ⊗ 0)) ≡ a
  monic-one a x sa = simp (ring, F.one_prod a sa, F)

  -- The coefficients are those of the product
  pub eval-monic : (n : ℕ) (r : ℕ → ℕ) (x : ℕ) → Sym (r 0) → Sym x → eval_monic K (monic K (suc n) r) x ≡ product_to K n (λ i. x ⊕ r i)
  eval-monic zero r x sr sx = eval-monic-step 0 r x ∙ monic-one (x ⊕ r 0) x (F.sym_sum sx sr)
  eval-monic (suc n) r x sr sx = eval-monic-step (suc n) r x ∙ ap (λ (t : ℕ). (x ⊕ r (suc n)) ⊗ t) (eval-monic n r x sr sx)

  pub eval-at_y : (m : ℕ) (Q : List (List ℕ)) (x y : ℕ) → eval K (at_y K m Q y) x ≡ eval2 K Q x y
  eval-at_y m [] x y = eval-zeros F (replicate m 0) x (All-replicate IsZero m 0 refl)
  eval-at_y m (s ∷ Q) x y =
      eval-add_p F s (scale_p K y (at_y K m Q y)) x ∙ ap (λ (t : ℕ). eval K s x ⊕ t) (eval-scale_p F y (at_y K m Q y) x ∙ ap (λ (t : ℕ). y ⊗ t) (eval-at_y m Q x y))

  pub eval-compose : (q : List ℕ) (Q : List (List ℕ)) (x : ℕ) → eval K (compose K q Q) x ≡ eval2 K Q x (eval_monic K q x)
  eval-compose q [] x = refl
  eval-compose q (s ∷ Q) x =
      eval-add_p F s (mul_p K (compose K q Q) (q ++ (1 ∷ []))) x
      ∙ ap (λ (t : ℕ). eval K s x ⊕ t)
      (eval-mul_p F (compose K q Q) (q ++ (1 ∷ [])) x ∙ F.prod_comm (eval K (compose K q Q) x) (eval_monic K q x) ∙ ap (λ (t : ℕ). eval_monic K q x ⊗ t) (eval-compose q Q x))

  -- Digits that agree at m points are equal
  pub digits_ext : (m : ℕ) (f : ℕ → ℕ) → ((i : ℕ) → i < m → Sym (f i)) → Distinct m f → (Q R : List (List ℕ)) → Digits Sym m Q → Digits Sym m R → length Q ≡ length R
      → ((i : ℕ) → i < m → at_x K Q (f i) ≡ at_x K R (f i)) → Q ≡ R
  digits_ext m f sf d [] [] g h l e = refl
  digits_ext m f sf d [] (s ∷ R) g h l e = absurd (suc-ne-zero _ (sym l))
  digits_ext m f sf d (s ∷ Q) [] g h l e = absurd (suc-ne-zero _ l)
  digits_ext m f sf d (s ∷ Q) (t ∷ R) g h l e =
      ap₂ ◌∷◌
      (eval_unique F m s t f g.0 h.0 g.1 h.1 sf d (λ i j. ap (λ (v : List ℕ). get_or v 0 0) (e i j)))
      (digits_ext m f sf d Q R g.2 h.2 (suc_inj l) (λ i j. ap (drop 1) (e i j)))
