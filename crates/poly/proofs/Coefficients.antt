-- Laws of single coefficients: those of sums, multiples and products, and that the values at enough elements give them.
use Rattle.std.specs.Prelude.{◌≡◌, refl, List, [], ◌∷◌, ◌++◌, ℕ, zero, suc, ◌+◌, ◌-◌, ◌≤◌, ◌<◌, length, take}
use Rattle.std.proofs.Common.{sym, ap, ap₂, ◌∙◌, arith}
use Rattle.lists.specs.All.{All, IsZero, All-at}
use Rattle.field.specs.Laws.{Ops, IsField, ring, sums, 0_⊕, ⊕_0, ⊗_0, ⊕-zero}
use Rattle.poly.specs.Poly.{Distinct, eval, add_p, scale_p, mul_p, length_add_p}
use Rattle.poly.proofs.Poly.{eval-add_p, eval-scale_p, add_p_sym, root-bound, sum_step}
use Rattle.poly.specs.Coefficients.{coeff, Low, times_power, Mixed, low_zeros}

module _ {K : Ops} (F : IsField K) where
  infixl 60 ◌⊕◌
  infixl 70 ◌⊗◌
  open K use {◌⊕◌, ◌⊗◌, Sym}

  pub coeff_sym : (p : List ℕ) (i : ℕ) → All Sym p → Sym (coeff p i)
  coeff_sym p i s = All-at Sym p 0 s F.sym_zero i

  pub coeff-add_p : (p q : List ℕ) (i : ℕ) → coeff (add_p K p q) i ≡ coeff p i ⊕ coeff q i
  coeff-add_p [] q i = sym (0_⊕ F (coeff q i))
  coeff-add_p (c ∷ p) [] i = sym (⊕_0 F (coeff (c ∷ p) i))
  coeff-add_p (c ∷ p) (d ∷ q) zero = refl
  coeff-add_p (c ∷ p) (d ∷ q) (suc i) = coeff-add_p p q i

  pub coeff-scale_p : (a : ℕ) (p : List ℕ) (i : ℕ) → coeff (scale_p K a p) i ≡ a ⊗ coeff p i
  coeff-scale_p a [] i = sym (⊗_0 F a)
  coeff-scale_p a (c ∷ p) zero = refl
  coeff-scale_p a (c ∷ p) (suc i) = coeff-scale_p a p i

  -- a product, the first coefficient of the first factor apart
  pub coeff-mul_p : (c : ℕ) (p q : List ℕ) (i : ℕ) → coeff (mul_p K (c ∷ p) q) i ≡ c ⊗ coeff q i ⊕ coeff (0 ∷ mul_p K p q) i
  coeff-mul_p c p q i = coeff-add_p (scale_p K c q) (0 ∷ mul_p K p q) i ∙ ap (λ (t : ℕ). t ⊕ coeff (0 ∷ mul_p K p q) i) (coeff-scale_p c q i)

  zero-term : (c y u : ℕ) → c ≡ 0 → u ≡ 0 → c ⊗ y ⊕ u ≡ 0
  zero-term c y u e h = simp (e, h, ring, F)

  -- the product of 0
  pub mul_p-zeros : (p q : List ℕ) → Low 0 p → Low 0 (mul_p K p q)
  mul_p-zeros [] q z i l = refl
  mul_p-zeros (c ∷ p) q z zero l = coeff-mul_p c p q 0 ∙ zero-term c (coeff q 0) 0 (z 0 l) refl
  mul_p-zeros (c ∷ p) q z (suc i) l =
      coeff-mul_p c p q (suc i) ∙ zero-term c (coeff q (suc i)) (coeff (mul_p K p q) i) (z 0 (omega arith)) (mul_p-zeros p q (λ j h. z (suc j) (omega arith)) i (omega arith))

  -- polynomials whose sum is 0 have the same coefficients
  pub coeff_equal : (p q : List ℕ) → All IsZero (add_p K p q) → (i : ℕ) → coeff p i ≡ coeff q i
  coeff_equal p q z i = ⊕-zero F (coeff p i) (coeff q i) (sym (coeff-add_p p q i) ∙ low_zeros (add_p K p q) z i (omega arith))

  -- polynomials of at most n coefficients that agree at n distinct elements have the same coefficients
  pub coeff_unique : (n : ℕ) (p q : List ℕ) (f : ℕ → ℕ) → length p ≤ n → length q ≤ n → All Sym p → All Sym q → ((i : ℕ) → i < n → Sym (f i)) → Distinct n f
      → ((i : ℕ) → i < n → eval K p (f i) ≡ eval K q (f i)) → (i : ℕ) → coeff p i ≡ coeff q i
  coeff_unique n p q f lp lq sp sq sf d r =
      coeff_equal p q
      (root-bound F (length (add_p K p q)) (add_p K p q) f refl (add_p_sym F p q sp sq) (λ i h. sf i (omega (arith, few))) (λ i j h k. d i j (omega (arith, few)) (omega (arith, few)))
      (λ i h. eval-add_p F p q (f i) ∙ sum_step F _ _ (r i (omega (arith, few)))))
    where
      few : length (add_p K p q) ≤ n
      few = omega (arith, length_add_p K p q)

  zero-sum : (u v : ℕ) → u ≡ 0 → v ≡ 0 → u ⊕ v ≡ 0
  zero-sum u v e h = simp (e, h, sums, F)

  zero_multiple : (a u : ℕ) → u ≡ 0 → a ⊗ u ≡ 0
  zero_multiple a u e = simp (e, ring, F)

  pub low-add_p : (m : ℕ) (p q : List ℕ) → Low m p → Low m q → Low m (add_p K p q)
  low-add_p m p q zp zq i l = coeff-add_p p q i ∙ zero-sum (coeff p i) (coeff q i) (zp i l) (zq i l)

  pub low-scale_p : (m a : ℕ) (p : List ℕ) → Low m p → Low m (scale_p K a p)
  low-scale_p m a p z i l = coeff-scale_p a p i ∙ zero_multiple a (coeff p i) (z i l)

  -- the degrees of a product's factors add up
  pub low-mul_p : (p q : List ℕ) (m : ℕ) → Low m q → Low (length p + m - 1) (mul_p K p q)
  low-mul_p [] q m z i l = refl
  low-mul_p (c ∷ p) q m z zero l =
      coeff-add_p (scale_p K c q) (0 ∷ mul_p K p q) 0 ∙ zero-sum _ _ (low-scale_p m c q z 0 (omega arith)) refl
  low-mul_p (c ∷ p) q m z (suc i) l =
      coeff-add_p (scale_p K c q) (0 ∷ mul_p K p q) (suc i)
      ∙ zero-sum _ _ (low-scale_p m c q z (suc i) (omega arith)) (low-mul_p p q m z i (omega arith))

  value-step : (c x u d w : ℕ) → c ≡ d → u ≡ w → c ⊕ x ⊗ u ≡ d ⊕ x ⊗ w
  value-step c x u d w e h = ap₂ (λ (a b : ℕ). a ⊕ x ⊗ b) e h

  zero-value : (d x w : ℕ) → d ≡ 0 → w ≡ 0 → d ⊕ x ⊗ w ≡ 0
  zero-value d x w e h = simp (e, h, ring, F)

  -- the same coefficients give the same value
  pub eval-coeff : (p q : List ℕ) (x : ℕ) → ((i : ℕ) → coeff p i ≡ coeff q i) → eval K p x ≡ eval K q x
  eval-coeff [] [] x e = refl
  eval-coeff [] (d ∷ q) x e = sym (zero-value d x (eval K q x) (sym (e 0)) (sym (eval-coeff [] q x (λ i. e (suc i)))))
  eval-coeff (c ∷ p) [] x e = zero-value c x (eval K p x) (e 0) (eval-coeff p [] x (λ i. e (suc i)))
  eval-coeff (c ∷ p) (d ∷ q) x e = value-step c x _ d _ (e 0) (eval-coeff p q x (λ i. e (suc i)))

  -- the coefficients below the degree bound give the value
  pub eval-low : (m : ℕ) (p : List ℕ) (x : ℕ) → Low m p → eval K (take m p) x ≡ eval K p x
  eval-low zero p x z = sym (eval-coeff p [] x (λ i. z i (omega arith)))
  eval-low (suc m) [] x z = refl
  eval-low (suc m) (c ∷ p) x z = ap (λ (t : ℕ). c ⊕ x ⊗ t) (eval-low m p x (λ i l. z (suc i) (omega arith)))

  -- a product, the last coefficient of the first factor apart
  snoc_nil : (u v : ℕ) → u ≡ 0 → v ⊕ u ≡ 0 ⊕ v
  snoc_nil u v e = simp (e, sums, F)

  snoc_step : (u v w z : ℕ) → z ≡ v ⊕ w → u ⊕ z ≡ u ⊕ v ⊕ w
  snoc_step u v w z e = simp (e, sums, F)

  single-zero : (i : ℕ) → coeff (0 ∷ []) i ≡ 0
  single-zero zero = refl
  single-zero (suc i) = refl

  pub mul_p_snoc : (p q : List ℕ) (c : ℕ) (i : ℕ) → coeff (mul_p K (p ++ (c ∷ [])) q) i ≡ coeff (mul_p K p q) i ⊕ coeff (times_power (length p) (scale_p K c q)) i
  mul_p_snoc [] q c i = coeff-add_p (scale_p K c q) (0 ∷ []) i ∙ snoc_nil _ _ (single-zero i)
  mul_p_snoc (b ∷ p) q c zero =
      coeff-add_p (scale_p K b q) (0 ∷ mul_p K (p ++ (c ∷ [])) q) 0 ∙ sym (⊕_0 F _)
      ∙ ap (λ (t : ℕ). t ⊕ 0) (sym (coeff-add_p (scale_p K b q) (0 ∷ mul_p K p q) 0))
  mul_p_snoc (b ∷ p) q c (suc i) =
      coeff-add_p (scale_p K b q) (0 ∷ mul_p K (p ++ (c ∷ [])) q) (suc i)
      ∙ snoc_step _ _ _ _ (mul_p_snoc p q c i)
      ∙ ap (λ (t : ℕ). t ⊕ coeff (times_power (length p) (scale_p K c q)) i) (sym (coeff-add_p (scale_p K b q) (0 ∷ mul_p K p q) (suc i)))

  -- ---- p + c x^s q

  module _ (s c : ℕ) (p q r : List ℕ) (e : Mixed K s c p q r) where
    pub low_mixed : (m : ℕ) → Low m p → Low m (times_power s q) → Low m r
    low_mixed m zp zq i l = e i ∙ zero-sum _ _ (zp i l) (zero_multiple c _ (zq i l))

    -- a coefficient that the second term leaves
    pub mixed_left : (i : ℕ) → coeff (times_power s q) i ≡ 0 → coeff r i ≡ coeff p i
    mixed_left i z = e i ∙ ap (λ (t : ℕ). coeff p i ⊕ t) (zero_multiple c _ z) ∙ ⊕_0 F (coeff p i)

    -- a coefficient that the first term does not have
    pub mixed_right : (i : ℕ) → coeff p i ≡ 0 → coeff r i ≡ c ⊗ coeff (times_power s q) i
    mixed_right i z = e i ∙ ap (λ (t : ℕ). t ⊕ c ⊗ coeff (times_power s q) i) z ∙ 0_⊕ F _

    pub eval_mixed : (x : ℕ) → eval K r x ≡ eval K p x ⊕ c ⊗ eval K (times_power s q) x
    eval_mixed x =
        eval-coeff r (add_p K p (scale_p K c (times_power s q))) x
        (λ i. e i ∙ ap (λ (t : ℕ). coeff p i ⊕ t) (sym (coeff-scale_p c (times_power s q) i)) ∙ sym (coeff-add_p p (scale_p K c (times_power s q)) i))
        ∙ eval-add_p F p (scale_p K c (times_power s q)) x
        ∙ ap (λ (t : ℕ). eval K p x ⊕ t) (eval-scale_p F c (times_power s q) x)

  times_power_step : (x y u v : ℕ) → u ≡ y ⊗ v → 0 ⊕ x ⊗ u ≡ y ⊗ (0 ⊕ x ⊗ v)
  times_power_step x y u v e = simp (e, ring, F)

  -- a multiple at x stays one under a product with a power of x
  pub eval-times_power : (s : ℕ) (p q : List ℕ) (x y : ℕ) → eval K p x ≡ y ⊗ eval K q x → eval K (times_power s p) x ≡ y ⊗ eval K (times_power s q) x
  eval-times_power zero p q x y e = e
  eval-times_power (suc s) p q x y e = times_power_step x y _ _ (eval-times_power s p q x y e)
