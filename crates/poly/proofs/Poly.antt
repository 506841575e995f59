-- Laws of polynomials: values of sums, multiples and products, the factor theorem, and the bound on the number of roots.
use Rattle.std.specs.Prelude.{◌≡◌, refl, ◌≢◌, List, [], ◌∷◌, ℕ, zero, suc, ◌<◌, length}
use Rattle.std.proofs.Common.{sym, ap, ap₂, ◌∙◌, suc-ne-zero, arith}
use Rattle.std.proofs.Math.Nat.{suc_inj}
use Rattle.lists.specs.All.{All, IsZero}
use Rattle.field.specs.Laws.{combine, Ops, IsField, ring, sums, ⊕-zero, ⊗-zero, ⊕_0, ⊗_0}
use Rattle.poly.specs.Poly.{Distinct, eval, add_p, scale_p, quot, mul_p, length_quot}

module _ {K : Ops} (F : IsField K) where
  infixl 60 ◌⊕◌
  infixl 70 ◌⊗◌
  open K use {◌⊕◌, ◌⊗◌, inv, Sym}

  -- The algebra of each induction step stands in a lemma over variables: in a recursive clause antt reads a `simp` by commutativity in two orders
  add_step : (c d x u v w : ℕ) → w ≡ u ⊕ v → c ⊕ d ⊕ x ⊗ w ≡ c ⊕ x ⊗ u ⊕ (d ⊕ x ⊗ v)
  add_step c d x u v w e = simp (e, ring, F)

  pub eval-add_p : (p q : List ℕ) (x : ℕ) → eval K (add_p K p q) x ≡ eval K p x ⊕ eval K q x
  eval-add_p [] q x = sym (F.zero-sum (eval K q x))
  eval-add_p (c ∷ p) [] x = sym (⊕_0 F (c ⊕ x ⊗ eval K p x))
  eval-add_p (c ∷ p) (d ∷ q) x = add_step c d x _ _ _ (eval-add_p p q x)

  scale_step : (a c x u w : ℕ) → w ≡ a ⊗ u → a ⊗ c ⊕ x ⊗ w ≡ a ⊗ (c ⊕ x ⊗ u)
  scale_step a c x u w e = simp (e, ring, F)

  pub eval-scale_p : (a : ℕ) (p : List ℕ) (x : ℕ) → eval K (scale_p K a p) x ≡ a ⊗ eval K p x
  eval-scale_p a [] x = sym (⊗_0 F a)
  eval-scale_p a (c ∷ p) x = scale_step a c x _ _ (eval-scale_p a p x)

  mul_step : (c x u v w : ℕ) → w ≡ u ⊗ v → c ⊗ v ⊕ (0 ⊕ x ⊗ w) ≡ (c ⊕ x ⊗ u) ⊗ v
  mul_step c x u v w e = simp (e, ring, F)

  pub eval-mul_p : (p q : List ℕ) (x : ℕ) → eval K (mul_p K p q) x ≡ eval K p x ⊗ eval K q x
  eval-mul_p [] q x = sym (F.zero_prod (eval K q x))
  eval-mul_p (c ∷ p) q x =
      eval-add_p (scale_p K c q) (0 ∷ mul_p K p q) x
      ∙ ap (λ (t : ℕ). t ⊕ eval K (0 ∷ mul_p K p q) x) (eval-scale_p c q x)
      ∙ mul_step c x _ _ _ (eval-mul_p p q x)

  pub eval_sym : (p : List ℕ) (x : ℕ) → All Sym p → Sym x → Sym (eval K p x)
  eval_sym [] x sp sx = F.sym_zero
  eval_sym (c ∷ p) x sp sx = F.sym_sum sp.0 (F.sym_prod sx (eval_sym p x sp.1 sx))

  pub add_p_sym : (p q : List ℕ) → All Sym p → All Sym q → All Sym (add_p K p q)
  add_p_sym [] q sp sq = sq
  add_p_sym (c ∷ p) [] sp sq = sp
  add_p_sym (c ∷ p) (d ∷ q) sp sq = (F.sym_sum sp.0 sq.0, add_p_sym p q sp.1 sq.1)

  pub scale_p_sym : (a : ℕ) (p : List ℕ) → Sym a → All Sym p → All Sym (scale_p K a p)
  scale_p_sym a [] sa sp = tt
  scale_p_sym a (c ∷ p) sa sp = (F.sym_prod sa sp.0, scale_p_sym a p sa sp.1)

  pub mul_p_sym : (p q : List ℕ) → All Sym p → All Sym q → All Sym (mul_p K p q)
  mul_p_sym [] q sp sq = tt
  mul_p_sym (c ∷ p) q sp sq = add_p_sym (scale_p K c q) (0 ∷ mul_p K p q) (scale_p_sym c q sp.0 sq) (F.sym_zero, mul_p_sym p q sp.1 sq)

  pub quot_sym : (p : List ℕ) (a : ℕ) → All Sym p → Sym a → All Sym (quot K p a)
  quot_sym [] a sp sa = tt
  quot_sym (d ∷ p) a sp sa = (eval_sym (d ∷ p) a sp sa, quot_sym p a sp.1 sa)

  factor-nil : (c x a : ℕ) → c ⊕ x ⊗ 0 ⊕ (c ⊕ a ⊗ 0) ≡ (x ⊕ a) ⊗ 0
  factor-nil c x a = simp (ring, F)

  factor-step : (c x a u v q : ℕ) → u ⊕ v ≡ (x ⊕ a) ⊗ q → c ⊕ x ⊗ u ⊕ (c ⊕ a ⊗ v) ≡ (x ⊕ a) ⊗ (v ⊕ x ⊗ q)
  factor-step c x a u v q e = combine F (ap (λ (t : ℕ). x ⊗ t) e) (simp (ring, F))

  -- The factor theorem
  pub factor : (c : ℕ) (p : List ℕ) (x a : ℕ) → eval K (c ∷ p) x ⊕ eval K (c ∷ p) a ≡ (x ⊕ a) ⊗ eval K (quot K p a) x
  factor c [] x a = factor-nil c x a
  factor c (d ∷ p) x a = factor-step c x a _ _ _ (factor d p x a)

  zeros-step : (c x w : ℕ) → c ≡ 0 → w ≡ 0 → c ⊕ x ⊗ w ≡ 0
  zeros-step c x w e h = simp (e, h, ring, F)

  -- A list of zeros has the value 0
  pub eval-zeros : (p : List ℕ) (x : ℕ) → All IsZero p → eval K p x ≡ 0
  eval-zeros [] x z = refl
  eval-zeros (c ∷ p) x z = zeros-step c x _ z.0 (eval-zeros p x z.1)

  pub head-zero : (c x w : ℕ) → c ⊕ x ⊗ w ≡ 0 → w ≡ 0 → c ≡ 0
  head-zero c x w e h = combine F e (combine F (ap (λ (t : ℕ). x ⊗ t) h) (simp (ring, F)))

  -- Where the quotient is 0, so is all of p
  pub quot-zeros : (p : List ℕ) (a : ℕ) → All IsZero (quot K p a) → All IsZero p
  quot-zeros [] a z = tt
  quot-zeros (d ∷ p) a z = let t : All IsZero p = quot-zeros p a z.1 in (head-zero d a _ z.0 (eval-zeros p a t), t)

  -- A root of c ∷ p other than the root a is one of the quotient
  pub quot-root : (c : ℕ) (p : List ℕ) (x a : ℕ) → All Sym p → Sym x → Sym a → x ≢ a → eval K (c ∷ p) x ≡ 0 → eval K (c ∷ p) a ≡ 0 → eval K (quot K p a) x ≡ 0
  quot-root c p x a sp sx sa n ex ea =
      ⊗-zero F (x ⊕ a) (eval K (quot K p a) x) (F.sym_sum sx sa) (eval_sym (quot K p a) x (quot_sym p a sp sa) sx) (λ z. n (⊕-zero F x a z))
      (sym (factor c p x a) ∙ ap₂ ◌⊕◌ ex ea ∙ F.sum_self 0)

  -- A polynomial with n coefficients that is 0 at n distinct elements is 0
  pub root-bound : (n : ℕ) (p : List ℕ) (f : ℕ → ℕ) → length p ≡ n → All Sym p → ((i : ℕ) → i < n → Sym (f i)) → Distinct n f
      → ((i : ℕ) → i < n → eval K p (f i) ≡ 0) → All IsZero p
  root-bound zero [] f e sp sf d r = tt
  root-bound zero (c ∷ p) f e sp sf d r = absurd (suc-ne-zero _ e)
  root-bound (suc n) [] f e sp sf d r = tt
  root-bound (suc n) (c ∷ p) f e sp sf d r =
      let z : All IsZero p =
      quot-zeros p (f n)
      (root-bound n (quot K p (f n)) f (length_quot K p (f n) ∙ suc_inj e) (quot_sym p (f n) sp.1 (sf n (omega arith)))
      (λ i h. sf i (omega arith)) (λ i j h k. d i j (omega arith) (omega arith))
      (λ i h. quot-root c p (f i) (f n) sp.1 (sf i (omega arith)) (sf n (omega arith))
      (λ q. let z : i ≡ n = d i n (omega arith) (omega arith) q in omega arith) (r i (omega arith)) (r n (omega arith))))
      in (head-zero c (f n) _ (r n (omega arith)) (eval-zeros p (f n) z), z)

  pub zeros_equal : (p q : List ℕ) → length p ≡ length q → All IsZero (add_p K p q) → p ≡ q
  zeros_equal [] [] e z = refl
  zeros_equal [] (d ∷ q) e z = absurd (suc-ne-zero _ (sym e))
  zeros_equal (c ∷ p) [] e z = absurd (suc-ne-zero _ e)
  zeros_equal (c ∷ p) (d ∷ q) e z = ap₂ ◌∷◌ (⊕-zero F c d z.0) (zeros_equal p q (suc_inj e) z.1)

  pub sum_step : (u v : ℕ) → u ≡ v → u ⊕ v ≡ 0
  sum_step u v e = simp (e, sums, F)
