-- A polynomial with n coefficients through any n points, by Newton's form.
use Rattle.std.specs.Prelude.{◌≡◌, refl, ◌≢◌, List, [], ◌∷◌, ℕ, zero, suc, ◌<◌}
use Rattle.std.proofs.Common.{sym, ap, ap₂, ◌∙◌, arith}
use Rattle.std.proofs.Math.Decide.{ℕ_discrete}
use Rattle.field.specs.Laws.{Ops, IsField, ring, sums, ⊕-zero, ⊗-zero, ⊗_0, ⊗_1, ⊗_inv}
use Rattle.lists.specs.All.{All}
use Rattle.poly.specs.Poly.{Distinct, eval, add_p, scale_p, length_add_p, length_scale_p}
use Rattle.poly.proofs.Poly.{eval-add_p, eval-scale_p, eval-mul_p, eval_sym, add_p_sym, scale_p_sym, mul_p_sym}
use Rattle.poly.specs.Interpolate.{roots_p, length_roots_p, Through}

module _ {K : Ops} (F : IsField K) where
  infixl 60 ◌⊕◌
  infixl 70 ◌⊗◌
  open K use {◌⊕◌, ◌⊗◌, inv, Sym}

  linear-eval : (a x : ℕ) → Sym x → a ⊕ x ⊗ (1 ⊕ x ⊗ 0) ≡ x ⊕ a
  linear-eval a x s = simp (⊗_1 F x s, ring, F)

  roots_p_sym : (n : ℕ) (f : ℕ → ℕ) → ((i : ℕ) → i < n → Sym (f i)) → All Sym (roots_p K n f)
  roots_p_sym zero f sf = (F.sym_one, tt)
  roots_p_sym (suc n) f sf =
      mul_p_sym F (f n ∷ 1 ∷ []) (roots_p K n f) (sf n (omega arith), (F.sym_one, tt)) (roots_p_sym n f (λ i h. sf i (omega arith)))

  -- The value of roots_p, one factor at a time
  roots_p_suc : (n : ℕ) (f : ℕ → ℕ) (x : ℕ) → Sym x → eval K (roots_p K (suc n) f) x ≡ (x ⊕ f n) ⊗ eval K (roots_p K n f) x
  roots_p_suc n f x s = eval-mul_p F (f n ∷ 1 ∷ []) (roots_p K n f) x ∙ ap (λ (t : ℕ). t ⊗ eval K (roots_p K n f) x) (linear-eval (f n) x s)

  roots_p-zero : (n : ℕ) (f : ℕ → ℕ) (i : ℕ) → i < n → Sym (f i) → eval K (roots_p K n f) (f i) ≡ 0
  roots_p-zero zero f i h s = absurd (omega arith)
  roots_p-zero (suc n) f i h s = roots_p_suc n f (f i) s ∙ by (ℕ_discrete i n) (λ h. roots_p-zero n f i h s)
    where
      by : Dec (i ≡ n) → (i < n → eval K (roots_p K n f) (f i) ≡ 0) → (f i ⊕ f n) ⊗ eval K (roots_p K n f) (f i) ≡ 0
      by (yes e) ih = simp (e, ring, F)
      by (no ne) ih = ap (λ (t : ℕ). (f i ⊕ f n) ⊗ t) (ih (omega arith)) ∙ ⊗_0 F (f i ⊕ f n)

  roots_p_nonzero : (n : ℕ) (f : ℕ → ℕ) (x : ℕ) → ((i : ℕ) → i < n → Sym (f i)) → Sym x → ((i : ℕ) → i < n → x ≢ f i) → eval K (roots_p K n f) x ≢ 0
  roots_p_nonzero zero f x sf s d e = let z : ◌≡◌ {A = ℕ} 1 0 = sym (simp (ring, F)) ∙ e in omega arith
  roots_p_nonzero (suc n) f x sf s d e =
      roots_p_nonzero n f x (λ i h. sf i (omega arith)) s (λ i h. d i (omega arith))
      (⊗-zero F (x ⊕ f n) (eval K (roots_p K n f) x) (F.sym_sum s (sf n (omega arith)))
      (eval_sym F (roots_p K n f) x (roots_p_sym n f (λ i h. sf i (omega arith))) s) (λ z. d n (omega arith) (⊕-zero F x (f n) z))
      (sym (roots_p_suc n f x s) ∙ e))

  correction : (a b r : ℕ) → Sym a → Sym b → Sym r → r ≢ 0 → b ⊕ inv r ⊗ (a ⊕ b) ⊗ r ≡ a
  correction a b r sa sb sr n = ap (λ (t : ℕ). b ⊕ t) (F.prod_comm (inv r ⊗ (a ⊕ b)) r ∙ ⊗_inv F r (a ⊕ b) sr (F.sym_sum sa sb) n) ∙ simp (sums, F)

  module _ (f g : ℕ → ℕ) where
    -- From n points to one more: a multiple of the polynomial that is 0 at the n points is added
    next : (n : ℕ) → ((i : ℕ) → i < suc n → Sym (f i)) → ((i : ℕ) → i < suc n → Sym (g i)) → Distinct (suc n) f → Through F n f g → Through F (suc n) f g
    next n sf sg d t =
        record {
          coeffs = add_p K p (scale_p K c q);
          count = omega (arith, length_add_p K p (scale_p K c q), length_scale_p K c q, length_roots_p K n f, t.count);
          elements = add_p_sym F p (scale_p K c q) t.elements (scale_p_sym F c q (F.sym_prod (F.sym_inv sr) (F.sym_sum (sg n (omega arith)) sb)) sq);
          values = λ i h. value i ∙ by i h (ℕ_discrete i n);
        }
      where
        p : List ℕ
        p = t.coeffs

        q : List ℕ
        q = roots_p K n f

        b : ℕ
        b = eval K p (f n)

        r : ℕ
        r = eval K q (f n)

        c : ℕ
        c = inv r ⊗ (g n ⊕ b)

        sq : All Sym q
        sq = roots_p_sym n f (λ i h. sf i (omega arith))

        sr : Sym r
        sr = eval_sym F q (f n) sq (sf n (omega arith))

        sb : Sym b
        sb = eval_sym F p (f n) t.elements (sf n (omega arith))

        nr : r ≢ 0
        nr = roots_p_nonzero n f (f n) (λ i h. sf i (omega arith)) (sf n (omega arith)) (λ i h e. let z : n ≡ i = d n i (omega arith) (omega arith) e in omega arith)

        value : (i : ℕ) → eval K (add_p K p (scale_p K c q)) (f i) ≡ eval K p (f i) ⊕ c ⊗ eval K q (f i)
        value i = eval-add_p F p (scale_p K c q) (f i) ∙ ap (λ (t : ℕ). eval K p (f i) ⊕ t) (eval-scale_p F c q (f i))

        by : (i : ℕ) → i < suc n → Dec (i ≡ n) → eval K p (f i) ⊕ c ⊗ eval K q (f i) ≡ g i
        by i h (yes e) = rw e (correction (g n) b r (sg n (omega arith)) sb sr nr)
        by i h (no ne) =
            ap₂ (λ (u v : ℕ). u ⊕ c ⊗ v) (t.values i (omega arith)) (roots_p-zero n f i (omega arith) (sf i h)) ∙ simp (ring, F)

    -- A polynomial with n coefficients through n points
    pub interpolate : (n : ℕ) → ((i : ℕ) → i < n → Sym (f i)) → ((i : ℕ) → i < n → Sym (g i)) → Distinct n f → Through F n f g
    interpolate zero sf sg d = record { coeffs = []; count = refl; elements = tt; values = λ i h. absurd (omega arith) }
    interpolate (suc n) sf sg d =
        next n sf sg d (interpolate n (λ i h. sf i (omega arith)) (λ i h. sg i (omega arith)) (λ i j h k. d i j (omega arith) (omega arith)))
