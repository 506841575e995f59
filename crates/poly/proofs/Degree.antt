-- From the basis of Lin, Chung and Han to powers of x and back: 2 ^ j coefficients in one are 2 ^ j coefficients in the other,
-- so a degree below 2 ^ m is the same as zeros from coefficient 2 ^ m on.
use Rattle.std.specs.Prelude.{◌≡◌, refl, ◌↔◌, List, [], ◌∷◌, ◌++◌, ℕ, zero, suc, ◌+◌, ◌^◌, ◌-◌, ◌≤◌, length, get_or, take, drop, replicate}
use Rattle.std.proofs.Common.{sym, ap, ap₂, ◌∙◌, subst, arith, length-append, pow_mono, take_at, drop_at, take-take, get_or-take}
use Rattle.std.proofs.Math.Path.{subst⁻¹}
use Rattle.std.proofs.Math.Decide.{le_ind}
use Rattle.std.proofs.lemmas.List.{length-replicate}
use Rattle.field.specs.Laws.{Ops, IsField, ring, 0_⊕, ⊗_1}
use Rattle.lists.specs.All.{All, drop-take, All-take, All-drop, All-drop_le, All-append, All-replicate, IsZero}
use Rattle.poly.specs.Poly.{eval, add_p, mul_p}
use Rattle.poly.proofs.Poly.{eval-add_p, eval-scale_p, eval-mul_p, eval_sym, add_p_sym, scale_p_sym, mul_p_sym}
use Rattle.poly.proofs.Unique.{eval_unique}
use Rattle.poly.specs.Span.{elem, vanish, Independent}
use Rattle.poly.proofs.Span.{vanish_sym, vanish-nil, vanish-cons, elem_sym, elem_distinct}
use Rattle.poly.specs.Values.{OnCoset}
use Rattle.poly.proofs.Values.{eval_x_exists, eval_x_unique}
use Rattle.poly.specs.Novel.{W, step, image, eval_x}
use Rattle.poly.proofs.Novel.{W-next, step_sym, get_or_sym}
use Rattle.poly.specs.Degree.{vanish_p, image_p, monomials, length_monomials, Novel, Below}

module _ {K : Ops} (F : IsField K) where
  infixl 60 ◌⊕◌
  infixl 70 ◌⊗◌
  open K use {◌⊕◌, ◌⊗◌, inv, Sym}

  pub vanish_p_sym : (bs : List ℕ) → All Sym bs → All Sym (vanish_p K bs)
  vanish_p_sym [] s = (F.sym_zero, (F.sym_one, tt))
  vanish_p_sym (b ∷ bs) s =
      let ih : All Sym (vanish_p K bs) = vanish_p_sym bs s.1 in
      mul_p_sym F (vanish_p K bs) (add_p K (vanish_p K bs) (vanish K bs b ∷ [])) ih (add_p_sym F (vanish_p K bs) (vanish K bs b ∷ []) ih (vanish_sym F bs b s.1 s.0, tt))

  identity_eval : (x : ℕ) → Sym x → 0 ⊕ x ⊗ (1 ⊕ x ⊗ 0) ≡ x
  identity_eval x s = simp (⊗_1 F x s, ring, F)

  constant_eval : (a x : ℕ) → a ⊕ x ⊗ 0 ≡ a
  constant_eval a x = simp (ring, F)

  pub eval-vanish_p : (bs : List ℕ) (x : ℕ) → Sym x → eval K (vanish_p K bs) x ≡ vanish K bs x
  eval-vanish_p [] x s = identity_eval x s ∙ sym (vanish-nil F x)
  eval-vanish_p (b ∷ bs) x s =
      eval-mul_p F (vanish_p K bs) (add_p K (vanish_p K bs) (vanish K bs b ∷ [])) x
      ∙ ap₂ ◌⊗◌ (eval-vanish_p bs x s) (eval-add_p F (vanish_p K bs) (vanish K bs b ∷ []) x ∙ ap₂ ◌⊕◌ (eval-vanish_p bs x s) (constant_eval (vanish K bs b) x))
      ∙ sym (vanish-cons F b bs x)

  pub image_p_sym : (bs : List ℕ) → All Sym bs → (j : ℕ) → All Sym (image_p K bs j)
  image_p_sym bs sb j = scale_p_sym F (inv (step K bs j)) (vanish_p K (take j bs)) (F.sym_inv (step_sym F bs sb j)) (vanish_p_sym (take j bs) (All-take Sym j bs sb))

  pub eval-image_p : (bs : List ℕ) (j x : ℕ) → Sym x → eval K (image_p K bs j) x ≡ image K bs j x
  eval-image_p bs j x s =
      eval-scale_p F (inv (step K bs j)) (vanish_p K (take j bs)) x ∙ ap (λ (t : ℕ). inv (step K bs j) ⊗ t) (eval-vanish_p (take j bs) x s)
      ∙ F.prod_comm (inv (step K bs j)) (W K bs j x)

  pub monomials_sym : (bs : List ℕ) → All Sym bs → (j : ℕ) (d : List ℕ) → All Sym d → All Sym (monomials K bs j d)
  monomials_sym bs sb zero d s = (get_or_sym F d 0 s, tt)
  monomials_sym bs sb (suc j) d s =
      add_p_sym F (monomials K bs j (take (2 ^ j) d)) (mul_p K (image_p K bs j) (monomials K bs j (drop (2 ^ j) d)))
      (monomials_sym bs sb j (take (2 ^ j) d) (All-take Sym (2 ^ j) d s))
      (mul_p_sym F (image_p K bs j) (monomials K bs j (drop (2 ^ j) d)) (image_p_sym bs sb j)
      (monomials_sym bs sb j (drop (2 ^ j) d) (All-drop Sym (2 ^ j) d s)))

  pub eval-monomials : (bs : List ℕ) (j : ℕ) (d : List ℕ) (x : ℕ) → Sym x → eval K (monomials K bs j d) x ≡ eval_x K bs j d x
  eval-monomials bs zero d x s = constant_eval (get_or d 0 0) x
  eval-monomials bs (suc j) d x s =
      eval-add_p F (monomials K bs j (take (2 ^ j) d)) (mul_p K (image_p K bs j) (monomials K bs j (drop (2 ^ j) d))) x
      ∙ ap₂ ◌⊕◌ (eval-monomials bs j (take (2 ^ j) d) x s)
      (eval-mul_p F (image_p K bs j) (monomials K bs j (drop (2 ^ j) d)) x ∙ ap₂ ◌⊗◌ (eval-image_p bs j x s) (eval-monomials bs j (drop (2 ^ j) d) x s))

  module _ (bs : List ℕ) (sb : All Sym bs) (ind : Independent K bs) where
    pub to_novel : (j : ℕ) → j ≤ length bs → (p : List ℕ) → length p ≡ 2 ^ j → All Sym p → Novel F bs sb ind j p
    to_novel j hj p e sp =
        record {
          coeffs = t.coeffs;
          count = t.count;
          elements = t.elements;
          values = λ x s. sym (eval-monomials bs j t.coeffs x s) ∙ ap (λ (q : List ℕ). eval K q x) same;
        }
      where
        point : ℕ → ℕ
        point i = 0 ⊕ elem K bs i

        sp_point : (i : ℕ) → Sym (point i)
        sp_point i = F.sym_sum F.sym_zero (elem_sym F bs i sb)

        t : OnCoset F bs sb (W-next F bs sb ind) j 0 (λ i. eval K p (point i))
        t = eval_x_exists F bs sb (W-next F bs sb ind) j hj 0 (λ i. eval K p (point i)) F.sym_zero (λ i h. eval_sym F p (point i) sp (sp_point i))

        wide : 2 ^ j ≤ 2 ^ length bs
        wide = pow_mono hj

        same : monomials K bs j t.coeffs ≡ p
        same =
            eval_unique F (2 ^ j) (monomials K bs j t.coeffs) p point (length_monomials K bs j t.coeffs hj) e (monomials_sym bs sb j t.coeffs t.elements) sp
            (λ i h. sp_point i)
            (λ i k hi hk q. elem_distinct F bs ind i k (omega (arith, wide)) (omega (arith, wide)) (sym (0_⊕ F (elem K bs i)) ∙ q ∙ 0_⊕ F (elem K bs k)))
            (λ i h. eval-monomials bs j t.coeffs (point i) (sp_point i) ∙ t.values i h)

  pub eval_x-zeros : (bs : List ℕ) (j : ℕ) (d : List ℕ) (x : ℕ) → All IsZero d → eval_x K bs j d x ≡ 0
  eval_x-zeros bs zero [] x z = refl
  eval_x-zeros bs zero (c ∷ d) x z = z.0
  eval_x-zeros bs (suc j) d x z =
      ap₂ (λ (u v : ℕ). u ⊕ image K bs j x ⊗ v) (eval_x-zeros bs j (take (2 ^ j) d) x (All-take IsZero (2 ^ j) d z)) (eval_x-zeros bs j (drop (2 ^ j) d) x (All-drop IsZero (2 ^ j) d z))
      ∙ constant_eval 0 (image K bs j x)

  -- Only the first 2 ^ m coefficients count
  pub eval_x_take : (bs : List ℕ) (m n : ℕ) (d : List ℕ) (x : ℕ) → 2 ^ m ≤ n → eval_x K bs m (take n d) x ≡ eval_x K bs m d x
  eval_x_take bs zero n d x h = get_or-take n d 0 0 h
  eval_x_take bs (suc m) n d x h =
      ap₂ (λ (u v : List ℕ). eval_x K bs m u x ⊕ image K bs m x ⊗ eval_x K bs m v x) (take-take (2 ^ m) n d (omega arith))
      (ap (λ (k : ℕ). drop (2 ^ m) (take k d)) {x = n} {y = 2 ^ m + (n - 2 ^ m)} (omega arith) ∙ drop-take (2 ^ m) (n - 2 ^ m) d)
      ∙ ap (λ (t : ℕ). eval_x K bs m (take (2 ^ m) d) x ⊕ image K bs m x ⊗ t) (eval_x_take bs m (n - 2 ^ m) (drop (2 ^ m) d) x (omega arith))

  -- Where the coefficients from 2 ^ m on are 0, the level m gives the same value
  pub eval_x-low : (bs : List ℕ) (m j : ℕ) → m ≤ j → (d : List ℕ) (x : ℕ) → All IsZero (drop (2 ^ m) d) → eval_x K bs j d x ≡ eval_x K bs m d x
  eval_x-low bs m j h d x z = le_ind (λ (j : ℕ). eval_x K bs j d x ≡ eval_x K bs m d x) refl step j h
    where
      step : (j : ℕ) → m ≤ j → eval_x K bs j d x ≡ eval_x K bs m d x → eval_x K bs (suc j) d x ≡ eval_x K bs m d x
      step j h ih =
          let wide : 2 ^ m ≤ 2 ^ j = pow_mono h in
          let rest : All IsZero (drop (2 ^ j) d) = All-drop_le IsZero (2 ^ m) (2 ^ j) d wide z in
          ap₂ (λ (u v : ℕ). u ⊕ image K bs j x ⊗ v) (eval_x_take bs j (2 ^ j) d x (omega arith)) (eval_x-zeros bs j (drop (2 ^ j) d) x rest)
          ∙ constant_eval (eval_x K bs j d x) (image K bs j x) ∙ ih

  module _ (bs : List ℕ) (sb : All Sym bs) (ind : Independent K bs) where
    pub below_of_zeros : (m j : ℕ) → m ≤ j → j ≤ length bs → (d : List ℕ) → All Sym d → All IsZero (drop (2 ^ m) d) → Below F bs sb ind m j d
    below_of_zeros m j hm hj d sd z =
        record {
          coeffs = monomials K bs m d;
          count = length_monomials K bs m d (omega arith);
          elements = monomials_sym bs sb m d sd;
          values = λ x s. eval-monomials bs m d x s ∙ sym (eval_x-low bs m j hm d x z);
        }

    pub zeros_of_below : (m j : ℕ) → m ≤ j → j ≤ length bs → (d : List ℕ) → length d ≡ 2 ^ j → All Sym d → Below F bs sb ind m j d → All IsZero (drop (2 ^ m) d)
    zeros_of_below m j hm hj d ld sd t = subst (λ (l : List ℕ). All IsZero (drop (2 ^ m) l)) (sym same) (subst⁻¹ (All IsZero) rest (All-replicate IsZero (2 ^ j - 2 ^ m) 0 refl))
      where
        n : Novel F bs sb ind m t.coeffs
        n = to_novel bs sb ind m (omega arith) t.coeffs t.count t.elements

        c : List ℕ
        c = n.coeffs

        zs : List ℕ
        zs = replicate (2 ^ j - 2 ^ m) 0

        rest : drop (2 ^ m) (c ++ zs) ≡ zs
        rest = drop_at c zs (2 ^ m) n.count

        wide : 2 ^ m ≤ 2 ^ j
        wide = pow_mono hm

        padded : (x : ℕ) → eval_x K bs j (c ++ zs) x ≡ eval_x K bs m c x
        padded x =
            eval_x-low bs m j hm (c ++ zs) x (subst⁻¹ (All IsZero) rest (All-replicate IsZero (2 ^ j - 2 ^ m) 0 refl))
            ∙ sym (eval_x_take bs m (2 ^ m) (c ++ zs) x (omega arith)) ∙ ap (λ (l : List ℕ). eval_x K bs m l x) (take_at c zs (2 ^ m) n.count)

        same : d ≡ c ++ zs
        same =
            eval_x_unique F bs sb (W-next F bs sb ind) j hj d (c ++ zs) 0 ld (omega (arith, length-append c zs, length-replicate {A = ℕ} (2 ^ j - 2 ^ m) 0, n.count, wide)) sd
            (All-append Sym c zs n.elements (All-replicate Sym (2 ^ j - 2 ^ m) 0 F.sym_zero)) F.sym_zero
            (λ i h. let x : ℕ = 0 ⊕ elem K bs i in
            let sx : Sym x = F.sym_sum F.sym_zero (elem_sym F bs i sb) in
            sym (t.values x sx) ∙ sym (n.values x sx) ∙ sym (padded x))

    -- A degree below 2 ^ m is zeros from coefficient 2 ^ m on
    pub degree_iff : (m j : ℕ) → m ≤ j → j ≤ length bs → (d : List ℕ) → length d ≡ 2 ^ j → All Sym d → Below F bs sb ind m j d ↔ All IsZero (drop (2 ^ m) d)
    degree_iff m j hm hj d ld sd = (zeros_of_below m j hm hj d ld sd, below_of_zeros m j hm hj d sd)
