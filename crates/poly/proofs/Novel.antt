-- Laws of the basis of Lin, Chung and Han: the recurrence of the subspace polynomials, their values on the span and its cosets, and that values are linear in the coefficients.
use Rattle.std.specs.Prelude.{◌≡◌, refl, ◌≢◌, ◌↔◌, List, [], ◌∷◌, map, ℕ, zero, suc, ◌+◌, ◌-◌, ◌^◌, ◌/◌, ◌%◌, ◌≤◌, ◌<◌, length, get_or, take, drop}
use Rattle.std.proofs.Common.{sym, ap, ap₂, ◌∙◌, subst, le_refl, arith, drop-cons, take-suc}
use Rattle.std.proofs.Math.Decide.{dec_lt}
use Rattle.std.proofs.Math.Seq.{split_at}
use Rattle.field.specs.Laws.{Ops, IsField, ring, sums, ⊕_assoc, ⊕_0, 0_⊕, ⊕-⊗, 0_⊗, ⊗_0, ⊕-zero}
use Rattle.lists.specs.All.{All, All-take, All-drop, All-at}
use Rattle.poly.specs.Poly.{add_p, scale_p, take_add_p, drop_add_p, take_scale_p, drop_scale_p}
use Rattle.poly.specs.Span.{elem, vanish, Independent, bit_of}
use Rattle.poly.proofs.Span.{vanish-sum, vanish-zero, vanish_sym, vanish_coset, vanish-elem, vanish-next, vanish_snoc, elem-cons, elem-zero, elem_map}
use Rattle.poly.specs.Novel.{W, step, image, eval_x}

module _ {K : Ops} (F : IsField K) where
  infixl 60 ◌⊕◌
  infixl 70 ◌⊗◌
  open K use {◌⊕◌, ◌⊗◌, inv, Sym}

  pub get_or_sym : (bs : List ℕ) (j : ℕ) → All Sym bs → Sym (get_or bs j 0)
  get_or_sym bs j s = All-at Sym bs 0 s F.sym_zero j

  -- The element past the first 2 ^ j adds basis element j
  pub elem-high : (bs : List ℕ) (j r : ℕ) → j < length bs → r < 2 ^ j → elem K bs (r + 2 ^ j) ≡ elem K bs r ⊕ get_or bs j 0
  elem-high [] j r hj hr = absurd (omega arith)
  elem-high (b ∷ bs) zero r hj hr =
      elem-cons F b bs (r + 1) 1 0 (omega arith) (omega arith) ∙ F.sum_comm b (elem K bs 0)
      ∙ ap (λ (t : ℕ). t ⊕ b) (sym (0_⊕ F (elem K bs 0))) ∙ ap (λ (t : ℕ). t ⊕ b) (sym (elem-cons F b bs r 0 0 (omega arith) (omega arith)))
  elem-high (b ∷ bs) (suc j) r hj hr =
      elem-cons F b bs (r + 2 ^ suc j) (r % 2) (r / 2 + 2 ^ j) (omega arith) (omega arith)
      ∙ ap (λ (t : ℕ). bit_of (r % 2) b ⊕ t) (elem-high bs j (r / 2) (omega arith) (omega arith))
      ∙ sym (⊕_assoc F (bit_of (r % 2) b) (elem K bs (r / 2)) (get_or bs j 0))

  -- The first 2 ^ j elements are those of the first j basis elements
  pub elem-low : (bs : List ℕ) (j r : ℕ) → r < 2 ^ j → elem K bs r ≡ elem K (take j bs) r
  elem-low bs zero r h = ap (elem K bs) {x = r} {y = 0} (omega arith) ∙ elem-zero F bs
  elem-low [] (suc j) r h = refl
  elem-low (b ∷ bs) (suc j) r h = ap (λ (t : ℕ). bit_of (r % 2) b ⊕ t) (elem-low bs j (r / 2) (omega arith))

  module _ (bs : List ℕ) where
    -- The recurrence of the subspace polynomials, as code computes it
    pub W_suc : (j x : ℕ) → j < length bs → W K bs (suc j) x ≡ W K bs j x ⊗ (W K bs j x ⊕ step K bs j)
    W_suc j x h = ap (λ (l : List ℕ). vanish K l x) (take-suc bs j 0 h) ∙ vanish_snoc F (take j bs) (get_or bs j 0) x

    -- W j is 0 at the elements r below 2 ^ j
    pub W-elem : (j r : ℕ) → r < 2 ^ j → W K bs j (elem K bs r) ≡ 0
    W-elem j r h = ap (W K bs j) (elem-low bs j r h) ∙ vanish-elem F (take j bs) r

    -- and constant on their cosets
    pub W_coset : (j s r : ℕ) → r < 2 ^ j → W K bs j (s ⊕ elem K bs r) ≡ W K bs j s
    W_coset j s r h = ap (λ (t : ℕ). W K bs j (s ⊕ t)) (elem-low bs j r h) ∙ vanish_coset F (take j bs) s r

    -- The normalised W j is additive
    pub image-sum : (j x y : ℕ) → image K bs j (x ⊕ y) ≡ image K bs j x ⊕ image K bs j y
    image-sum j x y = ap (λ (t : ℕ). t ⊗ inv (step K bs j)) (vanish-sum F (take j bs) x y) ∙ ⊕-⊗ F (W K bs j x) (W K bs j y) (inv (step K bs j))

    pub image-zero : (j : ℕ) → image K bs j 0 ≡ 0
    image-zero j = ap (λ (t : ℕ). t ⊗ inv (step K bs j)) (vanish-zero F (take j bs)) ∙ 0_⊗ F (inv (step K bs j))

    -- The images of a span are the span of the images
    pub elem-image : (j : ℕ) (cs : List ℕ) (i : ℕ) → elem K (map (image K bs j) cs) i ≡ image K bs j (elem K cs i)
    elem-image j cs i = elem_map F (image K bs j) (image-sum j) (image-zero j) cs i

    pub image-elem : (j r : ℕ) → r < 2 ^ j → image K bs j (elem K bs r) ≡ 0
    image-elem j r h = ap (λ (t : ℕ). t ⊗ inv (step K bs j)) (W-elem j r h) ∙ 0_⊗ F (inv (step K bs j))

    pub image_coset : (j s r : ℕ) → r < 2 ^ j → image K bs j (s ⊕ elem K bs r) ≡ image K bs j s
    image_coset j s r h = ap (λ (t : ℕ). t ⊗ inv (step K bs j)) (W_coset j s r h)

    -- The upper half of the points is the lower half of the coset of s + basis element j
    pub upper_point : (j s r : ℕ) → j < length bs → r < 2 ^ j → s ⊕ elem K bs (r + 2 ^ j) ≡ s ⊕ get_or bs j 0 ⊕ elem K bs r
    upper_point j s r hj hr = ap (λ (t : ℕ). s ⊕ t) (elem-high bs j r hj hr) ∙ rotate s (elem K bs r) (get_or bs j 0)
      where
        rotate : (a b c : ℕ) → a ⊕ (b ⊕ c) ≡ a ⊕ c ⊕ b
        rotate a b c = simp (sums, F)

    module _ (sb : All Sym bs) where
      pub W_sym : (j x : ℕ) → Sym x → Sym (W K bs j x)
      W_sym j x sx = vanish_sym F (take j bs) x (All-take Sym j bs sb) sx

      pub step_sym : (j : ℕ) → Sym (step K bs j)
      step_sym j = W_sym j (get_or bs j 0) (get_or_sym bs j sb)

      pub image_sym : (j x : ℕ) → Sym x → Sym (image K bs j x)
      image_sym j x sx = F.sym_prod (W_sym j x sx) (F.sym_inv (step_sym j))

      -- The normalised W j is 1 at basis element j
      pub image-next : (j : ℕ) → step K bs j ≢ 0 → image K bs j (get_or bs j 0) ≡ 1
      image-next j n = F.prod_inv (step K bs j) (step_sym j) n

      pub eval_x_sym : (j : ℕ) (d : List ℕ) (x : ℕ) → All Sym d → Sym x → Sym (eval_x K bs j d x)
      eval_x_sym zero d x sd sx = get_or_sym d 0 sd
      eval_x_sym (suc j) d x sd sx =
          F.sym_sum (eval_x_sym j (take (2 ^ j) d) x (All-take Sym (2 ^ j) d sd) sx)
          (F.sym_prod (image_sym j x sx) (eval_x_sym j (drop (2 ^ j) d) x (All-drop Sym (2 ^ j) d sd) sx))

      -- In an independent basis no step is 0
      pub W-next : Independent K bs → (j : ℕ) → j < length bs → step K bs j ≢ 0
      W-next ind j h =
          vanish-next F (take j bs) (get_or bs j 0) (drop (suc j) bs) (All-take Sym j bs sb) (subst (All Sym) (drop-cons bs j 0 h) (All-drop Sym j bs sb))
          (subst (Independent K) (split_at bs j 0 h) ind)

    -- Where basis element j is no root of W j, it is not among the elements r below 2 ^ j
    high_nonzero : (j r : ℕ) → j < length bs → r < 2 ^ j → step K bs j ≢ 0 → elem K bs (r + 2 ^ j) ≢ 0
    high_nonzero j r hj hr n e = n (ap (W K bs j) (sym (⊕-zero F (elem K bs r) (get_or bs j 0) (sym (elem-high bs j r hj hr) ∙ e))) ∙ W-elem j r hr)

    low_independent : ((j : ℕ) → j < length bs → step K bs j ≢ 0) → (j : ℕ) → j ≤ length bs → (i : ℕ) → i < 2 ^ j → elem K bs i ≡ 0 → i ≡ 0
    low_independent nz zero hj i hi e = omega arith
    low_independent nz (suc j) hj i hi e = by (dec_lt i (2 ^ j)) (λ l. low_independent nz j (omega arith) i l e)
      where
        by : Dec (i < 2 ^ j) → (i < 2 ^ j → i ≡ 0) → i ≡ 0
        by (yes l) ih = ih l
        by (no m) ih =
            let same : i ≡ i - 2 ^ j + 2 ^ j = omega arith in
            absurd (high_nonzero j (i - 2 ^ j) hj (omega arith) (nz j hj) (ap (elem K bs) (sym same) ∙ e))

    -- A basis is dependent exactly when a step is 0
    pub independent_iff : All Sym bs → Independent K bs ↔ ((j : ℕ) → j < length bs → step K bs j ≢ 0)
    independent_iff sb = (W-next sb, λ nz. low_independent nz (length bs) (le_refl (length bs)))

    head-add_p : (d e : List ℕ) → get_or (add_p K d e) 0 0 ≡ get_or d 0 0 ⊕ get_or e 0 0
    head-add_p [] e = sym (0_⊕ F (get_or e 0 0))
    head-add_p (c ∷ d) [] = sym (⊕_0 F c)
    head-add_p (c ∷ d) (b ∷ e) = refl

    lin_step : (a b c d w : ℕ) → a ⊕ b ⊕ w ⊗ (c ⊕ d) ≡ a ⊕ w ⊗ c ⊕ (b ⊕ w ⊗ d)
    lin_step a b c d w = simp (ring, F)

    -- The value is linear in the coefficients
    pub eval_x-add_p : (j : ℕ) (d e : List ℕ) (x : ℕ) → eval_x K bs j (add_p K d e) x ≡ eval_x K bs j d x ⊕ eval_x K bs j e x
    eval_x-add_p zero d e x = head-add_p d e
    eval_x-add_p (suc j) d e x =
        ap₂ (λ (u v : List ℕ). eval_x K bs j u x ⊕ image K bs j x ⊗ eval_x K bs j v x) (take_add_p K (2 ^ j) d e) (drop_add_p K (2 ^ j) d e)
        ∙ ap₂ (λ (u v : ℕ). u ⊕ image K bs j x ⊗ v) (eval_x-add_p j (take (2 ^ j) d) (take (2 ^ j) e) x) (eval_x-add_p j (drop (2 ^ j) d) (drop (2 ^ j) e) x)
        ∙ lin_step _ _ _ _ (image K bs j x)

    head-scale_p : (a : ℕ) (d : List ℕ) → get_or (scale_p K a d) 0 0 ≡ a ⊗ get_or d 0 0
    head-scale_p a [] = sym (⊗_0 F a)
    head-scale_p a (c ∷ d) = refl

    mult_step : (a b c w : ℕ) → a ⊗ b ⊕ w ⊗ (a ⊗ c) ≡ a ⊗ (b ⊕ w ⊗ c)
    mult_step a b c w = simp (ring, F)

    pub eval_x-scale_p : (j a : ℕ) (d : List ℕ) (x : ℕ) → eval_x K bs j (scale_p K a d) x ≡ a ⊗ eval_x K bs j d x
    eval_x-scale_p zero a d x = head-scale_p a d
    eval_x-scale_p (suc j) a d x =
        ap₂ (λ (u v : List ℕ). eval_x K bs j u x ⊕ image K bs j x ⊗ eval_x K bs j v x) (take_scale_p K a (2 ^ j) d) (drop_scale_p K a (2 ^ j) d)
        ∙ ap₂ (λ (u v : ℕ). u ⊕ image K bs j x ⊗ v) (eval_x-scale_p j a (take (2 ^ j) d) x) (eval_x-scale_p j a (drop (2 ^ j) d) x)
        ∙ mult_step a _ _ (image K bs j x)
