-- Q(x, q(x)) coefficient by coefficient, and not only at the symbols: for the digits of P it is P, and no other digits of degree below 2^h in
-- x give P, however many they are.
use Rattle.std.specs.Prelude.{◌≡◌, refl, List, [], ◌∷◌, ◌++◌, ℕ, zero, suc, ◌^◌, ◌-◌, ◌≤◌, length, get_or}
use Rattle.std.proofs.Common.{sym, ap, ap₂, ◌∙◌, subst, arith}
use Rattle.std.proofs.Math.ListN.{get_or-eq_default}
use Rattle.lists.specs.All.{All, IsZero, All-at}
use Rattle.lists.specs.Tables.{tab_ext}
use Rattle.field.specs.Laws.{Ops, IsField, combine, ring, sums, ⊕-zero, 0_⊕, ⊕_0, ⊗_1}
use Rattle.poly.specs.Poly.{add_p, mul_p}
use Rattle.poly.proofs.Poly.{add_p_sym}
use Rattle.poly.specs.Coefficients.{low_zeros}
use Rattle.poly.proofs.Coefficients.{coeff-add_p, coeff-mul_p, mul_p-zeros}
use Rattle.poly.specs.Codeword.{Basis}
use Rattle.poly.proofs.Codeword.{decode_unique}
use Rattle.poly.specs.Span.{elem}
use Rattle.proximity.specs.Dim.{half}
use Rattle.proximity.specs.Bivariate.{q_coeffs, bivariate}
use Rattle.proximity.specs.TwoVariables.{Digits, compose, compose_sym, length-snoc}
use Rattle.proximity.specs.Proposition.{elem-field, q_coeffs_sym, length_q_coeffs, length_bivariate, bivariate-digits, eval-bivariate, length_univariate, univariate_sym, eval-univariate}

-- The coefficients of x^j y^i are the same; past the end they are 0
abbrev pub SameCoefficients : List (List ℕ) → List (List ℕ) → Type 0
SameCoefficients Q R = (i j : ℕ) → get_or (get_or Q i []) j 0 ≡ get_or (get_or R i []) j 0

same-cons : (s t : List ℕ) (Q R : List (List ℕ)) → ((j : ℕ) → get_or s j 0 ≡ get_or t j 0) → SameCoefficients Q R → SameCoefficients (s ∷ Q) (t ∷ R)
same-cons s t Q R h e zero j = h j
same-cons s t Q R h e (suc i) j = e i j

same-longer : (s : List ℕ) (Q : List (List ℕ)) → ((j : ℕ) → get_or s j 0 ≡ 0) → SameCoefficients Q [] → SameCoefficients (s ∷ Q) []
same-longer s Q h e zero j = h j
same-longer s Q h e (suc i) j = e i j

-- The highest coefficient of a monic polynomial
highest : (q : List ℕ) → get_or (q ++ (1 ∷ [])) (length q) 0 ≡ 1
highest [] = refl
highest (c ∷ q) = highest q

-- x p is 0 where p is
shift_zero : (p : List ℕ) → ((i : ℕ) → get_or p i 0 ≡ 0) → (i : ℕ) → get_or (0 ∷ p) i 0 ≡ 0
shift_zero p z zero = refl
shift_zero p z (suc i) = z i

module _ {K : Ops} (F : IsField K) where
  infixl 60 ◌⊕◌
  infixl 70 ◌⊗◌
  open K use {◌⊕◌, ◌⊗◌, Sym}

  -- ---- products

  shift_sum : (p a b : List ℕ) → ((i : ℕ) → get_or p i 0 ≡ get_or a i 0 ⊕ get_or b i 0) → (i : ℕ) → get_or (0 ∷ p) i 0 ≡ get_or (0 ∷ a) i 0 ⊕ get_or (0 ∷ b) i 0
  shift_sum p a b e zero = sym (0_⊕ F 0)
  shift_sum p a b e (suc i) = e i

  sum_step : (c d y u v w : ℕ) → w ≡ u ⊕ v → (c ⊕ d) ⊗ y ⊕ w ≡ c ⊗ y ⊕ u ⊕ (d ⊗ y ⊕ v)
  sum_step c d y u v w e = simp (e, ring, F)

  mul_sum : (a b q : List ℕ) (i : ℕ) → get_or (mul_p K (add_p K a b) q) i 0 ≡ get_or (mul_p K a q) i 0 ⊕ get_or (mul_p K b q) i 0
  mul_sum [] b q i = sym (0_⊕ F (get_or (mul_p K b q) i 0))
  mul_sum (c ∷ a) [] q i = sym (⊕_0 F (get_or (mul_p K (c ∷ a) q) i 0))
  mul_sum (c ∷ a) (d ∷ b) q i =
      coeff-mul_p F (c ⊕ d) (add_p K a b) q i
      ∙ sum_step c d (get_or q i 0) _ _ _ (shift_sum (mul_p K (add_p K a b) q) (mul_p K a q) (mul_p K b q) (mul_sum a b q) i)
      ∙ sym (ap₂ ◌⊕◌ (coeff-mul_p F c a q i) (coeff-mul_p F d b q i))

  -- ---- quotient and remainder by a monic polynomial of degree m = length q

  past-step : (c y u : ℕ) → y ≡ 0 → c ⊗ y ⊕ u ≡ 0 → u ≡ 0
  past-step c y u h e = combine F e (simp (h, ring, F))

  head_step : (c y u : ℕ) → Sym c → y ≡ 1 → u ≡ 0 → c ⊗ y ⊕ u ≡ 0 → c ≡ 0
  head_step c y u s hy hu e = sym (ap₂ (λ (v w : ℕ). c ⊗ v ⊕ w) hy hu ∙ ⊕_0 F (c ⊗ 1) ∙ ⊗_1 F c s) ∙ e

  -- A multiple of degree below m is 0
  low_multiple : (q p : List ℕ) → All Sym p → ((i : ℕ) → length q ≤ i → get_or (mul_p K p (q ++ (1 ∷ []))) i 0 ≡ 0) → All IsZero p
  low_multiple q [] s z = tt
  low_multiple q (c ∷ p) s z =
      let t : All IsZero p =
      low_multiple q p s.1
      (λ i h. past-step c _ _ (get_or-eq_default (q ++ (1 ∷ [])) 0 {n = suc i} (omega (arith, length-snoc q 1))) (sym (coeff-mul_p F c p (q ++ (1 ∷ [])) (suc i)) ∙ z (suc i) (omega arith)))
      in (head_step c _ _ s.0 (highest q) (shift_zero (mul_p K p (q ++ (1 ∷ []))) (λ i. mul_p-zeros F p (q ++ (1 ∷ [])) (low_zeros p t) i (omega arith)) (length q)) (sym (coeff-mul_p F c p (q ++ (1 ∷ [])) (length q)) ∙ z (length q) (omega arith)), t)

  high-step : (s t a b : ℕ) → s ≡ 0 → t ≡ 0 → s ⊕ a ≡ t ⊕ b → a ⊕ b ≡ 0
  high-step s t a b hs ht e = combine F e (simp (hs, ht, sums, F))

  rest-step : (s t a b : ℕ) → a ⊕ b ≡ 0 → s ⊕ a ≡ t ⊕ b → s ≡ t
  rest-step s t a b h e = combine F e (combine F h (simp (sums, F)))

  module _ (q s t a b : List ℕ) (ls : length s ≤ length q) (lt : length t ≤ length q) (sa : All Sym a) (sb : All Sym b)
      (e : (i : ℕ) → get_or (add_p K s (mul_p K a (q ++ (1 ∷ [])))) i 0 ≡ get_or (add_p K t (mul_p K b (q ++ (1 ∷ [])))) i 0) where
    split : (i : ℕ) → get_or s i 0 ⊕ get_or (mul_p K a (q ++ (1 ∷ []))) i 0 ≡ get_or t i 0 ⊕ get_or (mul_p K b (q ++ (1 ∷ []))) i 0
    split i = sym (coeff-add_p F s (mul_p K a (q ++ (1 ∷ []))) i) ∙ e i ∙ coeff-add_p F t (mul_p K b (q ++ (1 ∷ []))) i

    difference : All IsZero (add_p K a b)
    difference =
        low_multiple q (add_p K a b) (add_p_sym F a b sa sb)
        (λ i h. mul_sum a b (q ++ (1 ∷ [])) i ∙ high-step _ _ _ _ (get_or-eq_default s 0 {n = i} (omega arith)) (get_or-eq_default t 0 {n = i} (omega arith)) (split i))

    one_quotient : (i : ℕ) → get_or a i 0 ≡ get_or b i 0
    one_quotient i = ⊕-zero F _ _ (sym (coeff-add_p F a b i) ∙ All-at IsZero (add_p K a b) 0 difference refl i)

    one_remainder : (i : ℕ) → get_or s i 0 ≡ get_or t i 0
    one_remainder i = rest-step _ _ _ _ (sym (mul_sum a b (q ++ (1 ∷ [])) i) ∙ mul_p-zeros F (add_p K a b) (q ++ (1 ∷ [])) (low_zeros (add_p K a b) difference) i (omega arith)) (split i)

  -- ---- digits

  module _ (q : List ℕ) (sq : All Sym q) where
    -- Digits of m coefficients with the same Q(x, q(x)) are the same
    pub digits_unique : (Q R : List (List ℕ)) → Digits Sym (length q) Q → Digits Sym (length q) R → ((i : ℕ) → get_or (compose K q Q) i 0 ≡ get_or (compose K q R) i 0) → SameCoefficients Q R
    digits_unique [] [] g h e = λ i j. refl
    digits_unique (s ∷ Q) [] g h e =
        let sQ = compose_sym F q (length q) Q sq g.2 in
        same-longer s Q (one_remainder q s [] (compose K q Q) [] (omega (arith, g.0)) (omega arith) sQ tt e)
        (digits_unique Q [] g.2 tt (one_quotient q s [] (compose K q Q) [] (omega (arith, g.0)) (omega arith) sQ tt e))
    digits_unique [] (t ∷ R) g h e =
        let sR = compose_sym F q (length q) R sq h.2 in
        λ i j. sym (same-longer t R (one_remainder q t [] (compose K q R) [] (omega (arith, h.0)) (omega arith) sR tt (λ i. sym (e i)))
        (λ i j. sym (digits_unique [] R tt h.2 (λ i. sym (one_quotient q t [] (compose K q R) [] (omega (arith, h.0)) (omega arith) sR tt (λ i. sym (e i)) i)) i j)) i j)
    digits_unique (s ∷ Q) (t ∷ R) g h e =
        let sQ = compose_sym F q (length q) Q sq g.2 in
        let sR = compose_sym F q (length q) R sq h.2 in
        same-cons s t Q R (one_remainder q s t (compose K q Q) (compose K q R) (omega (arith, g.0)) (omega (arith, h.0)) sQ sR e)
        (digits_unique Q R g.2 h.2 (one_quotient q s t (compose K q Q) (compose K q R) (omega (arith, g.0)) (omega (arith, h.0)) sQ sR e))

module _ {K : Ops} (F : IsField K) (k : ℕ) (b : List ℕ) (s : 7 ≤ k) (B : Basis K k b) (P : List ℕ) (lP : length P ≡ 2 ^ (k - 3)) (sP : All K.Sym P) where
  open K use {Sym}

  -- P(x) = Q(x, q(x)) as polynomials
  pub formal : compose K (q_coeffs K k b) (bivariate K k b P) ≡ P
  formal =
      let l = length_bivariate F k b s B P in
      let g = bivariate-digits F k b s B P sP in
      decode_unique F k b B (compose K (q_coeffs K k b) (bivariate K k b P)) P
      (length_univariate F k b s B (bivariate K k b P) l g) lP (univariate_sym F k b s B (bivariate K k b P) l g) sP
      (tab_ext (2 ^ k) _ _
      (λ i h. eval-univariate F k b s B (bivariate K k b P) l g (elem K b i) (elem-field F k b s B i) ∙ sym (eval-bivariate F k b s B P lP sP (elem K b i) (elem-field F k b s B i))))

  -- and of no other Q of degree below 2^h in x, whatever its degree in y
  pub bivariate-alone : (Q : List (List ℕ)) → Digits Sym (2 ^ half k) Q → ((i : ℕ) → get_or (compose K (q_coeffs K k b) Q) i 0 ≡ get_or P i 0) → SameCoefficients Q (bivariate K k b P)
  bivariate-alone Q g e =
      digits_unique F (q_coeffs K k b) (q_coeffs_sym F k b s B) Q (bivariate K k b P) (sized Q g) (sized (bivariate K k b P) (bivariate-digits F k b s B P sP))
      (λ i. e i ∙ ap (λ (p : List ℕ). get_or p i 0) (sym formal))
    where
      sized : (R : List (List ℕ)) → Digits Sym (2 ^ half k) R → Digits Sym (length (q_coeffs K k b)) R
      sized R = subst (λ (m : ℕ). Digits Sym m R) (sym (length_q_coeffs F k b s B))
