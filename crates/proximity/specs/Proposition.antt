-- Proposition 6.2 of document 000: Q(x, y) with P(x) = Q(x, q(x)), degree in x below 2^h and in y below 2^(c-3), exists and is the only one.
use Rattle.std.specs.Prelude.{◌≡◌, List, length, take}
use Rattle.std.proofs.Common.{sym, ap₂, ◌∙◌, subst, arith, length-take-le, pow-add, pow_mono}
use Rattle.std.proofs.Math.Path.{ap}
use Prim.Native.Nat.{ℕ, suc, ◌+◌, ◌*◌, ◌^◌, ◌-◌, ◌≤◌, ◌<◌}
use Rattle.std.proofs.Math.Pow.{pow_pos}
use Rattle.lists.specs.All.{All, All-take}
use Rattle.field.specs.Laws.{Ops, IsField}
use Rattle.poly.specs.Poly.{Distinct, eval}
use Rattle.poly.proofs.Unique.{eval_unique}
use Rattle.poly.specs.Span.{elem, vanish, product_to}
use Rattle.poly.proofs.Span.{elem_sym}
use Rattle.poly.specs.Codeword.{Basis}
use Rattle.poly.proofs.Codeword.{basis_distinct}
use Rattle.proximity.specs.Dim.{half, col_dim}
use Rattle.proximity.specs.Spaces.{q, col_basis}
use Rattle.proximity.specs.Bivariate.{at_x, at_y, eval2, wide, monic, q_coeffs, bivariate}
use Rattle.proximity.specs.Proof.{height_of}
use Rattle.proximity.specs.Subspaces.{pow_rows, block-lt, col_basis_lem, col_elem, q_coset, inside}
use Rattle.proximity.specs.TwoVariables.{Digits, eval_monic, compose, length_monic, monic_sym, eval-monic, length_compose, compose_sym, eval-compose, length_at_x, length_at_y, at_x_sym, at_y_sym, eval-at_y, digits_ext}
use Rattle.proximity.specs.BaseDigits.{length_digits, digits-digits, eval-digits}

pub pow_coeffs : (k : ℕ) → 7 ≤ k → 2 ^ (k - 3) ≡ wide k * 2 ^ half k
pow_coeffs k s = ap (λ (t : ℕ). 2 ^ t) {x = k - 3} {y = (col_dim k - 3) + half k} (omega arith) ∙ pow-add 2 (col_dim k - 3) (half k)

module _ {K : Ops} (F : IsField K) (k : ℕ) (b : List ℕ) (s : 7 ≤ k) (B : Basis K k b) where
  open K use {Sym}

  pub elem-field : (i : ℕ) → Sym (elem K b i)
  elem-field i = elem_sym F b i B.elements

  pub height_sym : (r : ℕ) → Sym (height_of K k b r)
  height_sym r = subst Sym (col_elem F k b s B r) (elem_sym F (col_basis K k b) r (col_basis_lem F k b s B).elements)

  height_distinct : Distinct (2 ^ col_dim k) (height_of K k b)
  height_distinct i j hi hj e =
      basis_distinct F (col_dim k) (col_basis K k b) (col_basis_lem F k b s B) i j hi hj (col_elem F k b s B i ∙ e ∙ sym (col_elem F k b s B j))

  wide-le : wide k ≤ 2 ^ col_dim k
  wide-le = pow_mono (omega arith)

  -- Two columns that agree in every row are equal
  pub same-column : (p q : List ℕ) → length p ≡ wide k → length q ≡ wide k → All Sym p → All Sym q
      → ((i : ℕ) → i < 2 ^ col_dim k → eval K p (height_of K k b i) ≡ eval K q (height_of K k b i)) → p ≡ q
  same-column p q ep eq sp sq e =
      eval_unique F (wide k) p q (height_of K k b) ep eq sp sq (λ i h. height_sym i)
      (λ i j hi hj. height_distinct i j (omega (arith, wide-le)) (omega (arith, wide-le))) (λ i h. e i (omega (arith, wide-le)))

  block_distinct : (r : ℕ) → r < 2 ^ col_dim k → Distinct (2 ^ half k) (λ j. elem K b (r * 2 ^ half k + j))
  block_distinct r hr i j hi hj e =
      let z : r * 2 ^ half k + i ≡ r * 2 ^ half k + j = basis_distinct F k b B _ _ (omega (arith, pow_rows k, block-lt {r = r} {j = i} hr hi)) (omega (arith, pow_rows k, block-lt {r = r} {j = j} hr hj)) e in
      omega arith

  -- Two rows that agree on a coset of the span of the first half are equal
  pub same_row : (r : ℕ) → r < 2 ^ col_dim k → (p q : List ℕ) → length p ≡ 2 ^ half k → length q ≡ 2 ^ half k → All Sym p → All Sym q
      → ((j : ℕ) → j < 2 ^ half k → eval K p (elem K b (r * 2 ^ half k + j)) ≡ eval K q (elem K b (r * 2 ^ half k + j))) → p ≡ q
  same_row r hr p q ep eq sp sq e =
      eval_unique F (2 ^ half k) p q (λ j. elem K b (r * 2 ^ half k + j)) ep eq sp sq (λ i h. elem-field (r * 2 ^ half k + i)) (block_distinct r hr) e

  -- Proposition 6.2, uniqueness: the values Q(x, q(x)) on L determine Q
  pub bivariate_unique : (Q R : List (List ℕ)) → length Q ≡ wide k → length R ≡ wide k → Digits Sym (2 ^ half k) Q → Digits Sym (2 ^ half k) R
      → ((i : ℕ) → i < 2 ^ k → eval2 K Q (elem K b i) (q K k b (elem K b i)) ≡ eval2 K R (elem K b i) (q K k b (elem K b i))) → Q ≡ R
  bivariate_unique Q R lQ lR g_q gR e =
      digits_ext F (2 ^ half k) (elem K b) (λ i h. elem-field i)
      (λ i j hi hj. basis_distinct F k b B i j (omega (arith, low-le)) (omega (arith, low-le))) Q R g_q gR (lQ ∙ sym lR) (λ i h. columns (elem K b i) (elem-field i))
    where
      low-le : 2 ^ half k ≤ 2 ^ k
      low-le = pow_mono (omega arith)

      value : (r j : ℕ) → r < 2 ^ col_dim k → j < 2 ^ half k → eval2 K Q (elem K b (r * 2 ^ half k + j)) (height_of K k b r) ≡ eval2 K R (elem K b (r * 2 ^ half k + j)) (height_of K k b r)
      value r j hr hj =
          subst (λ (y : ℕ). eval2 K Q (elem K b (r * 2 ^ half k + j)) y ≡ eval2 K R (elem K b (r * 2 ^ half k + j)) y) (q_coset F k b s B r j hj)
          (e (r * 2 ^ half k + j) (omega (arith, pow_rows k, block-lt {r = r} {j = j} hr hj)))

      rows : (r : ℕ) → r < 2 ^ col_dim k → at_y K (2 ^ half k) Q (height_of K k b r) ≡ at_y K (2 ^ half k) R (height_of K k b r)
      rows r hr =
          same_row r hr _ _ (length_at_y K (2 ^ half k) Q _ g_q) (length_at_y K (2 ^ half k) R _ gR) (at_y_sym F (2 ^ half k) Q _ g_q (height_sym r)) (at_y_sym F (2 ^ half k) R _ gR (height_sym r))
          (λ j hj. eval-at_y F (2 ^ half k) Q _ _ ∙ value r j hr hj ∙ sym (eval-at_y F (2 ^ half k) R _ _))

      columns : (x : ℕ) → Sym x → at_x K Q x ≡ at_x K R x
      columns x sx =
          same-column (at_x K Q x) (at_x K R x) (length_at_x K Q x ∙ lQ) (length_at_x K R x ∙ lR) (at_x_sym F (2 ^ half k) Q x g_q sx) (at_x_sym F (2 ^ half k) R x gR sx)
          (λ i h. sym (eval-at_y F (2 ^ half k) Q x _) ∙ ap (λ (p : List ℕ). eval K p x) (rows i h) ∙ eval-at_y F (2 ^ half k) R x _)

  length_half : length (take (half k) b) ≡ half k
  length_half = length-take-le (half k) b (inside F k b s B (half k) (omega arith))

  pub q_coeffs_sym : All Sym (q_coeffs K k b)
  q_coeffs_sym = monic_sym F (2 ^ half k) (elem K (take (half k) b)) (λ i h. elem_sym F (take (half k) b) i (All-take Sym (half k) b B.elements))

  pub length_q_coeffs : length (q_coeffs K k b) ≡ 2 ^ half k
  length_q_coeffs = length_monic K (2 ^ half k) (elem K (take (half k) b))

  span_sym : (i : ℕ) → Sym (elem K (take (half k) b) i)
  span_sym i = elem_sym F (take (half k) b) i (All-take Sym (half k) b B.elements)

  -- The coefficients are those of q
  pub eval-q_coeffs : (x : ℕ) → Sym x → eval_monic K (q_coeffs K k b) x ≡ q K k b x
  unfolding vanish
  eval-q_coeffs x sx =
      ap (λ (n : ℕ). eval_monic K (monic K n (elem K (take (half k) b))) x) {x = 2 ^ half k} {y = suc (2 ^ half k - 1)} (omega (arith, pow_pos (half k)))
      ∙ eval-monic F (2 ^ half k - 1) (elem K (take (half k) b)) x (span_sym 0) sx
      ∙ ap (λ (t : ℕ). product_to K (2 ^ t - 1) (λ i. K.◌⊕◌ x (elem K (take (half k) b) i))) (sym length_half)

  -- ---- Proposition 6.2, existence: the digits of P

  pub bivariate-digits : (P : List ℕ) → All Sym P → Digits Sym (2 ^ half k) (bivariate K k b P)
  bivariate-digits P sP = subst (λ (m : ℕ). Digits Sym m (bivariate K k b P)) length_q_coeffs (digits-digits F (q_coeffs K k b) (wide k) P q_coeffs_sym sP)

  pub length_bivariate : (P : List ℕ) → length (bivariate K k b P) ≡ wide k
  length_bivariate P = length_digits K (q_coeffs K k b) (wide k) P

  -- P(x) = Q(x, q(x))
  pub eval-bivariate : (P : List ℕ) → length P ≡ 2 ^ (k - 3) → All Sym P → (x : ℕ) → Sym x → eval K P x ≡ eval2 K (bivariate K k b P) x (q K k b x)
  eval-bivariate P e sP x sx =
      eval-digits F (q_coeffs K k b) (wide k) P x q_coeffs_sym sP (omega (arith, pow_coeffs k s, ap (λ (m : ℕ). wide k * m) length_q_coeffs))
      ∙ ap (eval2 K (bivariate K k b P) x) (eval-q_coeffs x sx)

  -- Q has degree below 2^h in x and below 2^(c-3) in y, and P(x) = Q(x, q(x))
  pub record Splits (P : List ℕ) (Q : List (List ℕ)) : Type 0 where
    pub below-x : Digits Sym (2 ^ half k) Q
    pub below-y : length Q ≡ wide k
    pub values : (x : ℕ) → Sym x → eval K P x ≡ eval2 K Q x (q K k b x)

  -- The digits of P are such a Q, and there is no other
  pub proposition : (P : List ℕ) → length P ≡ 2 ^ (k - 3) → All Sym P → Splits P (bivariate K k b P) × ((Q : List (List ℕ)) → Splits P Q → Q ≡ bivariate K k b P)
  proposition P e sP = (
    record { below-x = bivariate-digits P sP; below-y = length_bivariate P; values = eval-bivariate P e sP },
    λ Q H.
        bivariate_unique Q (bivariate K k b P) H.below-y (length_bivariate P) H.below-x (bivariate-digits P sP)
        (λ i h. sym (H.values (elem K b i) (elem-field i)) ∙ eval-bivariate P e sP (elem K b i) (elem-field i)),
  )

  -- ---- from Q back to P

  module _ (Q : List (List ℕ)) (l : length Q ≡ wide k) (g : Digits Sym (2 ^ half k) Q) where
    abbrev pub univariate : List ℕ
    univariate = compose K (q_coeffs K k b) Q

    pub length_univariate : length univariate ≡ 2 ^ (k - 3)
    length_univariate =
        length_compose K (q_coeffs K k b) Q (omega (arith, length_q_coeffs, pow_pos (half k))) (subst (λ (m : ℕ). Digits Sym m Q) (sym length_q_coeffs) g) ∙ ap₂ ◌*◌ l length_q_coeffs ∙ sym (pow_coeffs k s)

    pub univariate_sym : All Sym univariate
    univariate_sym = compose_sym F (q_coeffs K k b) (2 ^ half k) Q q_coeffs_sym g

    pub eval-univariate : (x : ℕ) → Sym x → eval K univariate x ≡ eval2 K Q x (q K k b x)
    eval-univariate x sx = eval-compose F (q_coeffs K k b) Q x ∙ ap (eval2 K Q x) (eval-q_coeffs x sx)

    pub bivariate-univariate : bivariate K k b univariate ≡ Q
    bivariate-univariate =
        bivariate_unique (bivariate K k b univariate) Q (length_bivariate univariate) l (bivariate-digits univariate univariate_sym) g
        (λ i h. sym (eval-bivariate univariate length_univariate univariate_sym (elem K b i) (elem-field i)) ∙ eval-univariate (elem K b i) (elem-field i))
