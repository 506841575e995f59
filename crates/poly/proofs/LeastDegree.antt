-- There is at most one least degree, and each word of symbols that is no codeword has one, an eighth of the length at least. Assumes nothing.
use Rattle.std.specs.Prelude.{◌≡◌, ◌⊎◌, ◌↔◌, List, [], ◌++◌, ℕ, suc, ◌^◌, ◌-◌, ◌≤◌, ◌<◌, length, get_or, take, replicate}
use Rattle.std.proofs.Common.{sym, ap, ◌∙◌, subst, inl, inr, arith, length-append, pow_mono, length-take-le}
use Rattle.std.proofs.Math.Decide.{dec_le}
use Rattle.std.proofs.lemmas.List.{length-replicate}
use Rattle.lists.specs.All.{All, All-take, All-append, All-replicate}
use Rattle.lists.specs.Tables.{tab_ext, tab_of, get_or_tab, All-tab}
use Rattle.field.specs.Laws.{Ops, IsField}
use Rattle.poly.specs.Poly.{eval}
use Rattle.poly.proofs.Poly.{eval_sym}
use Rattle.poly.specs.Coefficients.{coeff, Low, low_length, coeff_append_zeros}
use Rattle.poly.proofs.Coefficients.{coeff_unique, eval-coeff, eval-low}
use Rattle.poly.specs.Span.{elem}
use Rattle.poly.proofs.Span.{elem_sym}
use Rattle.poly.specs.Interpolate.{Through}
use Rattle.poly.proofs.Interpolate.{interpolate}
use Rattle.poly.proofs.Novel.{get_or_sym}
use Rattle.poly.specs.Codeword.{Basis, word_of, Codeword}
use Rattle.poly.proofs.Codeword.{basis_distinct}
use Rattle.poly.specs.Shift.{word_at, shift_p, length_shift_p}
use Rattle.poly.proofs.Shift.{shift_p_sym, word_shift, word_unshift}
use Rattle.poly.specs.LeastDegree.{LeastDegree, Degree, degree-fits, degree_of}

-- there is at most one
pub least_unique : {K : Ops} {word : List ℕ → List ℕ} {v : List ℕ} {g h : ℕ} → LeastDegree K word v g → LeastDegree K word v h → g ≡ h
least_unique G H =
    omega (arith, G.least H.coeffs H.elements H.values, H.least G.coeffs G.elements G.values, G.count, H.count)

-- ---- the words of a space

module _ {K : Ops} (F : IsField K) (m : ℕ) (b : List ℕ) where
  open K use {Sym}

  -- the least degree is the same at each shift
  pub least_shift : (σ : ℕ) → Sym σ → (v : List ℕ) (g : ℕ) → LeastDegree K (word_of K m b) v g ↔ LeastDegree K (word_at K σ m b) v g
  least_shift σ sσ v g = (
    (λ L. moved (word_of K m b) (word_at K σ m b) (word_unshift F σ m b) (word_shift F σ m b) L),
    λ L. moved (word_at K σ m b) (word_of K m b) (word_shift F σ m b) (word_unshift F σ m b) L,
  )
    where
      -- two ways to make words, each of which has for p the word that the other has for P(x + σ)
      moved : (one other : List ℕ → List ℕ) → ((p : List ℕ) → one p ≡ other (shift_p K σ p)) → ((p : List ℕ) → other p ≡ one (shift_p K σ p)) → LeastDegree K one v g → LeastDegree K other v g
      moved one other there back L =
          record {
            coeffs = shift_p K σ L.coeffs;
            count = length_shift_p K σ L.coeffs ∙ L.count;
            elements = shift_p_sym F σ L.coeffs sσ L.elements;
            values = L.values ∙ there L.coeffs;
            least = λ p sp e. subst (λ (n : ℕ). g < n) (length_shift_p K σ p) (L.least (shift_p K σ p) (shift_p_sym F σ p sσ sp) (e ∙ back p));
          }

  module _ (B : Basis K m b) where
    eighth : 2 ^ (m - 3) ≤ 2 ^ m
    eighth = pow_mono (omega arith)

    same-values : (p q : List ℕ) → ((i : ℕ) → i < 2 ^ m → eval K p (elem K b i) ≡ eval K q (elem K b i)) → word_of K m b p ≡ word_of K m b q
    same-values p q = tab_ext (2 ^ m) (λ i. eval K p (elem K b i)) (λ i. eval K q (elem K b i))

    symbol : (p : List ℕ) (i : ℕ) → i < 2 ^ m → get_or (word_of K m b p) i 0 ≡ eval K p (elem K b i)
    symbol p i h = get_or_tab (2 ^ m) (λ j. eval K p (elem K b j)) i 0 h

    -- polynomials of at most 2^m coefficients with one word are the same
    same_coeffs : (p q : List ℕ) → length p ≤ 2 ^ m → length q ≤ 2 ^ m → All Sym p → All Sym q → word_of K m b p ≡ word_of K m b q → (i : ℕ) → coeff p i ≡ coeff q i
    same_coeffs p q lp lq sp sq e =
        coeff_unique F (2 ^ m) p q (elem K b) lp lq sp sq (λ i h. elem_sym F b i B.elements) (basis_distinct F m b B)
        (λ i h. sym (symbol p i h) ∙ ap (λ (t : List ℕ). get_or t i 0) e ∙ symbol q i h)

    -- the degree of the polynomial of 2^m coefficients through a word is the least
    pub least_of_degree : (v p : List ℕ) → length p ≡ 2 ^ m → All Sym p → v ≡ word_of K m b p → (g : ℕ) → Degree p g → LeastDegree K (word_of K m b) v g
    least_of_degree v p lp sp e g d =
        record {
          coeffs = take (suc g) p;
          count = length-take-le (suc g) p (degree-fits p g d);
          elements = All-take Sym (suc g) p sp;
          values = e ∙ same-values p (take (suc g) p) (λ i h. sym (eval-low F (suc g) p (elem K b i) d.low));
          least = λ q sq f. by q sq f (dec_le (length q) g);
        }
      where
        by : (q : List ℕ) → All Sym q → v ≡ word_of K m b q → Dec (length q ≤ g) → g < length q
        by q sq f (yes h) =
            absurd (d.top (same_coeffs p q (omega arith) (omega (arith, degree-fits p g d)) sp sq (sym e ∙ f) g ∙ low_length q g h g (omega arith)))
        by q sq f (no h) = omega arith

    -- a word of a polynomial of at most an eighth of its length in coefficients is a codeword
    few_codeword : (v p : List ℕ) → length p ≤ 2 ^ (m - 3) → All Sym p → v ≡ word_of K m b p → Codeword K m b v
    few_codeword v p h sp e = (
      p ++ zeros,
      length-append p zeros ∙ omega (arith, length-replicate {A = ℕ} (2 ^ (m - 3) - length p) 0),
      All-append Sym p zeros sp (All-replicate Sym (2 ^ (m - 3) - length p) 0 F.sym_zero),
      e ∙ same-values p (p ++ zeros) (λ i l. eval-coeff F p (p ++ zeros) (elem K b i) (λ j. sym (coeff_append_zeros p (2 ^ (m - 3) - length p) j))),
    )
      where
        zeros : List ℕ
        zeros = replicate (2 ^ (m - 3) - length p) 0

    -- and so is that of the polynomial 0
    pub zero_codeword : (v p : List ℕ) → v ≡ word_of K m b p → Low 0 p → Codeword K m b v
    zero_codeword v p e z = few_codeword v [] (omega arith) tt (e ∙ same-values p [] (λ i h. eval-coeff F p [] (elem K b i) (λ j. z j (omega arith))))

    -- the polynomial of 2^m coefficients through a word of symbols
    module _ (v : List ℕ) (sv : All Sym v) (lv : length v ≡ 2 ^ m) where
      through : Through F (2 ^ m) (elem K b) (λ i. get_or v i 0)
      through = interpolate F (elem K b) (λ i. get_or v i 0) (2 ^ m) (λ i h. elem_sym F b i B.elements) (λ i h. get_or_sym F v i sv) (basis_distinct F m b B)

      through_word : v ≡ word_of K m b through.coeffs
      through_word = tab_of (2 ^ m) v 0 lv ∙ tab_ext (2 ^ m) (λ i. get_or v i 0) (λ i. eval K through.coeffs (elem K b i)) (λ i h. sym (through.values i h))

      -- a word of symbols that is no codeword has a least degree
      pub least_exists : (Codeword K m b v → ⊥) → (g : ℕ) × LeastDegree K (word_of K m b) v g
      least_exists n = by (degree_of through.coeffs)
        where
          by : Low 0 through.coeffs ⊎ ((g : ℕ) × Degree through.coeffs g) → (g : ℕ) × LeastDegree K (word_of K m b) v g
          by (inl z) = absurd (n (zero_codeword v through.coeffs through_word z))
          by (inr (g, d)) = (g, least_of_degree v through.coeffs through.count through.elements through_word g d)

    -- a word with a least degree is one of symbols
    least_sym : (v : List ℕ) (g : ℕ) → LeastDegree K (word_of K m b) v g → All Sym v
    least_sym v g L =
        subst (All Sym) (sym L.values) (All-tab Sym (2 ^ m) (λ i. eval K L.coeffs (elem K b i)) (λ i h. eval_sym F L.coeffs (elem K b i) L.elements (elem_sym F b i B.elements)))

    -- it is below the length, and where the word is no codeword, and only there, an eighth of the length at least
    pub least_range : (v : List ℕ) (g : ℕ) → length v ≡ 2 ^ m → LeastDegree K (word_of K m b) v g → (g ≤ 2 ^ m - 1) × ((Codeword K m b v → ⊥) ↔ (2 ^ (m - 3) ≤ g))
    least_range v g lv L = (
      omega (arith, L.least (through v sv lv).coeffs (through v sv lv).elements (through_word v sv lv), (through v sv lv).count),
      ((λ n. by n (dec_le (2 ^ (m - 3)) g)), λ l (p, lp, sp, e). omega (arith, L.least p sp e)),
    )
      where
        sv : All Sym v
        sv = least_sym v g L

        by : (Codeword K m b v → ⊥) → Dec (2 ^ (m - 3) ≤ g) → 2 ^ (m - 3) ≤ g
        by n (yes h) = h
        by n (no h) = absurd (n (few_codeword v L.coeffs (omega (arith, L.count)) L.elements L.values))

    -- a polynomial with one coefficient more than that of a codeword, through a word that is none
    pub least_past_limit : (v p : List ℕ) → length p ≡ suc (2 ^ (m - 3)) → All Sym p → v ≡ word_of K m b p → (Codeword K m b v → ⊥) → LeastDegree K (word_of K m b) v (2 ^ (m - 3))
    least_past_limit v p lp sp e n = record { coeffs = p; count = lp; elements = sp; values = e; least = λ q sq f. by q sq f (dec_le (length q) (2 ^ (m - 3))) }
      where
        by : (q : List ℕ) → All Sym q → v ≡ word_of K m b q → Dec (length q ≤ 2 ^ (m - 3)) → 2 ^ (m - 3) < length q
        by q sq f (yes h) = absurd (n (few_codeword v q h sq f))
        by q sq f (no h) = omega arith
