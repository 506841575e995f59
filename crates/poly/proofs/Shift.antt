-- Words that hold P at the shift plus element i are the words of P(x + shift), so the codewords are the same at each shift. Assumes nothing.
use Rattle.std.specs.Prelude.{◌≡◌, refl, ◌↔◌, List, [], ◌∷◌, ℕ, ◌^◌, ◌-◌, length}
use Rattle.std.proofs.Common.{sym, ap, ◌∙◌, arith, pow_mono}
use Rattle.lists.specs.All.{All}
use Rattle.lists.specs.Tables.{tab_ext}
use Rattle.field.specs.Laws.{Ops, IsField, ring, sums}
use Rattle.poly.specs.Poly.{eval, scale_p}
use Rattle.poly.proofs.Poly.{eval-add_p, eval-scale_p, add_p_sym, scale_p_sym}
use Rattle.poly.proofs.Unique.{eval_unique}
use Rattle.poly.specs.Span.{elem}
use Rattle.poly.proofs.Span.{elem_sym}
use Rattle.poly.specs.Codeword.{Basis, word_of, Codeword}
use Rattle.poly.proofs.Codeword.{basis_distinct, decode_unique}
use Rattle.poly.specs.Shift.{word_at, CodewordAt, shift_p, length_shift_p}

module _ {K : Ops} (F : IsField K) where
  infixl 60 ◌⊕◌
  infixl 70 ◌⊗◌
  open K use {◌⊕◌, ◌⊗◌, Sym}

  shift_step : (c x s u w : ℕ) → w ≡ u → c ⊕ x ⊗ w ⊕ s ⊗ w ≡ c ⊕ (s ⊕ x) ⊗ u
  shift_step c x s u w e = simp (e, ring, F)

  -- its value at x is that of P at σ + x
  pub eval-shift_p : (σ : ℕ) (p : List ℕ) (x : ℕ) → eval K (shift_p K σ p) x ≡ eval K p (σ ⊕ x)
  eval-shift_p σ [] x = refl
  eval-shift_p σ (c ∷ p) x =
      eval-add_p F (c ∷ shift_p K σ p) (scale_p K σ (shift_p K σ p)) x
      ∙ ap (λ (t : ℕ). c ⊕ x ⊗ eval K (shift_p K σ p) x ⊕ t) (eval-scale_p F σ (shift_p K σ p) x)
      ∙ shift_step c x σ _ _ (eval-shift_p σ p x)

  pub shift_p_sym : (σ : ℕ) (p : List ℕ) → Sym σ → All Sym p → All Sym (shift_p K σ p)
  shift_p_sym σ [] s sp = tt
  shift_p_sym σ (c ∷ p) s sp =
      let ih : All Sym (shift_p K σ p) = shift_p_sym σ p s sp.1 in
      add_p_sym F (c ∷ shift_p K σ p) (scale_p K σ (shift_p K σ p)) (sp.0, ih) (scale_p_sym F σ (shift_p K σ p) s ih)

  pub shift_back : (σ x : ℕ) → σ ⊕ (σ ⊕ x) ≡ x
  shift_back σ x = simp (sums, F)

  -- r has the values of P(x + σ): its word is that of P at the shift
  pub word-at-values : (σ k : ℕ) (b p r : List ℕ) → ((i : ℕ) → eval K r (elem K b i) ≡ eval K p (σ ⊕ elem K b i)) → word_of K k b r ≡ word_at K σ k b p
  word-at-values σ k b p r e = tab_ext (2 ^ k) _ _ (λ i h. e i)

  -- and its word at the shift is that of P
  pub word-at-back : (σ k : ℕ) (b p r : List ℕ) → ((i : ℕ) → eval K r (σ ⊕ elem K b i) ≡ eval K p (σ ⊕ (σ ⊕ elem K b i))) → word_of K k b p ≡ word_at K σ k b r
  word-at-back σ k b p r e = tab_ext (2 ^ k) _ _ (λ i h. sym (e i ∙ ap (eval K p) (shift_back σ (elem K b i))))

  -- the word of P at the shift is that of P(x + σ)
  pub word_shift : (σ k : ℕ) (b p : List ℕ) → word_at K σ k b p ≡ word_of K k b (shift_p K σ p)
  word_shift σ k b p = sym (word-at-values σ k b p (shift_p K σ p) (λ i. eval-shift_p σ p (elem K b i)))

  -- and the word of P is that of P(x + σ) at the shift
  pub word_unshift : (σ k : ℕ) (b p : List ℕ) → word_of K k b p ≡ word_at K σ k b (shift_p K σ p)
  word_unshift σ k b p = word-at-back σ k b p (shift_p K σ p) (λ i. eval-shift_p σ p (σ ⊕ elem K b i))

  -- the shift 0
  pub word-at-zero : (k : ℕ) (b p : List ℕ) → word_at K 0 k b p ≡ word_of K k b p
  word-at-zero k b p = tab_ext (2 ^ k) _ _ (λ i h. ap (eval K p) (F.zero-sum (elem K b i)))

  module _ (σ : ℕ) (sσ : Sym σ) (k : ℕ) (b : List ℕ) where
    -- a word is a codeword at each shift or at none
    pub codeword_shift : (w : List ℕ) → CodewordAt K σ k b w ↔ Codeword K k b w
    codeword_shift w = (
      (λ (p, lp, sp, e). (shift_p K σ p, length_shift_p K σ p ∙ lp, shift_p_sym σ p sσ sp, e ∙ word_shift σ k b p)),
      λ (p, lp, sp, e). (shift_p K σ p, length_shift_p K σ p ∙ lp, shift_p_sym σ p sσ sp, e ∙ word_unshift σ k b p),
    )

    module _ (B : Basis K k b) where
      -- shifting twice changes nothing
      pub shift_twice : (p : List ℕ) → length p ≡ 2 ^ (k - 3) → All Sym p → shift_p K σ (shift_p K σ p) ≡ p
      shift_twice p lp sp =
          eval_unique F (2 ^ (k - 3)) (shift_p K σ (shift_p K σ p)) p (elem K b) (length_shift_p K σ (shift_p K σ p) ∙ length_shift_p K σ p ∙ lp) lp
          (shift_p_sym σ (shift_p K σ p) sσ (shift_p_sym σ p sσ sp)) sp (λ i h. elem_sym F b i B.elements)
          (λ i j hi hj. basis_distinct F k b B i j (omega (arith, pow_mono {i = k - 3} {j = k} (omega arith))) (omega (arith, pow_mono {i = k - 3} {j = k} (omega arith))))
          (λ i h. eval-shift_p σ (shift_p K σ p) (elem K b i) ∙ eval-shift_p σ p (σ ⊕ elem K b i) ∙ ap (eval K p) (shift_back σ (elem K b i)))

      -- a word has one polynomial at the shift
      pub decode_unique_at : (p q : List ℕ) → length p ≡ 2 ^ (k - 3) → length q ≡ 2 ^ (k - 3) → All Sym p → All Sym q → word_at K σ k b p ≡ word_at K σ k b q → p ≡ q
      decode_unique_at p q lp lq sp sq e =
          sym (shift_twice p lp sp)
          ∙ ap (shift_p K σ) (decode_unique F k b B (shift_p K σ p) (shift_p K σ q) (length_shift_p K σ p ∙ lp) (length_shift_p K σ q ∙ lq) (shift_p_sym σ p sσ sp) (shift_p_sym σ q sσ sq)
          (sym (word_shift σ k b p) ∙ e ∙ word_shift σ k b q))
          ∙ shift_twice q lq sq
