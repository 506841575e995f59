-- A codeword has one polynomial of degree below an eighth of its length, and its first symbols give it.
use Rattle.std.specs.Prelude.{◌≡◌, ◌↔◌, List, ℕ, ◌^◌, ◌-◌, ◌≤◌, ◌<◌, length, get_or}
use Rattle.std.proofs.Common.{sym, ap, ◌∙◌, subst, arith, pow_mono}
use Rattle.lists.specs.All.{All}
use Rattle.lists.specs.Tables.{get_or_tab}
use Rattle.field.specs.Laws.{Ops, IsField}
use Rattle.poly.specs.Poly.{Distinct, eval}
use Rattle.poly.proofs.Unique.{eval_unique}
use Rattle.poly.specs.Span.{elem}
use Rattle.poly.proofs.Span.{elem_sym, elem_distinct}
use Rattle.poly.specs.Interpolate.{Through}
use Rattle.poly.proofs.Interpolate.{interpolate}
use Rattle.poly.specs.Codeword.{Basis, word_of, Codeword}

module _ {K : Ops} (F : IsField K) (k : ℕ) (b : List ℕ) (B : Basis K k b) where
  open K use {Sym}

  pub basis_distinct : Distinct (2 ^ k) (elem K b)
  basis_distinct = subst (λ (t : ℕ). Distinct (2 ^ t) (elem K b)) B.count (elem_distinct F b B.independent)

  fewer : 2 ^ (k - 3) ≤ 2 ^ k
  fewer = pow_mono (omega arith)

  first_distinct : Distinct (2 ^ (k - 3)) (elem K b)
  first_distinct i j hi hj = basis_distinct i j (omega (arith, fewer)) (omega (arith, fewer))

  symbol : (p : List ℕ) (i : ℕ) → i < 2 ^ (k - 3) → get_or (word_of K k b p) i 0 ≡ eval K p (elem K b i)
  symbol p i h = get_or_tab (2 ^ k) (λ j. eval K p (elem K b j)) i 0 (omega (arith, fewer))

  -- polynomials alike at the first n/8 elements are equal
  first_unique : (p q : List ℕ) → length p ≡ 2 ^ (k - 3) → length q ≡ 2 ^ (k - 3) → All Sym p → All Sym q
      → ((i : ℕ) → i < 2 ^ (k - 3) → eval K p (elem K b i) ≡ eval K q (elem K b i)) → p ≡ q
  first_unique p q lp lq sp sq e =
      eval_unique F (2 ^ (k - 3)) p q (elem K b) lp lq sp sq (λ i h. elem_sym F b i B.elements) first_distinct e

  -- a codeword has one polynomial
  pub decode_unique : (p q : List ℕ) → length p ≡ 2 ^ (k - 3) → length q ≡ 2 ^ (k - 3) → All Sym p → All Sym q → word_of K k b p ≡ word_of K k b q → p ≡ q
  decode_unique p q lp lq sp sq e =
      first_unique p q lp lq sp sq (λ i h. sym (symbol p i h) ∙ ap (λ (t : List ℕ). get_or t i 0) e ∙ symbol q i h)

  module _ (w : List ℕ) (sw : (i : ℕ) → i < 2 ^ (k - 3) → Sym (get_or w i 0)) where
    -- the polynomial through the first n/8 symbols
    pub first : Through F (2 ^ (k - 3)) (elem K b) (λ i. get_or w i 0)
    first = interpolate F (elem K b) (λ i. get_or w i 0) (2 ^ (k - 3)) (λ i h. elem_sym F b i B.elements) sw first_distinct

    -- a word is a codeword exactly when it has the values of that polynomial
    pub codeword_iff : Codeword K k b w ↔ (w ≡ word_of K k b first.coeffs)
    codeword_iff = (
      (λ (p, lp, sp, e). e ∙ ap (word_of K k b) (first_unique p first.coeffs lp first.count sp first.elements
          (λ i h. sym (symbol p i h) ∙ ap (λ (t : List ℕ). get_or t i 0) (sym e) ∙ sym (first.values i h)))),
      λ e. (first.coeffs, first.count, first.elements, e),
    )
