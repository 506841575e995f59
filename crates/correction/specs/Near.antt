-- The codeword within the radius of a word: there is at most one.
use Rattle.std.specs.Prelude.{◌≡◌, ◌↔◌, List, ℕ, ◌+◌, ◌*◌, ◌-◌, ◌/◌, ◌^◌, ◌≤◌, length}
use Rattle.std.proofs.Common.{sym, ap, ◌∙◌, subst, arith}
use Rattle.lists.specs.All.{All}
use Rattle.lists.specs.Tables.{length_tab, get_or_tab}
use Rattle.field.specs.Laws.{Ops, IsField}
use Rattle.poly.specs.Poly.{eval, add_p, length_add_p}
use Rattle.poly.proofs.Poly.{eval-add_p, add_p_sym, zeros_equal, sum_step}
use Rattle.poly.specs.Span.{elem}
use Rattle.poly.proofs.Span.{elem_sym}
use Rattle.poly.specs.Blocks.{eighths}
use Rattle.poly.specs.Codeword.{Basis, word_of, Codeword}
use Rattle.poly.proofs.Codeword.{basis_distinct}
use Rattle.poly.specs.Shift.{CodewordAt}
use Rattle.poly.proofs.Shift.{codeword_shift}
use Rattle.poly.specs.Coefficients.{coeff}
use Rattle.correction.specs.Differences.{differences, differing, differing-le, differing_triangle, differing_sym, differences-differing, root-count}

-- at most so many positions of a word of n symbols are put right: 7/16 of them, rounded down
abbrev pub radius : ℕ → ℕ
radius n = 7 * n / 16

module _ (K : Ops) (k : ℕ) (b w : List ℕ) where
  -- c is a codeword that differs from w in no more positions than the radius
  pub record Near (c : List ℕ) : Type 0 where
    pub codeword : Codeword K k b c
    pub close : differences w c ≤ radius (2 ^ k)

  -- no codeword is that near
  abbrev pub NoneNear : Type 0
  NoneNear = (c : List ℕ) → Near c → ⊥

  -- p is the polynomial of a near codeword
  pub record NearPoly (p : List ℕ) : Type 0 where
    pub count : length p ≡ 2 ^ (k - 3)
    pub elements : All K.Sym p
    pub close : differing (2 ^ k) (coeff w) (λ i. eval K p (elem K b i)) ≤ radius (2 ^ k)

module _ (K : Ops) (σ k : ℕ) (b w : List ℕ) where
  -- the same with the elements shifted by σ
  pub record NearAt (c : List ℕ) : Type 0 where
    pub codeword : CodewordAt K σ k b c
    pub close : differences w c ≤ radius (2 ^ k)

  abbrev pub NoneNearAt : Type 0
  NoneNearAt = (c : List ℕ) → NearAt c → ⊥

-- near at each shift or at none
pub near_shift : {K : Ops} → IsField K → (σ : ℕ) → K.Sym σ → (k : ℕ) (b w c : List ℕ) → NearAt K σ k b w c ↔ Near K k b w c
near_shift F σ sσ k b w c = (
  (λ h. record { codeword = (codeword_shift F σ sσ k b c).0 h.codeword; close = h.close }),
  λ h. record { codeword = (codeword_shift F σ sσ k b c).1 h.codeword; close = h.close },
)

module _ (K : Ops) (k : ℕ) (b w : List ℕ) (lw : length w ≡ 2 ^ k) where
  -- the differences from the word of a polynomial
  pub differences-word : (p : List ℕ) → differences w (word_of K k b p) ≡ differing (2 ^ k) (coeff w) (λ i. eval K p (elem K b i))
  differences-word p =
      differences-differing (2 ^ k) w (word_of K k b p) lw (length_tab (2 ^ k) (λ i. eval K p (elem K b i)))
      ∙ omega (
        arith,
        differing-le (2 ^ k) (coeff w) (coeff (word_of K k b p)) (coeff w) (λ i. eval K p (elem K b i)) (λ i h e. e ∙ sym (get_or_tab (2 ^ k) (λ i. eval K p (elem K b i)) i 0 h)),
        differing-le (2 ^ k) (coeff w) (λ i. eval K p (elem K b i)) (coeff w) (coeff (word_of K k b p)) (λ i h e. e ∙ get_or_tab (2 ^ k) (λ i. eval K p (elem K b i)) i 0 h),
      )

  pub near_poly : (p : List ℕ) → length p ≡ 2 ^ (k - 3) → All K.Sym p → differences w (word_of K k b p) ≤ radius (2 ^ k) → NearPoly K k b w p
  near_poly p lp sp h = record { count = lp; elements = sp; close = omega (arith, differences-word p) }

module _ {K : Ops} (F : IsField K) (k : ℕ) (hk : 3 ≤ k) (b : List ℕ) (B : Basis K k b) (w : List ℕ) where
  open K use {Sym}

  -- twice the radius and the degree are no more than the length
  pub radius-fits : radius (2 ^ k) + radius (2 ^ k) + 2 ^ (k - 3) ≤ 2 ^ k
  radius-fits = omega (arith, eighths k hk)

  unique_poly : (p q : List ℕ) → NearPoly K k b w p → NearPoly K k b w q → p ≡ q
  unique_poly p q a c =
      zeros_equal F p q (a.count ∙ sym c.count)
      (root-count F (2 ^ k) (add_p K p q) (elem K b) (add_p_sym F p q a.elements c.elements) (λ i h. elem_sym F b i B.elements) (basis_distinct F k b B)
      (omega (
        arith,
        length_add_p K p q,
        a.count,
        c.count,
        a.close,
        c.close,
        radius-fits,
        differing-le (2 ^ k) (λ i. eval K (add_p K p q) (elem K b i)) (λ i. 0) u v (λ i l e. eval-add_p F p q (elem K b i) ∙ sum_step F _ _ e),
        differing_triangle (2 ^ k) u (coeff w) v,
        differing_sym (2 ^ k) u (coeff w),
      )))
    where
      u : ℕ → ℕ
      u i = eval K p (elem K b i)

      v : ℕ → ℕ
      v i = eval K q (elem K b i)

  -- no word has two codewords within the radius
  pub one_near : length w ≡ 2 ^ k → (c d : List ℕ) → Near K k b w c → Near K k b w d → c ≡ d
  one_near lw c d x y = by x.codeword y.codeword
    where
      by : Codeword K k b c → Codeword K k b d → c ≡ d
      by (p, lp, sp, ep) (q, lq, sq, eq) =
          ep ∙ ap (word_of K k b)
          (unique_poly p q (near_poly K k b w lw p lp sp (subst (λ (l : List ℕ). differences w l ≤ radius (2 ^ k)) ep x.close))
          (near_poly K k b w lw q lq sq (subst (λ (l : List ℕ). differences w l ≤ radius (2 ^ k)) eq y.close)))
          ∙ sym eq
