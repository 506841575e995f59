-- The coefficients of the subspace polynomials. W_j has the powers x^(2^i) alone, i at most j.
use Rattle.std.specs.Prelude.{◌≡◌, List, length, get_or, replicate}
use Rattle.std.proofs.Math.Path.{refl, sym, ap}
use Rattle.std.proofs.Common.{ap₂, ◌∙◌, arith}
use Prim.Native.Nat.{ℕ, zero, suc, ◌+◌, ◌*◌, ◌^◌, ◌≤◌, ◌<◌}
use Rattle.space.specs.Sizes.{max_dim}
use Rattle.lists.specs.All.{Below}
use Rattle.field.specs.Binary.{degree}
use Rattle.field.specs.Laws.{Ops, IsField, ring}
use Rattle.field.specs.Symbols.{symbols}
use Rattle.poly.proofs.Span.{vanish-nil}
use Rattle.poly.specs.Novel.{W, step}
use Rattle.poly.proofs.Novel.{W_suc}

module _ (K : Ops) where
  infixl 60 ◌⊕◌
  infixl 70 ◌⊗◌
  open K use {◌⊕◌, ◌⊗◌}

  -- x^(2^i)
  unfoldable pub squared : ℕ → ℕ → ℕ
  squared zero x = x
  squared (suc i) x = squared i x ⊗ squared i x

  -- the value at x of c_0 x + c_1 x^2 + c_2 x^4 + .., n terms
  unfoldable pub linear : (ℕ → ℕ) → ℕ → ℕ → ℕ
  unfolding squared
  linear c zero x = 0
  linear c (suc n) x = linear c n x ⊕ c n ⊗ squared n x

  -- the coefficient of x^(2^i) in W_j, where W_0 = x and W_(j+1) = W_j^2 + s_j W_j
  unfoldable pub coefficient : (ℕ → ℕ) → ℕ → ℕ → ℕ
  coefficient s zero zero = 1
  coefficient s zero (suc i) = 0
  coefficient s (suc j) zero = s j ⊗ coefficient s j zero
  coefficient s (suc j) (suc i) = s j ⊗ coefficient s j (suc i) ⊕ coefficient s j i ⊗ coefficient s j i

-- a row of max_dim places for each subspace polynomial
abbrev pub table_cells : ℕ
table_cells = max_dim * (max_dim + 1)

unfoldable pub zero_cells : List ℕ
zero_cells = replicate table_cells 0

-- t has the coefficient of x^(2^i) in W_j at max_dim j + i, j below count
pub record Sparse (q : ℕ) (steps : List ℕ) (count : ℕ) (t : List ℕ) : Type 0 where
  pub below : Below (2 ^ degree q) t
  pub right : (j i : ℕ) → j < count → i < max_dim → get_or t (max_dim * j + i) 0 ≡ coefficient (symbols q) (λ j. get_or steps j 0) j i

module _ {K : Ops} (F : IsField K) (s : ℕ → ℕ) where
  infixl 60 ◌⊕◌
  infixl 70 ◌⊗◌
  open K use {◌⊕◌, ◌⊗◌, Sym}

  high-step : (a u v : ℕ) → u ≡ 0 → v ≡ 0 → a ⊗ u ⊕ v ⊗ v ≡ 0
  high-step a u v e h = simp (e, h, ring, F)

  -- no power above x^(2^j)
  pub coefficient-high : (j i : ℕ) → j < i → coefficient K s j i ≡ 0
  unfolding coefficient
  coefficient-high j zero h = absurd (omega arith)
  coefficient-high zero (suc i) h = refl
  coefficient-high (suc j) (suc i) h = high-step (s j) _ _ (coefficient-high j (suc i) (omega arith)) (coefficient-high j i (omega arith))

  lead-step : (a u v : ℕ) → u ≡ 0 → v ≡ 1 → a ⊗ u ⊕ v ⊗ v ≡ 1
  lead-step a u v e h =
      ap₂ (λ (p r : ℕ). a ⊗ p ⊕ r ⊗ r) e h ∙ simp (ring, F) (F.one_prod 1 F.sym_one)

  -- the power x^(2^j) itself
  pub coefficient-lead : (j : ℕ) → coefficient K s j j ≡ 1
  unfolding coefficient
  coefficient-lead zero = refl
  coefficient-lead (suc j) = lead-step (s j) _ _ (coefficient-high j (suc j) (omega arith)) (coefficient-lead j)

  pub coefficient_sym : (count j i : ℕ) → ((j : ℕ) → j < count → Sym (s j)) → j ≤ count → Sym (coefficient K s j i)
  unfolding coefficient
  coefficient_sym count zero zero h l = F.sym_one
  coefficient_sym count zero (suc i) h l = F.sym_zero
  coefficient_sym count (suc j) zero h l = F.sym_prod (h j l) (coefficient_sym count j zero h (omega arith))
  coefficient_sym count (suc j) (suc i) h l =
      F.sym_sum (F.sym_prod (h j l) (coefficient_sym count j (suc i) h (omega arith)))
      (F.sym_prod (coefficient_sym count j i h (omega arith)) (coefficient_sym count j i h (omega arith)))

  -- ---- the recurrence of the values

  first_step : (a c x : ℕ) → 0 ⊕ a ⊗ c ⊗ x ≡ a ⊗ (0 ⊕ c ⊗ x) ⊕ 0 ⊗ 0
  first_step a c x = simp (ring, F)

  -- l, l + c p with p = x^(2^n), and the next term by the coefficient a d + c^2
  next-step : (a l c p d v w : ℕ) → v ≡ a ⊗ (l ⊕ c ⊗ p) ⊕ l ⊗ l → w ≡ p ⊗ p
      → v ⊕ (a ⊗ d ⊕ c ⊗ c) ⊗ w ≡ a ⊗ (l ⊕ c ⊗ p ⊕ d ⊗ w) ⊕ (l ⊕ c ⊗ p) ⊗ (l ⊕ c ⊗ p)
  next-step a l c p d v w e h = simp (e, h, ring, F)

  linear-next : (j n x : ℕ)
      → linear K (coefficient K s (suc j)) (suc n) x ≡ s j ⊗ linear K (coefficient K s j) (suc n) x ⊕ linear K (coefficient K s j) n x ⊗ linear K (coefficient K s j) n x
  unfolding coefficient linear squared
  linear-next j zero x = first_step (s j) (coefficient K s j 0) x
  linear-next j (suc n) x =
      next-step (s j) (linear K (coefficient K s j) n x) (coefficient K s j n) (squared K n x) (coefficient K s j (suc n)) _ _ (linear-next j n x) refl

  more-step : (l c p : ℕ) → c ≡ 0 → l ⊕ c ⊗ p ≡ l
  more-step l c p e = simp (e, ring, F)

  factor-step : (a v u l : ℕ) → u ≡ v → l ≡ v → a ⊗ u ⊕ l ⊗ l ≡ v ⊗ (v ⊕ a)
  factor-step a v u l e h = simp (e, h, ring, F)

  first-value : (x : ℕ) → Sym x → 0 ⊕ 1 ⊗ x ≡ x
  first-value x sx = F.zero-sum (1 ⊗ x) ∙ F.one_prod x sx

  -- these are the coefficients of W_j where s_j is the step of number j
  pub linear-W : (bs : List ℕ) (j x : ℕ) → j ≤ length bs → ((i : ℕ) → i < j → s i ≡ step K bs i) → Sym x → linear K (coefficient K s j) (suc j) x ≡ W K bs j x
  unfolding coefficient linear squared
  linear-W bs zero x h e sx = first-value x sx ∙ sym (vanish-nil F x)
  linear-W bs (suc j) x h e sx =
      let ih : linear K (coefficient K s j) (suc j) x ≡ W K bs j x = linear-W bs j x (omega arith) (λ i l. e i (omega arith)) sx in
      linear-next j (suc j) x
      ∙ factor-step (s j) (W K bs j x) _ _ (more-step _ _ (squared K (suc j) x) (coefficient-high j (suc j) (omega arith)) ∙ ih) ih
      ∙ ap (λ (a : ℕ). W K bs j x ⊗ (W K bs j x ⊕ a)) (e j (omega arith))
      ∙ sym (W_suc F bs j x h)
