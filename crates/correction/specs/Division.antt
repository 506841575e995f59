-- Long division in place finds the factor p of p u: what stands in the list when j coefficients of p are left to find.
use Rattle.std.specs.Prelude.{◌≡◌, refl, ◌⊎◌, List, ℕ, suc, ◌+◌, ◌-◌, ◌≤◌, ◌<◌, length, take}
use Rattle.std.proofs.Common.{sym, ap, ap₂, ◌∙◌, inl, inr, arith, take-suc, take_all, length-take-le}
use Rattle.std.proofs.Math.Decide.{dec_lt, ℕ_discrete}
use Rattle.lists.specs.All.{All}
use Rattle.field.specs.Laws.{Ops, IsField, sums, ⊗_1}
use Rattle.poly.specs.Poly.{scale_p, mul_p}
use Rattle.poly.specs.Coefficients.{coeff, Low, times_power, coeff-times_power_at, coeff-times_power_below}
use Rattle.poly.proofs.Coefficients.{low-mul_p, coeff-scale_p, mul_p_snoc, coeff_sym}

-- the front of s is the product of u and the first j coefficients of p, and the others stand behind it
pub record Dividing (K : Ops) (e d : ℕ) (p u : List ℕ) (j : ℕ) (s : List ℕ) : Type 0 where
  pub front : (i : ℕ) → i < j + e → coeff s i ≡ coeff (mul_p K (take j p) u) i
  pub found : (i : ℕ) → j ≤ i → i < d → coeff s (i + e) ≡ coeff p i

-- a step from s to s', which takes c times u from the place j on, and leaves c behind it
pub record Step (K : Ops) (e j c : ℕ) (u s s' : List ℕ) : Type 0 where
  pub taken : (i : ℕ) → i < e → coeff s' (j + i) ≡ K.◌⊕◌ (coeff s (j + i)) (K.◌⊗◌ c (coeff u i))
  pub left : coeff s' (j + e) ≡ c
  pub kept : (i : ℕ) → (i < j) ⊎ (j + e < i) → coeff s' i ≡ coeff s i

module _ {K : Ops} (F : IsField K) where
  infixl 60 ◌⊕◌
  infixl 70 ◌⊗◌
  open K use {◌⊕◌, ◌⊗◌, Sym}

  last_step : (a l v z : ℕ) → Sym a → l ⊗ v ≡ 1 → z ≡ 0 ⊕ a ⊗ l → z ⊗ v ≡ a
  last_step a l v z s e h =
      ap (λ (t : ℕ). t ⊗ v) (h ∙ F.zero-sum (a ⊗ l)) ∙ F.prod_assoc a l v ∙ ap (λ (t : ℕ). a ⊗ t) e ∙ ⊗_1 F a s

  cancel_step : (u v z : ℕ) → z ≡ u ⊕ v → z ⊕ v ≡ u
  cancel_step u v z e = simp (e, sums, F)

  skip_step : (u v z : ℕ) → v ≡ 0 → z ≡ u ⊕ v → z ≡ u
  skip_step u v z e h = simp (h, e, sums, F)

  module _ (e d : ℕ) (p u : List ℕ) (lp : length p ≡ d) (sp : All Sym p) (low : Low (suc e) u) where
    -- before the first step
    pub dividing_start : (s : List ℕ) → ((i : ℕ) → coeff s i ≡ coeff (mul_p K p u) i) → Dividing K e d p u d s
    dividing_start s h =
        record {
          front = λ i l. h i ∙ ap (λ (t : List ℕ). coeff (mul_p K t u) i) (sym (take_all d p (omega arith)));
          found = λ i l g. absurd (omega arith);
        }

    module _ (v : ℕ) (unit : coeff u e ⊗ v ≡ 1) (j : ℕ) (hj : j < d) (s : List ℕ) (h : Dividing K e d p u (suc j) s) where
      next : (i : ℕ) → i < suc j + e → coeff s i ≡ coeff (mul_p K (take j p) u) i ⊕ coeff (times_power j (scale_p K (coeff p j) u)) i
      next i l =
          h.front i l ∙ ap (λ (t : List ℕ). coeff (mul_p K t u) i) (take-suc p j 0 (omega arith)) ∙ mul_p_snoc F (take j p) u (coeff p j) i
          ∙ ap (λ (t : ℕ). coeff (mul_p K (take j p) u) i ⊕ coeff (times_power t (scale_p K (coeff p j) u)) i) (length-take-le j p (omega arith))

      -- the coefficient that is found
      pub right : coeff s (j + e) ⊗ v ≡ coeff p j
      right =
          last_step (coeff p j) (coeff u e) v (coeff s (j + e)) (coeff_sym F p j sp) unit
          (next (j + e) (omega arith)
          ∙ ap₂ ◌⊕◌ (low-mul_p F (take j p) u (suc e) low (j + e) (omega (arith, length-take-le j p (omega arith))))
          (coeff-times_power_at j (scale_p K (coeff p j) u) e (j + e) refl ∙ coeff-scale_p F (coeff p j) u e))

      pub dividing_next : (s' : List ℕ) → Step K e j (coeff s (j + e) ⊗ v) u s s' → Dividing K e d p u j s'
      dividing_next s' g =
          record {
            front = λ i l. by i l (dec_lt i j);
            found = λ i l k. at i l k (ℕ_discrete i j);
          }
        where
          by : (i : ℕ) → i < j + e → Dec (i < j) → coeff s' i ≡ coeff (mul_p K (take j p) u) i
          by i l (yes k) = g.kept i (inl k) ∙ skip_step _ _ _ (coeff-times_power_below j (scale_p K (coeff p j) u) i k) (next i (omega arith))
          by i l (no k) =
              let place : j + (i - j) ≡ i = omega arith in
              ap (coeff s') (sym place) ∙ g.taken (i - j) (omega arith)
              ∙ ap₂ (λ (t c : ℕ). coeff s t ⊕ c ⊗ coeff u (i - j)) place right
              ∙ cancel_step _ _ _ (next i (omega arith)
              ∙ ap (λ (t : ℕ). coeff (mul_p K (take j p) u) i ⊕ t) (coeff-times_power_at j (scale_p K (coeff p j) u) (i - j) i (sym place) ∙ coeff-scale_p F (coeff p j) u (i - j)))

          at : (i : ℕ) → j ≤ i → i < d → Dec (i ≡ j) → coeff s' (i + e) ≡ coeff p i
          at i l k (yes q) = ap (λ (t : ℕ). coeff s' (t + e)) q ∙ g.left ∙ right ∙ ap (coeff p) (sym q)
          at i l k (no q) = g.kept (i + e) (inr (omega arith)) ∙ h.found i (omega arith) k
