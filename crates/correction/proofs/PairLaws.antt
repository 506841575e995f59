-- The polynomials of a work list after a multiple of one pair is added to the other, and a step's effect on the remainders. Assumes nothing.
use mathlib.Core.Path.{◌≡◌, sym, ap, ap₂, ◌∙◌, subst}
use mathlib.Core.Logic.{◌⊎◌, inl, inr, ◌≢◌}
use mathlib.Core.List.{List}
use Prim.Native.Nat.{ℕ, ◌+◌, ◌-◌, ◌*◌, ◌≤◌, ◌<◌}
use native.Mathlib.Decide.{dec_lt}
use native.Mathlib.Omega.{arith}
use lib.ListN.{length, get_or}
use lib.Seq.{ext_get_or}
use Rattle.lists.specs.All.{Below, All-take, All-drop}
use Rattle.lists.specs.Stretch.{Apart, stretch, length_stretch, get_or_stretch}
use Rattle.field.specs.Binary.{Irreducible}
use Rattle.field.specs.Laws.{Ops, IsField, ⊕_0, ⊗_0, ⊗_1}
use Rattle.field.specs.Symbols.{symbols, symbols-field}
use Rattle.poly.specs.Coefficients.{coeff, Low, times_power, Mixed, low_length, coeff-times_power_below, coeff-times_power_at}
use Rattle.field.specs.declared.Field.{Field}
use Rattle.correction.specs.Pairs.{poly_at, AddedPair, Places, Cancels}
use Rattle.correction.specs.Rows.{Added}

module _ (n p : ℕ) (work : List ℕ) (fits : p + 2 * n ≤ length work) where
  pub coeff-poly : (i : ℕ) → i < 2 * n → coeff (poly_at n p work) i ≡ get_or work (p + i) 0
  coeff-poly i h = get_or_stretch (2 * n) p work i h

  pub poly-low : Low (2 * n) (poly_at n p work)
  poly-low = low_length (poly_at n p work) (2 * n) (omega (arith, length_stretch (2 * n) p work fits))

  pub poly-symbols : (b : ℕ) → Below b work → Below b (poly_at n p work)
  unfolding stretch
  poly-symbols b h = All-take (λ (x : ℕ). x < b) (2 * n) (lib.ListN.drop p work) (All-drop (λ (x : ℕ). x < b) p work h)

module _ (q : ℕ) (irr : Irreducible q) (c from to s m n : ℕ) (old new : List ℕ) (g : Added q c from (to + s) m old new) where
  abbrev K : Ops
  K = symbols q

  abbrev F : IsField K
  F = symbols-field q irr

  infixl 60 ◌⊕◌
  infixl 70 ◌⊗◌
  open K use {◌⊕◌, ◌⊗◌}

  -- a polynomial elsewhere
  pub poly-kept : (p : ℕ) → p + 2 * n ≤ length old → (p + 2 * n ≤ to + s) ⊎ (to + s + m ≤ p) → poly_at n p new ≡ poly_at n p old
  poly-kept p fits h =
      ext_get_or 0 (poly_at n p new) (poly_at n p old) (length_stretch (2 * n) p new (omega (arith, g.kept)) ∙ sym (length_stretch (2 * n) p old fits))
      (λ i l. let k : i < 2 * n = omega (arith, length_stretch (2 * n) p new (omega (arith, g.kept))) in
      coeff-poly n p new (omega (arith, g.kept)) i k ∙ g.outside (p + i) (by i k h) ∙ sym (coeff-poly n p old fits i k))
    where
      by : (i : ℕ) → i < 2 * n → (p + 2 * n ≤ to + s) ⊎ (to + s + m ≤ p) → (p + i < to + s) ⊎ (to + s + m ≤ p + i)
      by i k (inl l) = inl (omega arith)
      by i k (inr l) = inr (omega arith)

  same_step : (u v t : ℕ) → v ≡ 0 → t ≡ u → t ≡ u ⊕ c ⊗ v
  same_step u v t e h = h ∙ sym (ap (λ (y : ℕ). u ⊕ c ⊗ y) e ∙ ap (λ (y : ℕ). u ⊕ y) (⊗_0 F c) ∙ ⊕_0 F u)

  -- the polynomial that is changed
  pub poly_mixed : to + 2 * n ≤ length old → from + 2 * n ≤ length old → s + m ≤ 2 * n → Low m (poly_at n from old)
      → Mixed K s c (poly_at n to old) (poly_at n from old) (poly_at n to new)
  poly_mixed ft ff fm low i = by (dec_lt i (2 * n)) (dec_lt i s) (dec_lt i (s + m))
    where
      fn : to + 2 * n ≤ length new
      fn = omega (arith, g.kept)

      kept : i < 2 * n → (to + i < to + s) ⊎ (to + s + m ≤ to + i) → coeff (poly_at n to new) i ≡ coeff (poly_at n to old) i
      kept h o = coeff-poly n to new fn i h ∙ g.outside (to + i) o ∙ sym (coeff-poly n to old ft i h)

      past : s + m ≤ i → coeff (times_power s (poly_at n from old)) i ≡ 0
      past h = coeff-times_power_at s (poly_at n from old) (i - s) i (omega arith) ∙ low (i - s) (omega arith)

      by : Dec (i < 2 * n) → Dec (i < s) → Dec (i < s + m) → coeff (poly_at n to new) i ≡ coeff (poly_at n to old) i ⊕ c ⊗ coeff (times_power s (poly_at n from old)) i
      by (no h) b d =
          same_step _ _ _ (past (omega arith)) (poly-low n to new fn i (omega arith) ∙ sym (poly-low n to old ft i (omega arith)))
      by (yes h) (yes b) d = same_step _ _ _ (coeff-times_power_below s (poly_at n from old) i b) (kept h (inl (omega arith)))
      by (yes h) (no b) (no d) = same_step _ _ _ (past (omega arith)) (kept h (inr (omega arith)))
      by (yes h) (no b) (yes d) =
          let place : to + s + (i - s) ≡ to + i = omega arith in
          coeff-poly n to new fn i h ∙ ap (λ (t : ℕ). get_or new t 0) (sym place) ∙ g.inside (i - s) (omega arith)
          ∙ ap₂ (λ (u v : ℕ). u ⊕ c ⊗ v) (ap (λ (t : ℕ). get_or old t 0) place ∙ sym (coeff-poly n to old ft i h))
          (sym (coeff-poly n from old ff (i - s) (omega arith)) ∙ sym (coeff-times_power_at s (poly_at n from old) (i - s) i (omega arith)))

-- ---- both polynomials of a pair

module _ (q : ℕ) (irr : Irreducible q) (n c from to s r v : ℕ) (old new : List ℕ) (places : Places n from to) (room : 10 * n ≤ length old) (fr : s + r ≤ 2 * n) (fv : s + v ≤ 2 * n)
    (g : AddedPair q c from (to + s) (4 * n) r v old new) where
  abbrev far : ℕ
  far = 4 * n

  abbrev mid : List ℕ
  mid = g.middle

  second : Added q c (from + far) (to + far + s) v mid new
  second = subst (λ (t : ℕ). Added q c (from + far) t v mid new) {x = to + s + far} {y = to + far + s} (omega arith) g.second

  -- the places fit, and lie apart
  record Apart4 : Type 0 where
    first : from + 2 * n ≤ length old
    first-far : from + far + 2 * n ≤ length old
    other : to + 2 * n ≤ length old
    other-far : to + far + 2 * n ≤ length old
    apart : (from + 2 * n ≤ to) ⊎ (to + 2 * n ≤ from)
    near_far : (from + 2 * n ≤ to + far) × (to + 2 * n ≤ to + far) × (from + 2 * n ≤ from + far) × (to + 2 * n ≤ from + far)

  apart4 : Apart4
  apart4 = by places
    where
      by : Places n from to → Apart4
      by (inl h) =
          record { first = omega arith; first-far = omega arith; other = omega arith; other-far = omega arith; apart = inl (omega arith); near_far = (omega arith, omega arith, omega arith, omega arith) }
      by (inr h) =
          record { first = omega arith; first-far = omega arith; other = omega arith; other-far = omega arith; apart = inr (omega arith); near_far = (omega arith, omega arith, omega arith, omega arith) }

  beside : (from + 2 * n ≤ to) ⊎ (to + 2 * n ≤ from) → (from + 2 * n ≤ to + s) ⊎ (to + s + r ≤ from)
  beside (inl h) = inl (omega arith)
  beside (inr h) = inr (omega arith)

  beside-far : (from + 2 * n ≤ to) ⊎ (to + 2 * n ≤ from) → (from + far + 2 * n ≤ to + far + s) ⊎ (to + far + s + v ≤ from + far)
  beside-far (inl h) = inl (omega arith)
  beside-far (inr h) = inr (omega arith)

  lm : length mid ≡ length old
  lm = g.first.kept

  pub from-kept : poly_at n from new ≡ poly_at n from old
  from-kept =
      poly-kept q irr c (from + far) (to + far) s v n mid new second from (omega (arith, lm, apart4.first)) (inl (omega (arith, apart4.near_far.0)))
      ∙ poly-kept q irr c from to s r n old mid g.first from apart4.first (beside apart4.apart)

  mid-far : poly_at n (from + far) mid ≡ poly_at n (from + far) old
  mid-far = poly-kept q irr c from to s r n old mid g.first (from + far) apart4.first-far (inr (omega (arith, apart4.near_far.3)))

  pub factor-kept : poly_at n (from + far) new ≡ poly_at n (from + far) old
  factor-kept =
      poly-kept q irr c (from + far) (to + far) s v n mid new second (from + far) (omega (arith, lm, apart4.first-far)) (beside-far apart4.apart) ∙ mid-far

  pub to_mixed : Low r (poly_at n from old) → Mixed (symbols q) s c (poly_at n to old) (poly_at n from old) (poly_at n to new)
  to_mixed low =
      subst (Mixed (symbols q) s c (poly_at n to old) (poly_at n from old))
      (sym (poly-kept q irr c (from + far) (to + far) s v n mid new second to (omega (arith, lm, apart4.other)) (inl (omega (arith, apart4.near_far.1)))))
      (poly_mixed q irr c from to s r n old mid g.first apart4.other apart4.first fr low)

  to-far : poly_at n (to + far) mid ≡ poly_at n (to + far) old
  to-far = poly-kept q irr c from to s r n old mid g.first (to + far) apart4.other-far (inr (omega (arith, apart4.near_far.1)))

  pub factor_mixed : Low v (poly_at n (from + far) old) → Mixed (symbols q) s c (poly_at n (to + far) old) (poly_at n (from + far) old) (poly_at n (to + far) new)
  factor_mixed low =
      subst (λ (l : List ℕ). Mixed (symbols q) s c l (poly_at n (from + far) old) (poly_at n (to + far) new)) to-far
      (subst (λ (l : List ℕ). Mixed (symbols q) s c (poly_at n (to + far) mid) l (poly_at n (to + far) new)) mid-far
      (poly_mixed q irr c (from + far) (to + far) s v n mid new second (omega (arith, lm, apart4.other-far)) (omega (arith, lm, apart4.first-far)) fv
      (subst (Low v) (sym mid-far) low)))

  -- a number of the polynomial that is not changed
  pub number-kept : (i : ℕ) → i < 2 * n → get_or new (from + i) 0 ≡ get_or old (from + i) 0
  number-kept i h =
      sym (coeff-poly n from new (omega (arith, g.kept, apart4.first)) i h) ∙ ap (λ (l : List ℕ). coeff l i) from-kept ∙ coeff-poly n from old apart4.first i h

-- ---- what `cancel` reads and writes

module _ {f : Field} {n from i to j v : ℕ} {work : List ℕ} (h : Cancels f n from i to j v work) where
  record Inside : Type 0 where
    target : to + j < length work
    source : from + i < length work
    rows : Apart (i + 1) from (to + (j - i)) (length work)
    factors : Apart v (from + 4 * n) (to + (j - i) + 4 * n) (length work)

  inside : Inside
  inside = by h.places
    where
      by : Places n from to → Inside
      by (inl p) =
          record {
            target = omega (arith, h.room, h.fits);
            source = omega (arith, h.room, h.fits, h.order);
            rows = record { first = omega (arith, h.room, h.fits, h.order); second = omega (arith, h.room, h.fits, h.order); apart = inl (omega (arith, h.fits, h.order)) };
            factors = record { first = omega (arith, h.room, h.factor-fits); second = omega (arith, h.room, h.factor-fits); apart = inl (omega (arith, h.factor-fits)) };
          }
      by (inr p) =
          record {
            target = omega (arith, h.room, h.fits);
            source = omega (arith, h.room, h.fits, h.order);
            rows = record { first = omega (arith, h.room, h.fits, h.order); second = omega (arith, h.room, h.fits, h.order); apart = inr (omega (arith, h.fits, h.order)) };
            factors = record { first = omega (arith, h.room, h.factor-fits); second = omega (arith, h.room, h.factor-fits); apart = inr (omega (arith, h.factor-fits)) };
          }

  pub target_inside : to + j < length work
  target_inside = inside.target

  pub source-inside : from + i < length work
  source-inside = inside.source

  pub rows_apart : Apart (i + 1) from (to + (j - i)) (length work)
  rows_apart = inside.rows

  pub factors-apart : Apart v (from + 4 * n) (to + (j - i) + 4 * n) (length work)
  factors-apart = inside.factors

-- the multiple takes the coefficient away
pub cancel_zero : {K : Ops} (F : IsField K) (x y z c : ℕ) → K.Sym x → K.Sym y → y ≢ 0 → z ≡ K.inv y → c ≡ K.◌⊗◌ x z → K.◌⊕◌ x (K.◌⊗◌ c y) ≡ 0
cancel_zero {K} F x y z c sx sy n ez ec =
    ap (λ (t : ℕ). K.◌⊕◌ x t)
    (ap (λ (t : ℕ). K.◌⊗◌ t y) (ec ∙ ap (K.◌⊗◌ x) ez) ∙ F.prod_assoc x (K.inv y) y ∙ ap (K.◌⊗◌ x) (F.prod_comm (K.inv y) y ∙ F.prod_inv y sy n) ∙ ⊗_1 F x sx)
    ∙ F.sum_self x
