-- The test `irreducible?` decides `Irreducible`. Assumes nothing.
use Rattle.std.specs.Prelude.{◌≡◌, refl, ◌⊎◌, ◌↔◌, Bool, true, false, ℕ, zero, suc, ◌+◌, ◌-◌, ◌*◌, ◌/◌, ◌%◌, ◌^◌, ◌≤◌, ◌<◌, leb, eqb}
use Rattle.std.proofs.Common.{sym, ap, ◌∙◌, subst, inl, inr, ⊎_elim, le_refl, lt_of_lt_of_le, eq-zero-or-pos, eq-or-lt_of_le, le→leb, eqb→eq, pow_mono}
use Rattle.std.proofs.Math.Bool.{not}
use native.Mathlib.Omega.{arith}
use Rattle.std.proofs.Math.Dec.{T, leb→le, eqb_refl, T_not, not_T}
use Rattle.std.proofs.Math.Facts.{and_yes, yes_and}
use Rattle.field.specs.Binary.{◌⊕◌, clmul, degree, rem, Irreducible, all_below, divides?, no_low_factor?, irreducible?}
use Rattle.field.specs.Xor.{xor_zero_right}
use Rattle.field.specs.Clmul.{clmul-zero-left, clmul-zero-right, clmul-two-right, clmul_double_right, clmul_comm}
use Rattle.field.specs.Degree.{HasDegree, degree-right, degree-positive, degree-above, degree_unique, clmul-degree}
use Rattle.field.specs.Rem.{le-or-lt, rem_multiple, rem_unique, divide}
use Rattle.field.specs.Product.{no_divisor, positive}

-- ---- tests

all-below→ : (p : ℕ → Bool) (n : ℕ) → T (all_below p n) → (k : ℕ) → k < n → T (p k)
unfolding all_below
all-below→ p zero t k h = absurd (omega arith)
all-below→ p (suc n) t k h = go (eq-or-lt_of_le h) (all-below→ p n (and_yes (p n) (all_below p n) t).1 k)
  where
    go : (suc k ≡ suc n) ⊎ (suc k < suc n) → (k < n → T (p k)) → T (p k)
    go (inl e) ih = subst (λ (j : ℕ). T (p j)) (omega arith) (and_yes (p n) (all_below p n) t).0
    go (inr l) ih = ih (omega arith)

→all-below : (p : ℕ → Bool) (n : ℕ) → ((k : ℕ) → k < n → T (p k)) → T (all_below p n)
unfolding all_below
→all-below p zero f = tt
→all-below p (suc n) f = yes_and (p n) (all_below p n) (f n (le_refl (suc n))) (→all-below p n (λ k h. f k (omega arith)))

divides?→ : (f m : ℕ) → T (divides? f m) → rem f m ≡ 0
unfolding divides?
divides?→ f m t = eqb→eq (rem f m) 0 t

→divides? : (f m : ℕ) → rem f m ≡ 0 → T (divides? f m)
unfolding divides?
→divides? f m e = subst (λ (r : ℕ). T (eqb r 0)) (sym e) (eqb_refl 0)

-- ---- the test passes: no factors

module _ (m : ℕ) (t : T (irreducible? m)) where
  large : 2 ≤ m
  unfolding irreducible?
  large = leb→le 2 m (and_yes (leb 2 m) (no_low_factor? m) t).0

  -- no f from 2 on whose degree is at most half that of m divides m
  tried : (f : ℕ) → 1 < f → f < 2 ^ (degree m / 2 + 1) → ¬ (rem f m ≡ 0)
  unfolding irreducible?
  tried f h b e =
      T_not (divides? (f - 2 + 2) m)
      (all-below→ (λ k. not (divides? (k + 2) m)) (2 ^ (degree m / 2 + 1) - 2) (and_yes (leb 2 m) (no_low_factor? m) t).1 (f - 2) (omega arith))
      (subst (λ (x : ℕ). T (divides? x m)) same (→divides? f m e))
    where
      same : f ≡ f - 2 + 2
      same = omega arith

  low-factor : (f q : ℕ) → clmul q f ≡ m → 0 < f → degree f ≤ degree m / 2 → f ≡ 1
  low-factor f q e p b = go (eq-or-lt_of_le p)
    where
      go : (1 ≡ f) ⊎ (1 < f) → f ≡ 1
      go (inl o) = sym o
      go (inr l) =
          absurd (tried f l (lt_of_lt_of_le (degree-right f p).high (pow_mono (omega arith)))
          (ap (rem f) (sym e) ∙ rem_multiple f p q))

  factors : (a b : ℕ) → clmul a b ≡ m → (a ≡ 1) ⊎ (b ≡ 1)
  factors a b e = go (eq-zero-or-pos a) (eq-zero-or-pos b)
    where
      none : m ≡ 0 → ⊥
      none z = omega (arith, large)

      go : (a ≡ 0) ⊎ (0 < a) → (b ≡ 0) ⊎ (0 < b) → (a ≡ 1) ⊎ (b ≡ 1)
      go (inl z) pb = absurd (none (sym e ∙ ap (λ (x : ℕ). clmul x b) z ∙ clmul-zero-left b))
      go (inr pa) (inl z) = absurd (none (sym e ∙ ap (clmul a) z ∙ clmul-zero-right a))
      go (inr pa) (inr pb) = ⊎_elim (λ l. inl (low-factor a b (clmul_comm b a ∙ e) pa l)) (λ l. inr (low-factor b a e pb (omega (arith, sum)))) (le-or-lt (degree a) (degree m / 2))
        where
          sum : degree a + degree b ≡ degree m
          sum = degree_unique (clmul-degree (degree b) (degree-right a pa) (degree-right b pb)) (subst (λ (x : ℕ). HasDegree x (degree m)) (sym e) (degree-right m (omega (arith, large))))

  pub irreducible_of_test : Irreducible m
  irreducible_of_test = record { not_constant = large; no-factors = factors }

-- ---- the test fails: a factor

pub test_of_irreducible : (m : ℕ) → Irreducible m → T (irreducible? m)
unfolding irreducible?
test_of_irreducible m irr =
    yes_and (leb 2 m) (no_low_factor? m) (le→leb 2 m irr.not_constant)
    (→all-below (λ k. not (divides? (k + 2) m)) (2 ^ (degree m / 2 + 1) - 2) (λ k h. not_T (divides? (k + 2) m) (refuted k h)))
  where
    half : degree m / 2 + 1 ≤ degree m
    half = omega (arith, degree-positive (degree-right m (positive m irr)) irr.not_constant)

    refuted : (k : ℕ) → k < 2 ^ (degree m / 2 + 1) - 2 → T (divides? (k + 2) m) → ⊥
    refuted k h t =
        no_divisor m irr {x = k + 2} (omega arith) (omega (arith, pow_mono half)) d.0
        (sym (d.1 ∙ ap (λ (w : ℕ). clmul d.0 (k + 2) ⊕ w) (divides?→ (k + 2) m t) ∙ xor_zero_right (clmul d.0 (k + 2))))
      where
        d : (q : ℕ) × (m ≡ clmul q (k + 2) ⊕ rem (k + 2) m)
        d = divide (k + 2) (omega arith) m

pub irreducible_iff : (m : ℕ) → T (irreducible? m) ↔ Irreducible m
irreducible_iff m = (irreducible_of_test m, test_of_irreducible m)

pub irreducible_stable : (m : ℕ) → ¬ (¬ (Irreducible m)) → Irreducible m
irreducible_stable m n = go (irreducible? m) refl
  where
    go : (t : Bool) → irreducible? m ≡ t → Irreducible m
    go true e = irreducible_of_test m (subst T (sym e) tt)
    go false e = absurd (n (λ irr. subst T e (test_of_irreducible m irr)))

-- ---- by trials

-- no f from 2 on whose degree is at most half that of m divides m
pub irreducible_of_trials : (m : ℕ) → 2 ≤ m → ((f : ℕ) → 1 < f → f < 2 ^ (degree m / 2 + 1) → ¬ (rem f m ≡ 0)) → Irreducible m
unfolding irreducible?
irreducible_of_trials m h fails =
    irreducible_of_test m
    (yes_and (leb 2 m) (no_low_factor? m) (le→leb 2 m h)
    (→all-below (λ k. not (divides? (k + 2) m)) (2 ^ (degree m / 2 + 1) - 2)
    (λ k l. not_T (divides? (k + 2) m) (λ t. fails (k + 2) (omega arith) (omega arith) (divides?→ (k + 2) m t)))))

pub reducible_of_factor : (m f : ℕ) → 1 < f → f < 2 ^ (degree m / 2 + 1) → rem f m ≡ 0 → Irreducible m → ⊥
reducible_of_factor m f h b e irr = tried m (test_of_irreducible m irr) f h b e

-- ---- x as a divisor

-- where a multiple of x divides m, so does x
pub even_divisor : (f m : ℕ) → 0 < f → f % 2 ≡ 0 → rem f m ≡ 0 → m % 2 ≡ 0
even_divisor f m p h e =
    let d = divide f p m in
    let half : f ≡ f / 2 * 2 = omega arith in
    let whole : m ≡ clmul d.0 (f / 2) * 2 =
    d.1 ∙ ap (λ (r : ℕ). clmul d.0 f ⊕ r) e ∙ xor_zero_right (clmul d.0 f) ∙ ap (clmul d.0) half ∙ clmul_double_right d.0 (f / 2) in
    omega arith

-- no f from 2 below d divides m
abbrev pub NoneBelow : ℕ → ℕ → Type 0
NoneBelow m d = (f : ℕ) → f < d → 1 < f → ¬ (rem f m ≡ 0)

pub none-below_three : (m : ℕ) → (m % 2 ≡ 0 → ⊥) → NoneBelow m 3
none-below_three m odd f h l e = odd (even_divisor f m (omega arith) (omega arith) e)

-- d and the even number after it
pub none-below-more : (m d : ℕ) → (m % 2 ≡ 0 → ⊥) → d % 2 ≡ 1 → NoneBelow m d → ¬ (rem d m ≡ 0) → NoneBelow m (d + 2)
none-below-more m d odd p none n f h l e = go (le-or-lt d f)
  where
    go : (d ≤ f) ⊎ (f < d) → ⊥
    go (inl a) = last (eq-or-lt_of_le a)
      where
        last : (d ≡ f) ⊎ (d < f) → ⊥
        last (inl s) = n (ap (λ (x : ℕ). rem x m) s ∙ e)
        last (inr b) = odd (even_divisor f m (omega arith) (omega arith) e)
    go (inr a) = none f a l e

pub even_reducible : (m : ℕ) → 8 ≤ m → m % 2 ≡ 0 → Irreducible m → ⊥
unfolding degree
even_reducible m h e =
    let deg : 3 ≤ degree m = degree-above 3 (degree-right m (omega arith)) (omega arith) in
    reducible_of_factor m 2 (omega arith) (lt_of_lt_of_le (omega arith) (pow_mono {i = 2} (omega arith))) (rem_unique 2 (omega arith) m (m / 2) whole (omega arith))
  where
    whole : m ≡ clmul (m / 2) 2 ⊕ 0
    whole = sym (xor_zero_right (clmul (m / 2) 2) ∙ clmul-two-right (m / 2) ∙ omega arith)
