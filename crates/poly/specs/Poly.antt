-- Polynomials as lists of coefficients, lowest first: value, sum, multiple, product, and quotient by x + a.
use Rattle.std.specs.Prelude.{◌≡◌, refl, List, [], ◌∷◌, ℕ, zero, suc, ◌+◌, ◌<◌, max, length, get_or, take, drop}
use Rattle.std.proofs.Common.{sym, ap, arith}
use Rattle.field.specs.Laws.{Ops}

-- f takes different values at different numbers below n
abbrev pub Distinct : ℕ → (ℕ → ℕ) → Type 0
Distinct n f = (i j : ℕ) → i < n → j < n → f i ≡ f j → i ≡ j

module _ (K : Ops) where
  infixl 60 ◌⊕◌
  infixl 70 ◌⊗◌
  open K use {◌⊕◌, ◌⊗◌, inv, Sym}

  -- The value at x
  abbrev pub eval : List ℕ → ℕ → ℕ
  eval [] x = 0
  eval (c ∷ p) x = c ⊕ x ⊗ eval p x

  -- The sum of two polynomials
  abbrev pub add_p : List ℕ → List ℕ → List ℕ
  add_p [] q = q
  add_p (c ∷ p) [] = c ∷ p
  add_p (c ∷ p) (d ∷ q) = (c ⊕ d) ∷ add_p p q

  -- The multiple by a number
  abbrev pub scale_p : ℕ → List ℕ → List ℕ
  scale_p a [] = []
  scale_p a (c ∷ p) = (a ⊗ c) ∷ scale_p a p

  -- The quotient of c ∷ p, for any c, by x + a
  abbrev pub quot : List ℕ → ℕ → List ℕ
  quot [] a = []
  quot (d ∷ p) a = eval (d ∷ p) a ∷ quot p a

  -- The product of two polynomials
  abbrev pub mul_p : List ℕ → List ℕ → List ℕ
  mul_p [] q = []
  mul_p (c ∷ p) q = add_p (scale_p c q) (0 ∷ mul_p p q)

  pub add_p-nil : (p : List ℕ) → add_p p [] ≡ p
  add_p-nil [] = refl
  add_p-nil (c ∷ p) = refl

  pub length_add_p : (p q : List ℕ) → length (add_p p q) ≡ max (length p) (length q)
  length_add_p [] q = omega arith
  length_add_p (c ∷ p) [] = omega arith
  length_add_p (c ∷ p) (d ∷ q) = omega (arith, length_add_p p q)

  pub length_scale_p : (a : ℕ) (p : List ℕ) → length (scale_p a p) ≡ length p
  length_scale_p a [] = refl
  length_scale_p a (c ∷ p) = ap suc (length_scale_p a p)

  pub get_or_add_p : (p q : List ℕ) (i : ℕ) → i < length p → i < length q → get_or (add_p p q) i 0 ≡ get_or p i 0 ⊕ get_or q i 0
  get_or_add_p [] q i hp hq = absurd (omega arith)
  get_or_add_p (c ∷ p) [] i hp hq = absurd (omega arith)
  get_or_add_p (c ∷ p) (d ∷ q) zero hp hq = refl
  get_or_add_p (c ∷ p) (d ∷ q) (suc i) hp hq = get_or_add_p p q i (omega arith) (omega arith)

  pub get_or_scale_p : (a : ℕ) (p : List ℕ) (i : ℕ) → i < length p → get_or (scale_p a p) i 0 ≡ a ⊗ get_or p i 0
  get_or_scale_p a [] i h = absurd (omega arith)
  get_or_scale_p a (c ∷ p) zero h = refl
  get_or_scale_p a (c ∷ p) (suc i) h = get_or_scale_p a p i (omega arith)

  pub length_mul_p : (p q : List ℕ) → 0 < length p → 0 < length q → length (mul_p p q) + 1 ≡ length p + length q
  length_mul_p [] q hp hq = absurd (omega arith)
  length_mul_p (c ∷ []) q hp hq = omega (arith, length_add_p (scale_p c q) (0 ∷ []), length_scale_p c q)
  length_mul_p (c ∷ b ∷ p) q hp hq =
      omega (arith, length_add_p (scale_p c q) (0 ∷ mul_p (b ∷ p) q), length_scale_p c q, length_mul_p (b ∷ p) q (omega arith) hq)

  pub take_add_p : (n : ℕ) (p q : List ℕ) → take n (add_p p q) ≡ add_p (take n p) (take n q)
  take_add_p zero p q = refl
  take_add_p (suc n) [] q = refl
  take_add_p (suc n) (c ∷ p) [] = refl
  take_add_p (suc n) (c ∷ p) (d ∷ q) = ap (λ (l : List ℕ). (c ⊕ d) ∷ l) (take_add_p n p q)

  pub drop_add_p : (n : ℕ) (p q : List ℕ) → drop n (add_p p q) ≡ add_p (drop n p) (drop n q)
  drop_add_p zero p q = refl
  drop_add_p (suc n) [] q = refl
  drop_add_p (suc n) (c ∷ p) [] = sym (add_p-nil (drop n p))
  drop_add_p (suc n) (c ∷ p) (d ∷ q) = drop_add_p n p q

  pub take_scale_p : (a n : ℕ) (p : List ℕ) → take n (scale_p a p) ≡ scale_p a (take n p)
  take_scale_p a zero p = refl
  take_scale_p a (suc n) [] = refl
  take_scale_p a (suc n) (c ∷ p) = ap (λ (l : List ℕ). (a ⊗ c) ∷ l) (take_scale_p a n p)

  pub drop_scale_p : (a n : ℕ) (p : List ℕ) → drop n (scale_p a p) ≡ scale_p a (drop n p)
  drop_scale_p a zero p = refl
  drop_scale_p a (suc n) [] = refl
  drop_scale_p a (suc n) (c ∷ p) = drop_scale_p a n p

  pub length_quot : (p : List ℕ) (a : ℕ) → length (quot p a) ≡ length p
  length_quot [] a = refl
  length_quot (d ∷ p) a = ap suc (length_quot p a)
