-- Checks 1 and 2, of a modulus, and what a field made from it is.
use Rattle.std.specs.Prelude.{◌≡◌, refl, ◌⊎◌, [], ◌∷◌, ℕ, ◌^◌, ◌≤◌, ◌<◌}
use Rattle.std.proofs.Common.{inl, inr, lt_of_lt_of_le, arith, pow_mono}
use Rattle.lists.specs.Answers.{Checks, Passes}
use Rattle.field.specs.Binary.{degree, Irreducible}
use Rattle.field.specs.Decide.{irreducible_stable}
use Rattle.field.specs.Degree.{degree-right, degree-above, degree-below}
use Rattle.field.specs.Division.{degree-high}
use Rattle.field.specs.Products.{Sized}
use Rattle.field.specs.declared.Field.{Field}

abbrev pub OutOfRange : ℕ → Type 0
OutOfRange m = (m < 8) ⊎ (131071 < m)

abbrev pub modulus_checks : ℕ → Checks
modulus_checks m = (1, OutOfRange m) ∷ (2, (Irreducible m → ⊥)) ∷ []

pub in_range : {m : ℕ} → 8 ≤ m → m < 131072 → OutOfRange m → ⊥
in_range {m} l h (inl a) = omega arith
in_range {m} l h (inr a) = omega arith

pub not-less : {x y : ℕ} → (x < y → ⊥) → y ≤ x
not-less {x} {y} f = omega (arith, f)

-- what a modulus that passes is
pub record GoodModulus (m : ℕ) : Type 0 where
  pub low : 8 ≤ m
  pub high : m < 131072
  pub irreducible : Irreducible m

pub modulus_passed : (m : ℕ) → Passes (modulus_checks m) → GoodModulus m
modulus_passed m (inl a) = absurd (omega arith)
modulus_passed m (inr (out, inl a)) = absurd (omega arith)
modulus_passed m (inr (out, inr a)) =
    record { low = not-less (λ h. out (inl h)); high = omega (arith, not-less (λ h. out (inr h))); irreducible = irreducible_stable m a.0 }

-- its degree is 3 to 16
pub degree_range : (m : ℕ) → GoodModulus m → (3 ≤ degree m) × (degree m ≤ 16)
degree_range m g =
    let d = degree-right m (omega (arith, g.low)) in
    (degree-above 3 d g.low, omega (arith, degree-below 17 d g.high))

pub good_passes : (m : ℕ) → GoodModulus m → Passes (modulus_checks m)
good_passes m g = inr (in_range g.low g.high, inr ((λ f. f g.irreducible), refl))

-- f is the field of the modulus m, whose degree is 3 to 16
pub record FieldOf (m : ℕ) (f : Field) : Type 0 where
  pub modulus : f.modulus ≡ m
  pub sized : Sized f
  pub low : 3 ≤ f.degree

-- ---- what fits 16 and 17 bits in a field

module _ {f : Field} (s : Sized f) where
  pub symbols-small : 2 ^ degree f.modulus ≤ 65536
  symbols-small = pow_mono {j = 16} (omega (arith, s.right, s.small))

  pub modulus_small : f.modulus < 131072
  modulus_small = lt_of_lt_of_le (degree-high f.modulus) (pow_mono {j = 17} (omega (arith, s.right, s.small)))
