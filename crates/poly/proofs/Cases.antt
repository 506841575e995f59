-- Case P4 holds.
use Rattle.std.specs.Prelude.{◌≡◌, refl, [], ◌∷◌, ℕ, ◌<◌}
use Rattle.std.proofs.Common.{ap₂, ◌∙◌}
use Rattle.field.specs.Binary.{◌⊕◌, degree, product, Irreducible, irreducible?}
use Rattle.field.specs.Decide.{irreducible_of_test}
use Rattle.field.specs.Symbols.{symbols, symbols-field}
use Rattle.field.specs.Laws.{Ops, IsField, ring, ⊗_1}
use Rattle.poly.specs.Poly.{eval}
use Rattle.poly.specs.Span.{vanish}
use Rattle.poly.proofs.Span.{vanish-nil, vanish-cons}
use Rattle.poly.specs.Cases.{P4}

module _ {K : Ops} (F : IsField K) where
  infixl 60 ◌⊞◌
  infixl 70 ◌⊗◌
  open K use {◌⊕◌ as ◌⊞◌, ◌⊗◌, Sym}

  top : (x : ℕ) → Sym x → x ⊗ (1 ⊞ x ⊗ 0) ≡ x
  top x s = simp (⊗_1 F x s, ring, F)

  expand : (a c x y : ℕ) → y ≡ x → x ⊗ (x ⊞ a) ⊗ (x ⊗ (x ⊞ a) ⊞ c) ≡ 0 ⊞ x ⊗ (c ⊗ a ⊞ x ⊗ (a ⊗ a ⊞ c ⊞ x ⊗ (0 ⊞ y)))
  expand a c x y e = simp (e, ring, F)

  one_element : (a x : ℕ) → vanish K (a ∷ []) x ≡ x ⊗ (x ⊞ a)
  one_element a x = vanish-cons F a [] x ∙ ap₂ (λ (u v : ℕ). u ⊗ (u ⊞ v)) (vanish-nil F x) (vanish-nil F a)

  -- The subspace polynomial of two elements, multiplied out
  two-elements : (b a x : ℕ) → Sym x → vanish K (b ∷ a ∷ []) x
      ≡ eval K (0 ∷ (b ⊗ (b ⊞ a) ⊗ a) ∷ (a ⊗ a ⊞ b ⊗ (b ⊞ a)) ∷ 0 ∷ 1 ∷ []) x
  two-elements b a x s =
      vanish-cons F b (a ∷ []) x ∙ ap₂ (λ (u v : ℕ). u ⊗ (u ⊞ v)) (one_element a x) (one_element a b)
      ∙ expand a (b ⊗ (b ⊞ a)) x (x ⊗ (1 ⊞ x ⊗ 0)) (top x s)

irreducible_283 : Irreducible 283
unfolding irreducible?
irreducible_283 = irreducible_of_test 283 tt

-- q(x) = x^4 + 7x^2 + 6x, coefficients lowest first, and q(4) = 115
q_283 : (x : ℕ) → x < 256 → vanish (symbols 283) (1 ∷ 2 ∷ []) x ≡ eval (symbols 283) (0 ∷ 6 ∷ 7 ∷ 0 ∷ 1 ∷ []) x
unfolding degree product ◌⊕◌
q_283 x h = two-elements (symbols-field 283 irreducible_283) 1 2 x h

q_283_at_4 : vanish (symbols 283) (1 ∷ 2 ∷ []) 4 ≡ 115
unfolding vanish product ◌⊕◌
q_283_at_4 = refl

pub p4 : P4
p4 = (q_283, q_283_at_4)
