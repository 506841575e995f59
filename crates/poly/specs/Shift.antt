-- A shift of the elements: words that hold P at the shift plus element i, the codewords among them, and P(x + shift). Assumes nothing.
use Rattle.std.specs.Prelude.{◌≡◌, refl, List, [], ◌∷◌, ℕ, suc, ◌^◌, ◌-◌, length}
use Rattle.std.proofs.Common.{ap, ◌∙◌, arith}
use Rattle.lists.specs.All.{All}
use Rattle.lists.specs.Tables.{tab}
use Rattle.field.specs.Laws.{Ops}
use Rattle.poly.specs.Poly.{eval, add_p, scale_p, length_add_p, length_scale_p}
use Rattle.poly.specs.Span.{elem}

module _ (K : Ops) where
  infixl 60 ◌⊕◌
  open K use {◌⊕◌}

  -- the word of the polynomial p at the shift σ: its value at σ plus element i in position i
  abbrev pub word_at : ℕ → ℕ → List ℕ → List ℕ → List ℕ
  word_at σ k b p = tab (2 ^ k) (λ i. eval K p (σ ⊕ elem K b i))

  -- w evaluates a polynomial of degree below an eighth of its length at the shifted elements
  abbrev pub CodewordAt : ℕ → ℕ → List ℕ → List ℕ → Type 0
  CodewordAt σ k b w = (p : List ℕ) × (length p ≡ 2 ^ (k - 3)) × All K.Sym p × (w ≡ word_at σ k b p)

  -- P(x + σ), by Horner's rule
  abbrev pub shift_p : ℕ → List ℕ → List ℕ
  shift_p σ [] = []
  shift_p σ (c ∷ p) = add_p K (c ∷ shift_p σ p) (scale_p K σ (shift_p σ p))

  length_step : (c σ : ℕ) (q : List ℕ) → length (add_p K (c ∷ q) (scale_p K σ q)) ≡ suc (length q)
  length_step c σ q = omega (arith, length_add_p K (c ∷ q) (scale_p K σ q), length_scale_p K σ q)

  pub length_shift_p : (σ : ℕ) (p : List ℕ) → length (shift_p σ p) ≡ length p
  length_shift_p σ [] = refl
  length_shift_p σ (c ∷ p) = length_step _ σ (shift_p σ p) ∙ ap suc (length_shift_p σ p)
