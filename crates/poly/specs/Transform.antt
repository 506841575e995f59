-- The additive Fourier transform of Lin, Chung and Han as functions of lists of numbers: from coefficients to the values on a coset, and back.
use Rattle.std.specs.Prelude.{List, ◌++◌, ℕ, zero, suc, ◌^◌, take, drop}
use Rattle.field.specs.Laws.{Ops}
use Rattle.poly.specs.Poly.{add_p, scale_p}

module _ (K : Ops) where
  -- lo + c hi, for the two halves of d
  abbrev pub folded : ℕ → ℕ → List ℕ → List ℕ
  folded j c d = add_p K (take (2 ^ j) d) (scale_p K c (drop (2 ^ j) d))

  -- lo + c hi and lo + (c + 1) hi back to lo and hi
  abbrev pub unfolded : ℕ → List ℕ → List ℕ → List ℕ
  unfolded c p q = add_p K p (scale_p K c (add_p K p q)) ++ add_p K p q

-- T i j is the image of basis element i under the normalised W j, and v j that of the shift. Nothing is divided.
module _ (K : Ops) (T : ℕ → ℕ → ℕ) where
  infixl 60 ◌⊕◌
  open K use {◌⊕◌}

  -- The images of the shift plus basis element j
  abbrev pub shifted : ℕ → (ℕ → ℕ) → ℕ → ℕ
  shifted j v i = v i ⊕ T j i

  -- From 2 ^ j coefficients to the values at the shift plus element i
  abbrev pub transform : ℕ → (ℕ → ℕ) → List ℕ → List ℕ
  transform zero v d = d
  transform (suc j) v d = transform j v (folded K j (v j) d) ++ transform j (shifted j v) (add_p K (folded K j (v j) d) (drop (2 ^ j) d))

  -- From the values to the coefficients
  abbrev pub inverse : ℕ → (ℕ → ℕ) → List ℕ → List ℕ
  inverse zero v g = g
  inverse (suc j) v g = unfolded K (v j) (inverse j v (take (2 ^ j) g)) (inverse j (shifted j v) (drop (2 ^ j) g))
