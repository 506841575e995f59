-- The inverse transforms of the blocks of 2^h numbers, each on its coset.
use Rattle.std.specs.Prelude.{◌≡◌, List, ℕ, ◌+◌, ◌^◌, ◌<◌, length, get_or}
use Rattle.lists.specs.Tables.{part}
use Rattle.field.specs.Laws.{Ops, IsField}
use Rattle.poly.specs.Span.{elem}
use Rattle.poly.specs.Transform.{inverse}

module _ {K : Ops} (F : IsField K) where
  infixl 60 ◌⊕◌
  infixl 70 ◌⊗◌
  open K use {◌⊕◌, ◌⊗◌}

  -- ---- the layers above the blocks of 2^h numbers

  module _ (T : ℕ → ℕ → ℕ) (h C : ℕ) (L : ℕ → List ℕ) (count : (j : ℕ) → length (L j) ≡ C) (entries : (i j : ℕ) → i < C → get_or (L j) i 0 ≡ T (h + i) j) where
    -- block q has the images of the shift and of the basis elements from number h on at whose places q has a one bit
    abbrev pub block_coefficients : (ℕ → ℕ) → List ℕ → ℕ → List ℕ
    block_coefficients v g q = inverse K T h (λ j. v j ⊕ elem K (L j) q) (part (2 ^ h) q g)
