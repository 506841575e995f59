-- The eight blocks of a word, each on its coset.
use Rattle.std.specs.Prelude.{◌≡◌, List, ℕ, ◌+◌, ◌*◌, ◌^◌, ◌-◌, ◌≤◌, drop}
use Rattle.std.proofs.Common.{ap, ◌∙◌, arith, pow-add}
use Rattle.lists.specs.Tables.{part}
use Rattle.field.specs.Laws.{Ops}
use Rattle.poly.specs.Span.{elem}
use Rattle.poly.specs.Transform.{transform, inverse}
use Rattle.poly.specs.Values.{table, images_of}

-- A word of 2^k symbols has eight blocks
pub eighths : (k : ℕ) → 3 ≤ k → 2 ^ k ≡ 8 * 2 ^ (k - 3)
eighths k h = ap (λ (t : ℕ). 2 ^ t) {x = k} {y = 3 + (k - 3)} (omega arith) ∙ pow-add 2 3 (k - 3)

module _ (K : Ops) (k : ℕ) (b : List ℕ) where
  -- Block r lies on the coset of this element
  abbrev pub block_shift : ℕ → ℕ
  block_shift r = elem K (drop (k - 3) b) r

  -- The coefficients of block r of the word w
  abbrev pub block_coeffs : List ℕ → ℕ → List ℕ
  block_coeffs w r = inverse K (table K b) (k - 3) (images_of K b (block_shift r)) (part (2 ^ (k - 3)) r w)

  -- The block r with the coefficients d
  abbrev pub block_values : List ℕ → ℕ → List ℕ
  block_values d r = transform K (table K b) (k - 3) (images_of K b (block_shift r)) d
