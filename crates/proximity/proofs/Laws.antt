-- Numbers of the layout are small. Assumes nothing.
use mathlib.Core.Path.{◌≡◌, sym, ap, ap₂, subst}
use Prim.Native.Nat.{ℕ, ◌+◌, ◌*◌, ◌^◌, ◌%◌, ◌≤◌, ◌<◌}
use native.Mathlib.Omega.{arith}
use lib.Pow.{pow_mono}
use Rattle.lists.specs.Tables.{part-fits}
use Rattle.space.specs.Sizes.{max_dim}
use Rattle.proximity.specs.Dim.{half, row_dim, col_dim, S}
use Rattle.proximity.specs.Tree.{S_node, max_proof}
use Rattle.proximity.specs.LineLaws.{S-small}

pub pow_small : (n : ℕ) → n ≤ 17 → 2 ^ n ≤ 131072
pow_small n h = pow_mono {i = n} {j = 17} h

-- nothing is shifted out
pub seven_exact : (k : ℕ) → k ≤ 17 → 7 * 2 ^ k % 18446744073709551616 ≡ 7 * 2 ^ k
seven_exact k h = omega (arith, pow_small k h)

-- where the proof of row r begins, with n symbols for each row's proof
module _ (k r n : ℕ) (s : 7 ≤ k) (h : k ≤ max_dim) (hr : r < 2 ^ col_dim k) (en : n ≡ S (row_dim k)) where
  row_inside : 7 * 2 ^ k + r * n < max_proof + 1
  row_inside =
      subst (λ (n : ℕ). 7 * 2 ^ k + r * n < max_proof + 1) (sym en)
      (omega (arith, S_node k s, S-small k (omega arith), part-fits (S (row_dim k)) hr))

  pub row_fits : r * n < 18446744073709551616
  row_fits = omega (arith, row_inside)

  pub row-at-fits : 7 * 2 ^ k % 18446744073709551616 + r * n < 18446744073709551616
  row-at-fits = omega (arith, row_inside)

  pub row_at : 7 * 2 ^ k % 18446744073709551616 + r * n ≡ 7 * 2 ^ k + r * S (row_dim k)
  row_at = ap₂ ◌+◌ (seven_exact k (omega arith)) (ap (λ (n : ℕ). r * n) en)

-- where the proof of column a begins, after those of the rows, with m symbols for each column's proof
module _ (k c a n m : ℕ) (s : 7 ≤ k) (h : k ≤ max_dim) (ha : a < 2 ^ (half k + 2)) (ec : c ≡ 2 ^ col_dim k) (en : n ≡ S (row_dim k)) (em : m ≡ S (col_dim k)) where
  col_inside : 7 * 2 ^ k + 2 ^ col_dim k * S (row_dim k) + a * S (col_dim k) < max_proof + 1
  col_inside = omega (arith, S_node k s, S-small k (omega arith), part-fits (S (col_dim k)) ha)

  products : (c * n ≡ 2 ^ col_dim k * S (row_dim k)) × (a * m ≡ a * S (col_dim k))
  products = (ap₂ ◌*◌ ec en, ap (λ (m : ℕ). a * m) em)

  pub rows_fit : c * n < 18446744073709551616
  rows_fit = omega (arith, products.0, col_inside)

  pub after_rows_fits : 7 * 2 ^ k % 18446744073709551616 + c * n < 18446744073709551616
  after_rows_fits = omega (arith, products.0, col_inside)

  pub col_fits : a * m < 18446744073709551616
  col_fits = omega (arith, products.1, col_inside)

  pub col_at-fits : 7 * 2 ^ k % 18446744073709551616 + c * n + a * m < 18446744073709551616
  col_at-fits = omega (arith, products.0, products.1, col_inside)

  pub col_at : 7 * 2 ^ k % 18446744073709551616 + c * n + a * m ≡ 7 * 2 ^ k + 2 ^ col_dim k * S (row_dim k) + a * S (col_dim k)
  col_at = ap₂ ◌+◌ (ap₂ ◌+◌ (seven_exact k (omega arith)) products.0) products.1
