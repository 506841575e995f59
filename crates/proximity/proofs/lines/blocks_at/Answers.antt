-- `proximity::lines::blocks_at` meets its contract: the stored blocks lie inside the stored rows.
use mathlib.Core.Path.{◌≡◌, ap}
use Prim.Native.Nat.{ℕ, ◌*◌, ◌^◌, ◌<◌}
use native.Mathlib.Omega.{arith}
use Rattle.lists.specs.Tables.{part-fits}
use Rattle.proximity.specs.Dim.{half, col_dim}
use Rattle.proximity.specs.Layout.{seven}
use Rattle.proximity.proofs.Laws.{pow_small}
use Rattle.proximity.proofs.lines.blocks_at.Goals.{After-block_size}
use Rattle.proximity.proofs.lines.blocks_at.Goals as goal

module _ (c : goal.After-block_size) where
  abbrev k : ℕ
  k = c.args.k

  abbrev r : ℕ
  r = c.args.r

  same : r * (7 * c.block_size.result) ≡ r * (7 * 2 ^ half k)
  same = ap (λ (x : ℕ). r * (7 * x)) c.block_size.ensures

  fits : r * (7 * 2 ^ half k) < 18446744073709551616
  fits = omega (arith, part-fits {i = r} {n = 2 ^ col_dim k} (7 * 2 ^ half k) (omega arith), seven k, pow_small k (omega arith))

pub overflow_mul-result : goal.overflow_mul-result
overflow_mul-result c = omega (arith, c.block_size.ensures, pow_small (half (k c)) (omega arith))

pub overflow_mul-result-2 : goal.overflow_mul-result-2
overflow_mul-result-2 c = omega (arith, same c, fits c)

pub returns : goal.returns
returns c = same c
