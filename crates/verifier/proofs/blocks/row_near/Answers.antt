use mathlib.Core.Path.{◌≡◌, sym, ap, ap₂, ◌∙◌, subst}
use Prim.Native.Nat.{ℕ, ◌+◌, ◌-◌, ◌*◌, ◌%◌, ◌^◌, ◌≤◌}
use native.Mathlib.Omega.{arith}
use lib.ListN.{take, drop}
use lib.Pow.{pow_pos, pow-add, pow_mono}
use Rattle.lists.specs.Tables.{part-fits}
use Rattle.proximity.specs.Dim.{half}
use Rattle.proximity.specs.Subspaces.{pow_rows}
use Rattle.verifier.specs.Parts.{joined}
use Rattle.poly.specs.Blocks.{eighths}
use Rattle.verifier.proofs.Laws.{aligned}
use Rattle.space.specs.Sizes.{max_dim}
use Rattle.verifier.proofs.blocks.row_near.Goals.{Start, After-block_size-size}
use Rattle.verifier.proofs.blocks.row_near.Goals as goal

module _ (c : goal.After-block_size-size) where
  abbrev start : goal.Start
  start = (goal.at.After-block_size-size c).Start

  abbrev k : ℕ
  k = start.args.k

  abbrev r : ℕ
  r = start.args.r

  -- the word's length by blocks of an eighth, and by rows
  cut : 2 ^ k ≡ 8 * 2 ^ (k - 3)
  cut = eighths k (omega (arith, start.requires.2))

  last : r * 2 ^ half k + 2 ^ half k ≤ 2 ^ k
  last = omega (arith, part-fits (2 ^ half k) start.requires.4, pow_rows k)

  small : 2 ^ k ≤ 2 ^ max_dim
  small = pow_mono {j = max_dim} start.requires.3

  rows-in-blocks : 2 ^ (k - 3) ≡ 2 ^ (k - 3 - half k) * 2 ^ half k
  rows-in-blocks = let e : k - 3 ≡ k - 3 - half k + half k = omega (arith, start.requires.2) in ap (λ (t : ℕ). 2 ^ t) e ∙ pow-add 2 (k - 3 - half k) (half k)

  one_block : r * 2 ^ half k % 2 ^ (k - 3) + 2 ^ half k ≤ 2 ^ (k - 3)
  one_block =
      subst (λ (n : ℕ). r * 2 ^ half k % n + 2 ^ half k ≤ n) (sym rows-in-blocks) (aligned (2 ^ (k - 3 - half k)) (2 ^ half k) r (pow_pos (half k)) (pow_pos (k - 3 - half k)))

  product_is : r * c.block_size-size.result ≡ r * 2 ^ half k
  product_is = ap (λ (n : ℕ). r * n) c.block_size-size.ensures

pub overflow_mul-r : goal.overflow_mul-r
overflow_mul-r c = omega (arith, product_is c, last c, small c)

pub stretch-requires : goal.stretch-requires
stretch-requires c = let p = (start c).requires in record { in_parts = (p.0, p.1, omega (arith, p.3)); at_bound = (omega (arith, product_is c, last c, cut c, pow_pos (half (k c))), subst (λ (n : ℕ). r c * n % 2 ^ (k c - 3) + n ≤ 2 ^ (k c - 3)) (sym c.block_size-size.ensures) (one_block c)) }

pub returns : goal.returns
returns c = let e = (goal.at.returns c).After-block_size-size in
    let a = (start e).args in
    c.stretch.ensures ∙ ap₂ (λ (x y : ℕ). take x (drop y (joined a.near.now a.far.now a.slot))) e.block_size-size.ensures (product_is e)
