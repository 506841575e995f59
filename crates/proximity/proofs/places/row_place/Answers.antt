-- `proximity::places::row_place` meets its contract, by the three cases.
-- the block's size, and where it begins
use mathlib.Core.Path.{◌≡◌, sym, ap, ap₂, ◌∙◌}
use Prim.Native.Nat.{ℕ, ◌+◌, ◌*◌, ◌^◌, ◌-◌, ◌≤◌, ◌<◌}
use native.Mathlib.Omega.{arith}
use Rattle.lists.specs.Tables.{part-fits}
use Rattle.proximity.specs.Dim.{half, col_dim}
use Rattle.proximity.specs.Proof.{slot}
use Rattle.proximity.specs.declared.Place.TheVariants.{InWord, InProof}
use Rattle.proximity.specs.Subspaces.{pow_rows, pow_eight}
use Rattle.proximity.specs.Layout.{seven, slot-fits}
use Rattle.proximity.specs.Reads.{cell-before, cell_in, cell-after}
use Rattle.proximity.proofs.Laws.{pow_small}
use Rattle.proximity.proofs.places.row_place.Goals.{Start, After-slot}
use Rattle.proximity.proofs.places.row_place.Goals as goal

module _ (c : goal.After-slot) where
  abbrev start : goal.Start
  start = (goal.at.After-slot c).Start

  abbrev k : ℕ
  k = start.args.k

  abbrev r : ℕ
  r = start.args.r

  abbrev i : ℕ
  i = start.args.i

  size_is : c.block_size-size.result ≡ 2 ^ half k
  size_is = c.block_size-size.ensures

  start_is : c.slot.result * c.block_size-size.result ≡ slot r * 2 ^ half k
  start_is = ap₂ ◌*◌ c.slot.ensures size_is

  word-is : r * c.block_size-size.result ≡ r * 2 ^ half k
  word-is = ap (λ (x : ℕ). r * x) size_is

  block-small : 8 * 2 ^ half k ≤ 131072
  block-small = omega (arith, pow_eight (half k), pow_small (half k + 3) (omega arith))

  start_small : slot r * 2 ^ half k ≤ 131072
  start_small = omega (arith, slot-fits r (2 ^ half k), block-small)

  place-small : i < 131072
  place-small = omega (arith, pow_eight (half k), block-small)

  word_small : r * 2 ^ half k ≤ 131072
  word_small = omega (arith, pow_rows k, part-fits {i = r} {n = 2 ^ col_dim k} (2 ^ half k) (omega arith), pow_small k (omega arith))

  stored-small : r * (7 * 2 ^ half k) ≤ 917504
  stored-small = omega (arith, seven k, part-fits {i = r} {n = 2 ^ col_dim k} (7 * 2 ^ half k) (omega arith), pow_small k (omega arith))

pub overflow_mul-start : goal.overflow_mul-start
overflow_mul-start c = omega (arith, start_is c, start_small c)

pub overflow_add-result : goal.overflow_add-result
overflow_add-result c = let a = (goal.at.overflow_add-result c).After-slot in omega (arith, c.blocks_at-stored.ensures, stored-small a, place-small a)

pub returns-then-i-start : goal.returns-then-i-start
returns-then-i-start c = let a = (goal.at.returns-then-i-start c).After-slot in
    ap (λ (x : ℕ). InProof (x + i a)) c.blocks_at-stored.ensures ∙ sym (cell-before (k a) (r a) (i a) (omega (arith, start_is a)))

pub overflow_add-start : goal.overflow_add-start
overflow_add-start c = let a = (goal.at.overflow_add-start c).After-slot in omega (arith, start_is a, start_small a, size_is a, block-small a)

pub overflow_mul-result : goal.overflow_mul-result
overflow_mul-result c = let a = (goal.at.overflow_mul-result c).After-slot in omega (arith, word-is a, word_small a)

pub overflow_add-result-then-i-start-2 : goal.overflow_add-result-then-i-start-2
overflow_add-result-then-i-start-2 c = let a = (goal.at.overflow_add-result-then-i-start-2 c).After-slot in omega (arith, word-is a, word_small a, place-small a)

pub returns-then-i-start-2 : goal.returns-then-i-start-2
returns-then-i-start-2 c = let a = (goal.at.returns-then-i-start-2 c).After-slot in
    ap₂ (λ (x y : ℕ). InWord (x + (i a - y))) (word-is a) (start_is a)
    ∙ sym (cell_in (k a) (r a) (i a) (omega (arith, start_is a)) (omega (arith, start_is a, size_is a)))

pub overflow_add-result-2 : goal.overflow_add-result-2
overflow_add-result-2 c = let a = (goal.at.overflow_add-result-2 c).After-slot in omega (arith, c.blocks_at-stored.ensures, stored-small a, place-small a)

pub returns : goal.returns
returns c = let a = (goal.at.returns c).After-slot in
    ap₂ (λ (x y : ℕ). InProof (x + (i a - y))) c.blocks_at-stored.ensures (size_is a)
    ∙ sym (cell-after (k a) (r a) (i a) (omega (arith, start_is a, size_is a)))
