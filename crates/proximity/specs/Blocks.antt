-- A row by its eight blocks: each is a part of the word or of the proof.
use Rattle.std.specs.Prelude.{◌≡◌, List, ℕ, ◌+◌, ◌*◌, ◌^◌, ◌-◌, ◌≤◌, ◌<◌, length, get_or}
use Rattle.std.proofs.Common.{sym, ap, ◌∙◌, mul-le-mul_right, add-mul, arith, lt-ltb, le-ltb, ext_get_or}
use Rattle.std.proofs.Math.Decide.{dec_lt}
use Rattle.lists.specs.Pick.{pick_true, pick_false}
use Rattle.lists.specs.Tables.{flat, part, flat-part, flat_ext, part-fits, length_part, get_d_part, get_or_insert, get_or_insert-before, get_or_insert-after}
use Rattle.proximity.specs.Dim.{half, row_dim, col_dim}
use Rattle.proximity.specs.Proof.{slot, row, block}
use Rattle.proximity.specs.Subspaces.{pow_rows, pow_eight}
use Rattle.proximity.specs.Layout.{length_row, length_block, slot-inside}

module _ (k : ℕ) (w π : List ℕ) (r j : ℕ) where
  pub block-before : j < slot r → block k w π r j ≡ part (2 ^ half k) (7 * r + j) π
  unfolding block
  block-before h = pick_true _ _ (lt-ltb j (slot r) h)

  pub block-after : slot r < j → block k w π r j ≡ part (2 ^ half k) (7 * r + (j - 1)) π
  unfolding block
  block-after h = pick_false _ _ (le-ltb j (slot r) (omega arith)) ∙ pick_true _ _ (lt-ltb (slot r) j h)

  pub block_at : j ≡ slot r → block k w π r j ≡ part (2 ^ half k) r w
  unfolding block
  block_at e = pick_false _ _ (le-ltb j (slot r) (omega arith)) ∙ pick_false _ _ (le-ltb (slot r) j (omega arith))

blocks_sum : (m i p s d : ℕ) → p ≡ s + d → p * m + i ≡ s * m + (d * m + i)
blocks_sum m i p s d e = omega (arith, ap (λ (x : ℕ). x * m) e, add-mul s d m)

seven_blocks : (m r j i : ℕ) → r * (7 * m) + (j * m + i) ≡ (7 * r + j) * m + i
seven_blocks m r j i = omega (arith, add-mul (7 * r) j m)

blocks_after : (m i j s d : ℕ) → j ≡ s + 1 + d → j * m + i ≡ s * m + m + (d * m + i)
blocks_after m i j s d e = omega (arith, ap (λ (x : ℕ). x * m) e, add-mul (s + 1) d m, add-mul s 1 m)

module _ (k : ℕ) (w π : List ℕ) (lw : length w ≡ 2 ^ k) (lπ : 7 * 2 ^ k ≤ length π) (r : ℕ) (hr : r < 2 ^ col_dim k) (j : ℕ) (hj : j < 8) where
  length_of_row-block : length (part (2 ^ half k) j (row k w π r)) ≡ 2 ^ half k
  length_of_row-block = length_part (2 ^ half k) j (row k w π r) (omega (arith, length_row k w π lw lπ r hr, pow_eight (half k), part-fits (2 ^ half k) hj))

  -- A stored block: i of the seven of row r
  length_of_stored : (i : ℕ) → i < 7 → length (part (2 ^ half k) (7 * r + i) π) ≡ 2 ^ half k
  length_of_stored i h = length_part (2 ^ half k) (7 * r + i) π (omega (arith, pow_rows k, mul-le-mul_right {m = 7 * r + i + 1} {n = 7 * 2 ^ col_dim k} (2 ^ half k) (omega arith)))

  same_block : (b : List ℕ) → length b ≡ 2 ^ half k → ((i : ℕ) → i < 2 ^ half k → get_or (row k w π r) (j * 2 ^ half k + i) 0 ≡ get_or b i 0) → part (2 ^ half k) j (row k w π r) ≡ b
  same_block b l e =
      ext_get_or 0 (part (2 ^ half k) j (row k w π r)) b (length_of_row-block ∙ sym l)
      (λ i h. get_d_part (2 ^ half k) j i (row k w π r) 0 (omega (arith, length_of_row-block)) ∙ e i (omega (arith, length_of_row-block)))

  pub row_block_lem : part (2 ^ half k) j (row k w π r) ≡ block k w π r j
  row_block_lem = by (dec_lt j (slot r)) (dec_lt (slot r) j)
    where
      in_slot : slot r * 2 ^ half k ≤ length (part (7 * 2 ^ half k) r π)
      in_slot = slot-inside k w π lw lπ r hr

      lb : length (part (2 ^ half k) r w) ≡ 2 ^ half k
      lb = length_block k w π lw lπ r hr

      by : Dec (j < slot r) → Dec (slot r < j) → part (2 ^ half k) j (row k w π r) ≡ block k w π r j
      by (yes t) u = same_block (part (2 ^ half k) (7 * r + j) π) (length_of_stored j (omega arith)) at ∙ sym (block-before k w π r j t)
        where
          at : (i : ℕ) → i < 2 ^ half k → get_or (row k w π r) (j * 2 ^ half k + i) 0 ≡ get_or (part (2 ^ half k) (7 * r + j) π) i 0
          at i h =
              get_or_insert-before (slot r * 2 ^ half k) (j * 2 ^ half k + i) (part (2 ^ half k) r w) (part (7 * 2 ^ half k) r π) 0 in_slot (omega (arith, part-fits (2 ^ half k) t))
              ∙ get_d_part (7 * 2 ^ half k) r (j * 2 ^ half k + i) π 0 (omega (arith, mul-le-mul_right {m = j + 1} {n = 7} (2 ^ half k) (omega arith)))
              ∙ ap (λ (x : ℕ). get_or π x 0) (seven_blocks (2 ^ half k) r j i)
              ∙ sym (get_d_part (2 ^ half k) (7 * r + j) i π 0 h)
      by (no t) (yes u) = same_block (part (2 ^ half k) (7 * r + (j - 1)) π) (length_of_stored (j - 1) (omega arith)) at ∙ sym (block-after k w π r j u)
        where
          at : (i : ℕ) → i < 2 ^ half k → get_or (row k w π r) (j * 2 ^ half k + i) 0 ≡ get_or (part (2 ^ half k) (7 * r + (j - 1)) π) i 0
          at i h =
              ap (λ (x : ℕ). get_or (row k w π r) x 0)
              (blocks_after (2 ^ half k) i j (slot r) (j - 1 - slot r) (omega arith) ∙ ap (λ (x : ℕ). slot r * 2 ^ half k + x + ((j - 1 - slot r) * 2 ^ half k + i)) (sym lb))
              ∙ get_or_insert-after (slot r * 2 ^ half k) ((j - 1 - slot r) * 2 ^ half k + i) (part (2 ^ half k) r w) (part (7 * 2 ^ half k) r π) 0 in_slot
              ∙ ap (λ (x : ℕ). get_or (part (7 * 2 ^ half k) r π) x 0) (sym (blocks_sum (2 ^ half k) i (j - 1) (slot r) (j - 1 - slot r) (omega arith)))
              ∙ get_d_part (7 * 2 ^ half k) r ((j - 1) * 2 ^ half k + i) π 0 (omega (arith, part-fits {i = j - 1} {n = 7} (2 ^ half k) (omega arith)))
              ∙ ap (λ (x : ℕ). get_or π x 0) (seven_blocks (2 ^ half k) r (j - 1) i)
              ∙ sym (get_d_part (2 ^ half k) (7 * r + (j - 1)) i π 0 h)
      by (no t) (no u) = same_block (part (2 ^ half k) r w) lb at ∙ sym (block_at k w π r j (omega arith))
        where
          at : (i : ℕ) → i < 2 ^ half k → get_or (row k w π r) (j * 2 ^ half k + i) 0 ≡ get_or (part (2 ^ half k) r w) i 0
          at i h =
              ap (λ (x : ℕ). get_or (row k w π r) (x * 2 ^ half k + i) 0) {x = j} {y = slot r} (omega arith)
              ∙ get_or_insert (slot r * 2 ^ half k) i (part (2 ^ half k) r w) (part (7 * 2 ^ half k) r π) 0 in_slot (omega (arith, lb))

module _ (k : ℕ) (w π : List ℕ) (lw : length w ≡ 2 ^ k) (lπ : 7 * 2 ^ k ≤ length π) (r : ℕ) (hr : r < 2 ^ col_dim k) where
  -- A row is the run of its eight blocks
  pub row_blocks : row k w π r ≡ flat 8 (block k w π r)
  row_blocks =
      sym (flat-part 8 (2 ^ half k) (row k w π r) (length_row k w π lw lπ r hr ∙ pow_eight (half k)))
      ∙ flat_ext 8 _ _ (λ j h. row_block_lem k w π lw lπ r hr j h)

  -- A word with the same blocks is the row
  pub row_of_blocks : (v : List ℕ) → length v ≡ 2 ^ row_dim k → ((j : ℕ) → j < 8 → part (2 ^ half k) j v ≡ block k w π r j) → v ≡ row k w π r
  row_of_blocks v lv e = sym (flat-part 8 (2 ^ half k) v (lv ∙ pow_eight (half k))) ∙ flat_ext 8 _ _ e ∙ sym row_blocks
