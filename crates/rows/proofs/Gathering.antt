-- The blocks of the rows, and the words that are gathered from them. Assumes nothing.
use mathlib.Core.Path.{◌≡◌, refl, sym, ap, ap₂, ◌∙◌, subst}
use mathlib.Core.List.{List, ◌++◌}
use Prim.Native.Nat.{ℕ, ◌+◌, ◌-◌, ◌*◌, ◌/◌, ◌%◌, ◌^◌, ◌≤◌, ◌<◌}
use native.Mathlib.Decide.{ℕ_discrete}
use native.Mathlib.Nat.{div-lt_iff_lt-mul, mod-lt, div-add-mod'}
use native.Mathlib.Omega.{arith}
use borrow.Rule.Slice.PartMut.{put_mid}
use lib.ListN.{length, get_or, take, drop, take-append-drop}
use lib.Pow.{pow_pos, pow_mono}
use lib.Seq.{length-take-le}
use Rattle.lists.specs.Filled.{Filled, filled-part, filled-other, put-filled}
use Rattle.lists.specs.Overwrite.{length_cut, copy-whole}
use Rattle.lists.specs.Tables.{part, part-fits, part_append, length_part, get_d_part, tab_of}
use Rattle.space.specs.Sizes.{max_dim, max_line, max_column}
use Rattle.proximity.specs.Dim.{half, row_dim, col_dim}
use Rattle.proximity.specs.Proof.{slot, row, block}
use Rattle.proximity.specs.Subspaces.{pow_rows, pow_eight}
use Rattle.proximity.specs.Layout.{length_row}
use Rattle.proximity.specs.Blocks.{block_at, row_block_lem, row_of_blocks}
use Rattle.rows.specs.Rows.{number}
use Rattle.rows.proofs.Stores.{number_fits, stored-block}

-- a part, as the code cuts it
cut-part : (n size m i : ℕ) (xs : List ℕ) → n ≡ i → size ≡ m → take (n * size + size - n * size) (drop (n * size) xs) ≡ part m i xs
cut-part n size m i xs en es =
    let count : n * size + size - n * size ≡ size = omega arith in
    ap₂ (λ (x y : ℕ). take x (drop y xs)) (count ∙ es) (ap₂ ◌*◌ en es)

module _ (k : ℕ) (top : k ≤ max_dim) (w π : List ℕ) (lw : length w ≡ 2 ^ k) (lπ : 7 * 2 ^ k ≤ length π) (r : ℕ) (hr : r < 2 ^ col_dim k) (size : ℕ) (es : size ≡ 2 ^ half k) where
  small : 2 ^ k ≤ 2 ^ max_dim
  small = pow_mono {j = max_dim} top

  pub few_rows : r < max_column
  few_rows = let few : 2 ^ col_dim k ≤ max_column = pow_mono {j = col_dim max_dim} (omega arith) in omega arith

  -- ---- the block that lies in the word

  pub own_fits : (r * size + size ≤ length w) × (r * size + size ≤ 2 ^ max_dim)
  own_fits =
      let n : r * size + size ≤ 2 ^ k = omega (arith, ap (λ (x : ℕ). r * x) es, pow_rows k, part-fits (2 ^ half k) hr) in
      (omega arith, omega (arith, small))

  pub own_block : (j : ℕ) → j ≡ slot r → take (r * size + size - r * size) (drop (r * size) w) ≡ block k w π r j
  own_block j e = cut-part r size (2 ^ half k) r w refl es ∙ sym (block_at k w π r j e)

  -- ---- a stored one
  module _ (j n : ℕ) (hj : j < 8) (d : j ≡ slot r → ⊥) (en : n ≡ number r j) where
    pub stored-fits : (n * size + size ≤ length π) × (n * size + size ≤ 7 * 2 ^ max_dim)
    stored-fits =
        let m : n * size + size ≤ 7 * 2 ^ k = omega (arith, ap₂ ◌*◌ en es, number_fits k r j hr hj d) in
        (omega arith, omega (arith, small))

    pub cut-block : take (n * size + size - n * size) (drop (n * size) π) ≡ block k w π r j
    cut-block = cut-part n size (2 ^ half k) (number r j) π en es ∙ sym (stored-block k w π r j d)

  -- ---- the symbols of the row

  pub length_of_block : (j : ℕ) → j < 8 → length (block k w π r j) ≡ 2 ^ half k
  length_of_block j hj =
      ap length (sym (row_block_lem k w π lw lπ r hr j hj))
      ∙ length_part (2 ^ half k) j (row k w π r) (omega (arith, length_row k w π lw lπ r hr, pow_eight (half k), part-fits (2 ^ half k) hj))

  pub size_pos : 0 < size
  size_pos = omega (arith, pow_pos (half k))

  module _ (a : ℕ) (ha : a < 2 ^ row_dim k) where
    pub of_block : a / size < 8
    of_block = (div-lt_iff_lt-mul size_pos).1 (omega (arith, pow_eight (half k)))

    pub in_block : a % size < length (block k w π r (a / size))
    in_block = omega (arith, length_of_block (a / size) of_block, mod-lt a size_pos)

    pub symbol_of_block : get_or (block k w π r (a / size)) (a % size) 0 ≡ get_or (row k w π r) a 0
    symbol_of_block =
        ap (λ (l : List ℕ). get_or l (a % size) 0) (sym (row_block_lem k w π lw lπ r hr (a / size) of_block))
        ∙ get_d_part (2 ^ half k) (a / size) (a % size) (row k w π r) 0 (omega (arith, mod-lt a size_pos))
        ∙ ap (λ (p : ℕ). get_or (row k w π r) p 0) (ap (λ (m : ℕ). a / size * m + a % size) (sym es) ∙ div-add-mod' a size)

  -- ---- the blocks, one after the other

  abbrev Gathered : ℕ → List ℕ → Type 0
  Gathered j out = (length out ≡ max_line) × ((i : ℕ) → i < j → part (2 ^ half k) i out ≡ block k w π r i)

  row_room : 8 * 2 ^ half k ≤ max_line
  row_room = let few : 2 ^ half k ≤ 2 ^ half max_dim = pow_mono {j = half max_dim} (omega arith) in omega arith

  module _ (j : ℕ) (hj : j < 8) where
    pub block_room : j * size + size ≤ max_line
    block_room = omega (arith, ap (λ (x : ℕ). j * x) es, part-fits (2 ^ half k) hj, row_room)

    pub gathered_next : (out b v : List ℕ) → Gathered j out → b ≡ block k w π r j → v ≡ b ++ drop (length b) (take (j * size + size - j * size) (drop (j * size) out))
        → Gathered (j + 1) (put_mid (j * size) (j * size + size - j * size) out v)
    gathered_next out b v g eb ev =
        subst (λ (x : ℕ). Gathered (j + 1) (put_mid (j * size) x out v)) (sym count) (f.kept ∙ g.0, λ i h. at i h (ℕ_discrete i j))
      where
        count : j * size + size - j * size ≡ size
        count = omega arith

        lb : length b ≡ size
        lb = ap length eb ∙ length_of_block j hj ∙ sym es

        whole : v ≡ b
        whole = ev ∙ copy-whole b (take (j * size + size - j * size) (drop (j * size) out)) (lb ∙ sym (length_cut (j * size) size out (omega (arith, block_room, g.0))))

        f : Filled (j * size) size (λ i. get_or v i 0) out (put_mid (j * size) size out v)
        f = put-filled (j * size) size out v (omega (arith, block_room, g.0)) (ap length whole ∙ lb)

        here : part size j (put_mid (j * size) size out v) ≡ v
        here =
            filled-part size j f (omega (arith, block_room, g.0)) ∙ sym (tab_of size v 0 (ap length whole ∙ lb))

        at : (i : ℕ) → i < j + 1 → Dec (i ≡ j) → part (2 ^ half k) i (put_mid (j * size) size out v) ≡ block k w π r i
        at i h (yes e) =
            ap₂ (λ (m n : ℕ). part m n (put_mid (j * size) size out v)) (sym es) e ∙ here ∙ whole ∙ eb ∙ ap (block k w π r) (sym e)
        at i h (no e) =
            ap (λ (m : ℕ). part m i (put_mid (j * size) size out v)) (sym es) ∙ filled-other size j f i e ∙ ap (λ (m : ℕ). part m i out) es ∙ g.1 i (omega arith)

  pub gathered_row : (out : List ℕ) → Gathered 8 out → take (2 ^ row_dim k) out ≡ row k w π r
  gathered_row out g =
      row_of_blocks k w π lw lπ r hr (take (2 ^ row_dim k) out) long
      (λ j h.
      sym (part_append (2 ^ half k) j (take (2 ^ row_dim k) out) (drop (2 ^ row_dim k) out) (omega (arith, long, pow_eight (half k), part-fits (2 ^ half k) h)))
      ∙ ap (part (2 ^ half k) j) (take-append-drop (2 ^ row_dim k) out) ∙ g.1 j h)
    where
      long : length (take (2 ^ row_dim k) out) ≡ 2 ^ row_dim k
      long = length-take-le (2 ^ row_dim k) out (omega (arith, pow_eight (half k), row_room, g.0))
