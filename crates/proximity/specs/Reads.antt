-- The positions of a coin lie inside the word and the proof, there are at most 64, and the verdict follows from the symbols there.
use Rattle.std.specs.Prelude.{◌≡◌, List, map, ℕ, ◌+◌, ◌*◌, ◌^◌, ◌-◌, ◌≤◌, ◌<◌, length, get_or, drop}
use Rattle.std.proofs.Common.{sym, ap, ◌∙◌, subst, arith, lt-ltb, le-ltb, get_or-drop, pow_mono}
use mathlib.Core.List.Memᴰ
use Rattle.std.proofs.Math.Decide.{dec_lt}
use Rattle.std.proofs.lemmas.List.{length-map}
use Rattle.lists.specs.Members.{Among, of_among_tab, map_tab, map_through}
use Rattle.lists.specs.Pick.{pick_true, pick_false}
use Rattle.lists.specs.Tables.{part, part-fits, length_tab, get_or_tab, tab_of, get_d_part, get_or_insert, get_or_insert-before, get_or_insert-after}
use Rattle.field.specs.Laws.{Ops}
use Rattle.poly.specs.Codeword.{Codeword}
use Rattle.proximity.specs.Dim.{half, row_dim, col_dim, Dim, leaf, node, size}
use Rattle.proximity.specs.Spaces.{row_basis, col_basis}
use Rattle.proximity.specs.Proof.{slot, row, column, row_proof, col_proof}
use Rattle.proximity.specs.declared.Place.{Place}
use Rattle.proximity.specs.declared.Place.TheVariants.{InWord, InProof}
use Rattle.proximity.specs.Verifier.{by_line, Accepts, cell, row_place, col_place, positions, read_at, leaf_dim, leaf_basis}
use Rattle.proximity.specs.Subspaces.{pow_rows, pow_four, pow_eight}
use Rattle.proximity.specs.Layout.{seven, slot-fits, length_row, length_block, slot-inside, length_row_proof, length_col_proof}
use Rattle.proximity.specs.Lines.{line_cases}

-- ---- where a position of a row is kept

module _ (k r i : ℕ) where
  pub cell-before : i < slot r * 2 ^ half k → cell k r i ≡ InProof (r * (7 * 2 ^ half k) + i)
  unfolding cell
  cell-before h = pick_true _ _ (lt-ltb i (slot r * 2 ^ half k) h)

  pub cell_in : slot r * 2 ^ half k ≤ i → i < slot r * 2 ^ half k + 2 ^ half k → cell k r i ≡ InWord (r * 2 ^ half k + (i - slot r * 2 ^ half k))
  unfolding cell
  cell_in g h = pick_false _ _ (le-ltb i (slot r * 2 ^ half k) g) ∙ pick_true _ _ (lt-ltb i (slot r * 2 ^ half k + 2 ^ half k) h)

  pub cell-after : slot r * 2 ^ half k + 2 ^ half k ≤ i → cell k r i ≡ InProof (r * (7 * 2 ^ half k) + (i - 2 ^ half k))
  unfolding cell
  cell-after h = pick_false _ _ (le-ltb i (slot r * 2 ^ half k) (omega arith)) ∙ pick_false _ _ (le-ltb i (slot r * 2 ^ half k + 2 ^ half k) h)

  -- By the three cases
  pub cell-cases : (T : Place → Type 0) → (i < slot r * 2 ^ half k → T (InProof (r * (7 * 2 ^ half k) + i)))
      → (slot r * 2 ^ half k ≤ i → i < slot r * 2 ^ half k + 2 ^ half k → T (InWord (r * 2 ^ half k + (i - slot r * 2 ^ half k))))
      → (slot r * 2 ^ half k + 2 ^ half k ≤ i → T (InProof (r * (7 * 2 ^ half k) + (i - 2 ^ half k)))) → T (cell k r i)
  cell-cases T f g h = by (dec_lt i (slot r * 2 ^ half k)) (dec_lt i (slot r * 2 ^ half k + 2 ^ half k))
    where
      by : Dec (i < slot r * 2 ^ half k) → Dec (i < slot r * 2 ^ half k + 2 ^ half k) → T (cell k r i)
      by (yes t) u = subst T (sym (cell-before t)) (f t)
      by (no t) (yes u) = subst T (sym (cell_in (omega arith) u)) (g (omega arith) u)
      by (no t) (no u) = subst T (sym (cell-after (omega arith))) (h (omega arith))

-- ---- the positions lie inside

-- A position of a word of n symbols and a proof of m
abbrev pub Inside : ℕ → ℕ → Place → Type 0
Inside n m (InWord i) = i < n
Inside n m (InProof i) = i < m

pub cell-inside : (k n r i : ℕ) → 7 * 2 ^ k ≤ n → r < 2 ^ col_dim k → i < 2 ^ row_dim k → Inside (2 ^ k) n (cell k r i)
cell-inside k n r i hn hr hi =
    cell-cases k r i (Inside (2 ^ k) n)
    (λ t. omega (arith, seven k, slot-fits r (2 ^ half k), part-fits (7 * 2 ^ half k) hr))
    (λ t u. omega (arith, pow_rows k, part-fits (2 ^ half k) hr))
    (λ t. omega (arith, seven k, pow_eight (half k), part-fits (7 * 2 ^ half k) hr))

module _ {k : ℕ} (s : 7 ≤ k) (rows : Dim (row_dim k)) (cols : Dim (col_dim k)) where
  pub row_inside : (r : ℕ) → r < 2 ^ col_dim k → (p : Place) → Inside (2 ^ row_dim k) (size rows) p → Inside (2 ^ k) (size (node s rows cols)) (row_place k (size rows) r p)
  row_inside r hr (InWord i) h = cell-inside k (size (node s rows cols)) r i (omega arith) hr h
  row_inside r hr (InProof i) h = omega (arith, part-fits (size rows) hr)

  pub col_inside : (a : ℕ) → a < 2 ^ (half k + 2) → (p : Place) → Inside (2 ^ col_dim k) (size cols) p → Inside (2 ^ k) (size (node s rows cols)) (col_place k (size rows) (size cols) a p)
  col_inside a ha (InWord i) h = cell-inside k (size (node s rows cols)) i a (omega arith) h (omega (arith, ha, pow_four (half k), pow_eight (half k)))
  col_inside a ha (InProof i) h = omega (arith, part-fits (size cols) ha)

image-inside : (P Q : Place → Type 0) (f : Place → Place) (ps : List Place) → ((p : Place) → P p → Q (f p)) → ((p : Place) → Among p ps → P p) → (p : Place) → Among p (map f ps) → Q p
image-inside P Q f ps g h p m = let (o, n, e) = Memᴰ.of_map f ps m in subst Q e (g o (h o n))

pub positions-inside : {k : ℕ} (d : Dim k) (coin : ℕ) (p : Place) → Among p (positions d coin) → Inside (2 ^ k) (size d) p
positions-inside (leaf {k = k} s) coin = λ p m. let (i, h, e) = of_among_tab (2 ^ k) InWord m in subst (Inside (2 ^ k) 0) (sym e) h
positions-inside (node {k = k} s rows cols) coin =
    line_cases k coin
    (λ l i. (p : Place) → Among p (by_line l (λ r. map (row_place k (size rows) r) (positions rows i)) (λ a. map (col_place k (size rows) (size cols) a) (positions cols i))) → Inside (2 ^ k) (size (node s rows cols)) p)
    (λ r i h. image-inside (Inside (2 ^ row_dim k) (size rows)) (Inside (2 ^ k) (size (node s rows cols))) (row_place k (size rows) r) (positions rows i) (row_inside s rows cols r h) (positions-inside rows i))
    (λ a i h. image-inside (Inside (2 ^ col_dim k) (size cols)) (Inside (2 ^ k) (size (node s rows cols))) (col_place k (size rows) (size cols) a) (positions cols i) (col_inside s rows cols a h) (positions-inside cols i))

-- ---- what is read there

module _ (k : ℕ) (w π : List ℕ) (lw : length w ≡ 2 ^ k) (lπ : 7 * 2 ^ k ≤ length π) where
  pub read_cell : (r i : ℕ) → r < 2 ^ col_dim k → i < 2 ^ row_dim k → get_or (row k w π r) i 0 ≡ read_at w π (cell k r i)
  read_cell r i hr hi =
      cell-cases k r i (λ p. get_or (row k w π r) i 0 ≡ read_at w π p)
      (λ t.
      get_or_insert-before (slot r * 2 ^ half k) i (part (2 ^ half k) r w) (part (7 * 2 ^ half k) r π) 0 in_slot t
      ∙ get_d_part (7 * 2 ^ half k) r i π 0 (omega (arith, slot-fits r (2 ^ half k))))
      (λ t u.
      ap (λ (j : ℕ). get_or (row k w π r) j 0) {x = i} {y = slot r * 2 ^ half k + (i - slot r * 2 ^ half k)} (omega arith)
      ∙ get_or_insert (slot r * 2 ^ half k) (i - slot r * 2 ^ half k) (part (2 ^ half k) r w) (part (7 * 2 ^ half k) r π) 0 in_slot (omega (arith, lb))
      ∙ get_d_part (2 ^ half k) r (i - slot r * 2 ^ half k) w 0 (omega arith))
      (λ t.
      ap (λ (j : ℕ). get_or (row k w π r) j 0) {x = i} {y = slot r * 2 ^ half k + length (part (2 ^ half k) r w) + (i - (slot r * 2 ^ half k + 2 ^ half k))} (omega (arith, lb))
      ∙ get_or_insert-after (slot r * 2 ^ half k) (i - (slot r * 2 ^ half k + 2 ^ half k)) (part (2 ^ half k) r w) (part (7 * 2 ^ half k) r π) 0 in_slot
      ∙ ap (λ (j : ℕ). get_or (part (7 * 2 ^ half k) r π) j 0) {x = slot r * 2 ^ half k + (i - (slot r * 2 ^ half k + 2 ^ half k))} {y = i - 2 ^ half k} (omega arith)
      ∙ get_d_part (7 * 2 ^ half k) r (i - 2 ^ half k) π 0 (omega (arith, pow_eight (half k))))
    where
      in_slot : slot r * 2 ^ half k ≤ length (part (7 * 2 ^ half k) r π)
      in_slot = slot-inside k w π lw lπ r hr

      lb : length (part (2 ^ half k) r w) ≡ 2 ^ half k
      lb = length_block k w π lw lπ r hr

  pub read-row : (n r : ℕ) → r < 2 ^ col_dim k → (p : Place) → Inside (2 ^ row_dim k) n p → read_at (row k w π r) (row_proof k n π r) p ≡ read_at w π (row_place k n r p)
  read-row n r hr (InWord i) h = read_cell r i hr h
  read-row n r hr (InProof i) h = get_d_part n r i (drop (7 * 2 ^ k) π) 0 h ∙ get_or-drop (7 * 2 ^ k) π (r * n + i) 0

  pub read_col : (n m a : ℕ) → a < 2 ^ (half k + 2) → (p : Place) → Inside (2 ^ col_dim k) m p → read_at (column k w π a) (col_proof k n m π a) p ≡ read_at w π (col_place k n m a p)
  read_col n m a ha (InWord i) h =
      get_or_tab (2 ^ col_dim k) (λ r. get_or (row k w π r) a 0) i 0 h ∙ read_cell i a h (omega (arith, pow_four (half k), pow_eight (half k)))
  read_col n m a ha (InProof i) h =
      get_d_part m a i (drop (7 * 2 ^ k + 2 ^ col_dim k * n) π) 0 h ∙ get_or-drop (7 * 2 ^ k + 2 ^ col_dim k * n) π (a * m + i) 0

-- ---- how many are read

-- As many symbols are read as that space has elements
pub length_positions : {k : ℕ} (d : Dim k) (coin : ℕ) → length (positions d coin) ≡ 2 ^ leaf_dim d coin
length_positions (leaf {k = k} s) coin = length_tab (2 ^ k) InWord
length_positions (node {k = k} s rows cols) coin =
    line_cases k coin
    (λ l i.
    length (by_line l (λ r. map (row_place k (size rows) r) (positions rows i)) (λ a. map (col_place k (size rows) (size cols) a) (positions cols i)))
    ≡ 2 ^ by_line l (λ r. leaf_dim rows i) (λ a. leaf_dim cols i))
    (λ r i h. rw length-map (length_positions rows i))
    (λ a i h. rw length-map (length_positions cols i))

pub leaf_small : {k : ℕ} (d : Dim k) (coin : ℕ) → leaf_dim d coin ≤ 6
leaf_small (leaf s) coin = s
leaf_small (node {k = k} s rows cols) coin =
    line_cases k coin (λ l i. by_line l (λ r. leaf_dim rows i) (λ a. leaf_dim cols i) ≤ 6) (λ r i h. leaf_small rows i) (λ a i h. leaf_small cols i)

-- At most 64 symbols are read
pub few_reads : {k : ℕ} (d : Dim k) (coin : ℕ) → length (positions d coin) ≤ 64
few_reads d coin = omega (arith, length_positions d coin, pow_mono {i = leaf_dim d coin} {j = 6} (leaf_small d coin))

module _ (K : Ops) where
  -- The verdict tests the symbols at the coin's positions
  pub reads : {k : ℕ} (d : Dim k) (b w π : List ℕ) → length w ≡ 2 ^ k → length π ≡ size d → (coin : ℕ)
      → Accepts K d b w π coin ≡ Codeword K (leaf_dim d coin) (leaf_basis K d b coin) (map (read_at w π) (positions d coin))
  reads (leaf {k = k} s) b w π lw lπ coin = ap (Codeword K k b) (tab_of (2 ^ k) w 0 lw ∙ sym (map_tab (read_at w π) (2 ^ k) InWord))
  reads (node {k = k} s rows cols) b w π lw lπ coin =
      line_cases k coin
      (λ l i.
      by_line l (λ r. Accepts K rows (row_basis K k b r) (row k w π r) (row_proof k (size rows) π r) i) (λ a. Accepts K cols (col_basis K k b) (column k w π a) (col_proof k (size rows) (size cols) π a) i)
      ≡ Codeword K (by_line l (λ r. leaf_dim rows i) (λ a. leaf_dim cols i)) (by_line l (λ r. leaf_basis K rows (row_basis K k b r) i) (λ a. leaf_basis K cols (col_basis K k b) i))
      (map (read_at w π) (by_line l (λ r. map (row_place k (size rows) r) (positions rows i)) (λ a. map (col_place k (size rows) (size cols) a) (positions cols i)))))
      (λ r i h.
      reads rows (row_basis K k b r) (row k w π r) (row_proof k (size rows) π r) (length_row k w π lw (omega arith) r h) (length_row_proof k (size rows) (size cols) π lπ r h) i
      ∙ ap (Codeword K (leaf_dim rows i) (leaf_basis K rows (row_basis K k b r) i))
      (map_through _ (read_at w π) (row_place k (size rows) r) (positions rows i) (λ p m. read-row k w π lw (omega arith) (size rows) r h p (positions-inside rows i p m))))
      (λ a i h.
      reads cols (col_basis K k b) (column k w π a) (col_proof k (size rows) (size cols) π a) (length_tab (2 ^ col_dim k) _) (length_col_proof k (size rows) (size cols) π lπ a h) i
      ∙ ap (Codeword K (leaf_dim cols i) (leaf_basis K cols (col_basis K k b) i))
      (map_through _ (read_at w π) (col_place k (size rows) (size cols) a) (positions cols i) (λ p m. read_col k w π lw (omega arith) (size rows) (size cols) a h p (positions-inside cols i p m))))

  -- Two pairs alike at the coin's positions have one verdict
  pub same_reads : {k : ℕ} (d : Dim k) (b w π v ρ : List ℕ) → length w ≡ 2 ^ k → length π ≡ size d → length v ≡ 2 ^ k → length ρ ≡ size d → (coin : ℕ)
      → map (read_at w π) (positions d coin) ≡ map (read_at v ρ) (positions d coin) → Accepts K d b w π coin ≡ Accepts K d b v ρ coin
  same_reads d b w π v ρ lw lπ lv lρ coin e =
      reads d b w π lw lπ coin ∙ ap (Codeword K (leaf_dim d coin) (leaf_basis K d b coin)) e ∙ sym (reads d b v ρ lv lρ coin)
