-- Every position of the word and of the proof is read at some coin, so that a pair accepted at all coins holds symbols throughout.
use Rattle.std.specs.Prelude.{◌≡◌, ◌↔◌, List, map, ℕ, zero, suc, ◌+◌, ◌*◌, ◌^◌, ◌-◌, ◌≤◌, ◌<◌, max, length}
use Rattle.std.proofs.Common.{sym, ap, ◌∙◌, subst, subst₂, arith, pow_pos}
use mathlib.Core.List.Memᴰ
use Rattle.std.proofs.Math.Decide.{dec_lt}
use Rattle.lists.specs.All.{All, All-of}
use Rattle.lists.specs.Members.{Among, among_tab, All-image}
use Rattle.field.specs.Laws.{Ops, IsField}
use Rattle.poly.specs.Codeword.{Basis}
use Rattle.proximity.specs.Dim.{half, row_dim, col_dim, Dim, leaf, node, size, coin_bits}
use Rattle.proximity.specs.Proof.{slot, Honest}
use Rattle.proximity.specs.declared.Line.{Line}
use Rattle.proximity.specs.declared.Place.{Place}
use Rattle.proximity.specs.declared.Place.TheVariants.{InWord, InProof}
use Rattle.proximity.specs.Verifier.{by_line, Accepts, cell, row_place, col_place, positions, read_at}
use Rattle.proximity.specs.Subspaces.{pow_rows, pow_eight}
use Rattle.proximity.specs.Layout.{by_blocks, seven, slot-fits}
use Rattle.proximity.specs.Lines.{row_coin, col_coin, row-taken, column-taken, row_coin-lt, col_coin-lt}
use Rattle.proximity.specs.AllCoins.{sound, accepts_at}
use Rattle.proximity.specs.Reads.{Inside, cell-before, cell_in, cell-after}
use Rattle.proximity.specs.Verdict.{accepted_sym}

-- Some coin reads the position
abbrev pub Read : {k : ℕ} → Dim k → Place → Type 0
Read d p = (coin : ℕ) × (coin < 2 ^ coin_bits d) × Among p (positions d coin)

factor-positive : (a n i : ℕ) → i < a * n → 0 < n
factor-positive a zero i h = absurd (omega arith)
factor-positive a (suc n) i h = omega arith

module _ {k : ℕ} (s : 7 ≤ k) (rows : Dim (row_dim k)) (cols : Dim (col_dim k)) where
  abbrev d : Dim k
  d = node s rows cols

  abbrev places_at : Line → ℕ → List Place
  places_at l i = by_line l (λ r. map (row_place k (size rows) r) (positions rows i)) (λ a. map (col_place k (size rows) (size cols) a) (positions cols i))

  through_row : (r : ℕ) → r < 2 ^ col_dim k → (p : Place) → Read rows p → Read d (row_place k (size rows) r p)
  through_row r hr p (i, hi, m) =
      let e = row-taken k r i hr in (
        row_coin k r i,
        row_coin-lt k (max (col_dim k + coin_bits rows) (half k + 2 + coin_bits cols)) (coin_bits rows) hr hi (omega arith),
        subst₂ (λ (l : Line) (i : ℕ). Among (row_place k (size rows) r p) (places_at l i)) (sym e.0) (sym e.1) (Memᴰ.map (row_place k (size rows) r) m),
      )

  through_col : (a : ℕ) → a < 2 ^ (half k + 2) → (p : Place) → Read cols p → Read d (col_place k (size rows) (size cols) a p)
  through_col a ha p (i, hi, m) =
      let e = column-taken k a i ha in (
        col_coin k a i,
        col_coin-lt k (max (col_dim k + coin_bits rows) (half k + 2 + coin_bits cols)) (coin_bits cols) ha hi (omega arith),
        subst₂ (λ (l : Line) (i : ℕ). Among (col_place k (size rows) (size cols) a p) (places_at l i)) (sym e.0) (sym e.1) (Memᴰ.map (col_place k (size rows) (size cols) a) m),
      )

  module _ (row_read : (p : Place) → Inside (2 ^ row_dim k) (size rows) p → Read rows p) (col-read : (p : Place) → Inside (2 ^ col_dim k) (size cols) p → Read cols p) where
    cell-read : (r i : ℕ) (p : Place) → r < 2 ^ col_dim k → i < 2 ^ row_dim k → cell k r i ≡ p → Read d p
    cell-read r i p hr hi e = subst (Read d) e (through_row r hr (InWord i) (row_read (InWord i) hi))

    -- The word: at the slot of a row
    word_read : (i : ℕ) → i < 2 ^ k → Read d (InWord i)
    word_read i h =
        by_blocks (λ i. Read d (InWord i)) (2 ^ col_dim k) (2 ^ half k) (pow_pos (half k))
        (λ r j hr hj.
        cell-read r (slot r * 2 ^ half k + j) (InWord (r * 2 ^ half k + j)) hr (omega (arith, slot-fits r (2 ^ half k), pow_eight (half k)))
        (cell_in k r (slot r * 2 ^ half k + j) (omega arith) (omega arith) ∙ ap InWord (omega arith)))
        i (omega (arith, pow_rows k))

    -- The stored blocks: before the slot or after it
    stored-read : (i : ℕ) → i < 7 * 2 ^ k → Read d (InProof i)
    stored-read i h =
        by_blocks (λ i. Read d (InProof i)) (2 ^ col_dim k) (7 * 2 ^ half k) (omega (arith, pow_pos (half k))) (λ r j hr hj. by r j hr hj (dec_lt j (slot r * 2 ^ half k))) i (omega (arith, seven k))
      where
        by : (r j : ℕ) → r < 2 ^ col_dim k → j < 7 * 2 ^ half k → Dec (j < slot r * 2 ^ half k) → Read d (InProof (r * (7 * 2 ^ half k) + j))
        by r j hr hj (yes t) = cell-read r j _ hr (omega (arith, pow_eight (half k))) (cell-before k r j t)
        by r j hr hj (no t) =
            cell-read r (j + 2 ^ half k) _ hr (omega (arith, pow_eight (half k))) (cell-after k r (j + 2 ^ half k) (omega arith) ∙ ap InProof (omega arith))

    row_proofs_read : (i : ℕ) → i < 2 ^ col_dim k * size rows → Read d (InProof (7 * 2 ^ k + i))
    row_proofs_read i h =
        by_blocks (λ i. Read d (InProof (7 * 2 ^ k + i))) (2 ^ col_dim k) (size rows) (factor-positive (2 ^ col_dim k) (size rows) i h)
        (λ r j hr hj. through_row r hr (InProof j) (row_read (InProof j) hj)) i h

    col_proofs_read : (i : ℕ) → i < 2 ^ (half k + 2) * size cols → Read d (InProof (7 * 2 ^ k + 2 ^ col_dim k * size rows + i))
    col_proofs_read i h =
        by_blocks (λ i. Read d (InProof (7 * 2 ^ k + 2 ^ col_dim k * size rows + i))) (2 ^ (half k + 2)) (size cols) (factor-positive (2 ^ (half k + 2)) (size cols) i h)
        (λ a j ha hj. through_col a ha (InProof j) (col-read (InProof j) hj)) i h

    node_read : (p : Place) → Inside (2 ^ k) (size d) p → Read d p
    node_read (InWord i) h = word_read i h
    node_read (InProof i) h = by (dec_lt i (7 * 2 ^ k)) (dec_lt i (7 * 2 ^ k + 2 ^ col_dim k * size rows))
      where
        by : Dec (i < 7 * 2 ^ k) → Dec (i < 7 * 2 ^ k + 2 ^ col_dim k * size rows) → Read d (InProof i)
        by (yes t) u = stored-read i t
        by (no t) (yes u) = subst (λ (x : ℕ). Read d (InProof x)) {x = 7 * 2 ^ k + (i - 7 * 2 ^ k)} {y = i} (omega arith) (row_proofs_read (i - 7 * 2 ^ k) (omega arith))
        by (no t) (no u) =
            subst (λ (x : ℕ). Read d (InProof x)) {x = 7 * 2 ^ k + 2 ^ col_dim k * size rows + (i - (7 * 2 ^ k + 2 ^ col_dim k * size rows))} {y = i} (omega arith)
            (col_proofs_read (i - (7 * 2 ^ k + 2 ^ col_dim k * size rows)) (omega arith))

-- Each position of the word and of the proof is among the positions of some coin below 2^R
pub every_place-read : {k : ℕ} (d : Dim k) (p : Place) → Inside (2 ^ k) (size d) p → Read d p
every_place-read (leaf {k = k} s) (InWord i) h = (0, pow_pos 0, among_tab (2 ^ k) InWord i h)
every_place-read (leaf s) (InProof i) h = absurd (omega arith)
every_place-read (node s rows cols) p h = node_read s rows cols (every_place-read rows) (every_place-read cols) p h

module _ (Sym : ℕ → Type 0) {k : ℕ} (d : Dim k) (w π : List ℕ) (lw : length w ≡ 2 ^ k) (lπ : length π ≡ size d) where
  -- Where each coin reads symbols, all of the word and the proof are symbols
  pub all-symbols : ((coin : ℕ) → coin < 2 ^ coin_bits d → All Sym (map (read_at w π) (positions d coin))) → All Sym w × All Sym π
  all-symbols f = (All-of Sym w 0 (λ i h. at (InWord i) (omega arith)), All-of Sym π 0 (λ i h. at (InProof i) (omega arith)))
    where
      at : (p : Place) → Inside (2 ^ k) (size d) p → Sym (read_at w π p)
      at p h = let (coin, l, m) = every_place-read d p h in All-image Sym (read_at w π) (positions d coin) p (f coin l) m

module _ {K : Ops} (F : IsField K) {k : ℕ} (d : Dim k) (b w π : List ℕ) (B : Basis K k b) (lw : length w ≡ 2 ^ k) (lπ : length π ≡ size d) where
  -- For any numbers in word and proof: what is read is symbols and is accepted, at all coins, exactly for the word and the proof of one polynomial
  pub all_coins_read : ((coin : ℕ) → coin < 2 ^ coin_bits d → All K.Sym (map (read_at w π) (positions d coin)) × Accepts K d b w π coin) ↔ ((P : List ℕ) × Honest K d b w π P)
  all_coins_read = (
    (λ f. sound F d b w π B lw lπ (λ coin h. (f coin h).1)),
    λ H coin h. let a = accepts_at F d b w π H.0 B H.1 coin in (accepted_sym F d b w π B lw lπ coin a, a),
  )
