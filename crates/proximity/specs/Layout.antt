-- Where the layout keeps the rows and the inner proofs: lengths, and what is read back.
use Rattle.std.specs.Prelude.{◌≡◌, refl, List, ◌++◌, ℕ, ◌+◌, ◌*◌, ◌^◌, ◌/◌, ◌%◌, ◌≤◌, ◌<◌, length, get_or, take, drop}
use Rattle.std.proofs.Common.{sym, ap, ap₂, ◌∙◌, subst, mod-lt, div-add-mod', div-lt_iff_lt-mul, mul-le-mul_right, arith, length-append, length-drop, take_all}
use Rattle.lists.specs.Tables.{flat, part, without, part-fits, length_tab, length_flat, part-flat, length_part, get_d_part, length-insert, get_or_insert, without-insert, length_without, flat_take, three_first, three_second, three_third, three_split}
use Rattle.field.specs.Laws.{Ops}
use Rattle.poly.specs.Codeword.{word_of}
use Rattle.proximity.specs.Dim.{half, row_dim, col_dim, Dim, leaf, node, size, dim, S}
use Rattle.proximity.specs.Spaces.{row_basis, col_basis}
use Rattle.proximity.specs.Bivariate.{bivariate}
use Rattle.proximity.specs.Proof.{slot, row, row_proof, col_proof, row_poly, col_poly, stored, proof_of}
use Rattle.proximity.specs.Subspaces.{pow_rows, pow_eight}

-- What holds at each position of each block holds at each position
pub by_blocks : (P : ℕ → Type 0) (n m : ℕ) → 0 < m → ((r j : ℕ) → r < n → j < m → P (r * m + j)) → (i : ℕ) → i < n * m → P i
by_blocks P n m p f i h = subst P (div-add-mod' i m) (f (i / m) (i % m) ((div-lt_iff_lt-mul p).1 h) (mod-lt i p))

pub slot-fits : (r m : ℕ) → slot r * m ≤ 4 * m
slot-fits r m = mul-le-mul_right m (omega arith)

-- The stored rows are 7 blocks for each block of the word
pub seven : (k : ℕ) → 7 * 2 ^ k ≡ 2 ^ col_dim k * (7 * 2 ^ half k)
seven k = omega (arith, pow_rows k)

module _ (k : ℕ) (w π : List ℕ) (lw : length w ≡ 2 ^ k) (lπ : 7 * 2 ^ k ≤ length π) (r : ℕ) (hr : r < 2 ^ col_dim k) where
  pub length_block : length (part (2 ^ half k) r w) ≡ 2 ^ half k
  length_block = length_part (2 ^ half k) r w (omega (arith, pow_rows k, part-fits (2 ^ half k) hr))

  pub length_seven : length (part (7 * 2 ^ half k) r π) ≡ 7 * 2 ^ half k
  length_seven = length_part (7 * 2 ^ half k) r π (omega (arith, seven k, part-fits (7 * 2 ^ half k) hr))

  pub slot-inside : slot r * 2 ^ half k ≤ length (part (7 * 2 ^ half k) r π)
  slot-inside = omega (arith, length_seven, slot-fits r (2 ^ half k))

  pub length_row : length (row k w π r) ≡ 2 ^ row_dim k
  length_row = length-insert (slot r * 2 ^ half k) (part (2 ^ half k) r w) (part (7 * 2 ^ half k) r π) ∙ omega (arith, length_block, length_seven, pow_eight (half k))

  -- The row without its block of the word is what is stored
  pub row-stored : without (slot r * 2 ^ half k) (2 ^ half k) (row k w π r) ≡ part (7 * 2 ^ half k) r π
  row-stored =
      ap (λ (m : ℕ). without (slot r * 2 ^ half k) m (row k w π r)) (sym length_block)
      ∙ without-insert (slot r * 2 ^ half k) (part (2 ^ half k) r w) (part (7 * 2 ^ half k) r π) slot-inside

  -- The row at its slot is the word
  pub row_word : (j : ℕ) → j < 2 ^ half k → get_or (row k w π r) (slot r * 2 ^ half k + j) 0 ≡ get_or w (r * 2 ^ half k + j) 0
  row_word j h =
      get_or_insert (slot r * 2 ^ half k) j (part (2 ^ half k) r w) (part (7 * 2 ^ half k) r π) 0 slot-inside (omega (arith, length_block))
      ∙ get_d_part (2 ^ half k) r j w 0 h

-- A proof is its stored rows, the proofs of the rows, and those of the columns
pub split-proof : (k n m : ℕ) (π : List ℕ) → length π ≡ 7 * 2 ^ k + 2 ^ col_dim k * n + 2 ^ (half k + 2) * m
    → π ≡ flat (2 ^ col_dim k) (λ r. part (7 * 2 ^ half k) r π) ++ flat (2 ^ col_dim k) (row_proof k n π) ++ flat (2 ^ (half k + 2)) (col_proof k n m π)
split-proof k n m π e =
    sym
    (ap₂ ◌++◌
    (ap₂ ◌++◌
    (flat_take (2 ^ col_dim k) (7 * 2 ^ half k) π (omega (arith, seven k)) ∙ ap (λ (t : ℕ). take t π) (sym (seven k)))
    (flat_take (2 ^ col_dim k) n (drop (7 * 2 ^ k) π) (omega (arith, length-drop (7 * 2 ^ k) π))))
    (flat_take (2 ^ (half k + 2)) m (drop (7 * 2 ^ k + 2 ^ col_dim k * n) π) (omega (arith, length-drop (7 * 2 ^ k + 2 ^ col_dim k * n) π))
    ∙ take_all (2 ^ (half k + 2) * m) (drop (7 * 2 ^ k + 2 ^ col_dim k * n) π) (omega (arith, length-drop (7 * 2 ^ k + 2 ^ col_dim k * n) π)))
    ∙ three_split (7 * 2 ^ k) (2 ^ col_dim k * n) π)

-- The proofs of the rows and of the columns have their lengths
pub length_row_proof : (k n m : ℕ) (π : List ℕ) → length π ≡ 7 * 2 ^ k + 2 ^ col_dim k * n + 2 ^ (half k + 2) * m → (r : ℕ) → r < 2 ^ col_dim k → length (row_proof k n π r) ≡ n
length_row_proof k n m π e r h = length_part n r (drop (7 * 2 ^ k) π) (omega (arith, length-drop (7 * 2 ^ k) π, part-fits n h))

pub length_col_proof : (k n m : ℕ) (π : List ℕ) → length π ≡ 7 * 2 ^ k + 2 ^ col_dim k * n + 2 ^ (half k + 2) * m → (a : ℕ) → a < 2 ^ (half k + 2) → length (col_proof k n m π a) ≡ m
length_col_proof k n m π e a h =
    length_part m a (drop (7 * 2 ^ k + 2 ^ col_dim k * n) π) (omega (arith, length-drop (7 * 2 ^ k + 2 ^ col_dim k * n) π, part-fits m h))

module _ (K : Ops) where
  pub length_stored : (k : ℕ) (b : List ℕ) (Q : List (List ℕ)) (r : ℕ) → length (stored K k b Q r) ≡ 7 * 2 ^ half k
  length_stored k b Q r =
      let w = word_of K (row_dim k) (row_basis K k b r) (row_poly K k b Q r) in
      let l : length w ≡ 8 * 2 ^ half k = length_tab (2 ^ row_dim k) _ ∙ pow_eight (half k) in
      omega (arith, length_without (slot r * 2 ^ half k) (2 ^ half k) w (omega (arith, slot-fits r (2 ^ half k))))

  length_stored_rows : (k : ℕ) (b : List ℕ) (Q : List (List ℕ)) → length (flat (2 ^ col_dim k) (stored K k b Q)) ≡ 7 * 2 ^ k
  length_stored_rows k b Q = length_flat (2 ^ col_dim k) (7 * 2 ^ half k) (stored K k b Q) (λ r h. length_stored k b Q r) ∙ sym (seven k)

  pub length_proof_of : {k : ℕ} (d : Dim k) (b P : List ℕ) → length (proof_of K d b P) ≡ size d
  length_proof_of (leaf s) b P = refl
  length_proof_of (node {k = k} s rows cols) b P =
      length-append (flat (2 ^ col_dim k) (stored K k b (bivariate K k b P)) ++ flat (2 ^ col_dim k) (λ r. proof_of K rows (row_basis K k b r) (row_poly K k b (bivariate K k b P) r))) _
      ∙ ap₂ ◌+◌
      (length-append (flat (2 ^ col_dim k) (stored K k b (bivariate K k b P))) _
      ∙ ap₂ ◌+◌ (length_stored_rows k b (bivariate K k b P)) (length_flat (2 ^ col_dim k) (size rows) _ (λ r h. length_proof_of rows (row_basis K k b r) (row_poly K k b (bivariate K k b P) r))))
      (length_flat (2 ^ (half k + 2)) (size cols) _ (λ a h. length_proof_of cols (col_basis K k b) (col_poly K k b (bivariate K k b P) a)))

  -- The proof of a polynomial has S(k) symbols
  pub length_proof : (k : ℕ) (b P : List ℕ) → length (proof_of K (dim k) b P) ≡ S k
  length_proof k b P = length_proof_of (dim k) b P

  -- What is read back from the proof of P
  module _ {k : ℕ} (s : 7 ≤ k) (rows : Dim (row_dim k)) (cols : Dim (col_dim k)) (b P : List ℕ) where
    abbrev QP : List (List ℕ)
    QP = bivariate K k b P

    abbrev πP : List ℕ
    πP = proof_of K (node s rows cols) b P

    length_row_proofs : length (flat (2 ^ col_dim k) (λ r. proof_of K rows (row_basis K k b r) (row_poly K k b QP r))) ≡ 2 ^ col_dim k * size rows
    length_row_proofs = length_flat (2 ^ col_dim k) (size rows) _ (λ r h. length_proof_of rows (row_basis K k b r) (row_poly K k b QP r))

    pub read-stored : (r : ℕ) → r < 2 ^ col_dim k → part (7 * 2 ^ half k) r πP ≡ stored K k b QP r
    read-stored r h =
        three_first (7 * 2 ^ half k) r (flat (2 ^ col_dim k) (stored K k b QP)) _ _ (omega (arith, length_stored_rows k b QP, seven k, part-fits (7 * 2 ^ half k) h))
        ∙ part-flat (2 ^ col_dim k) (7 * 2 ^ half k) (stored K k b QP) r (λ i j. length_stored k b QP i) h

    pub read-row-proof : (r : ℕ) → r < 2 ^ col_dim k → row_proof k (size rows) πP r ≡ proof_of K rows (row_basis K k b r) (row_poly K k b QP r)
    read-row-proof r h =
        three_second (size rows) r (7 * 2 ^ k) (flat (2 ^ col_dim k) (stored K k b QP)) _ _ (length_stored_rows k b QP) (omega (arith, length_row_proofs, part-fits (size rows) h))
        ∙ part-flat (2 ^ col_dim k) (size rows) _ r (λ i j. length_proof_of rows (row_basis K k b i) (row_poly K k b QP i)) h

    pub read_col_proof : (a : ℕ) → a < 2 ^ (half k + 2) → col_proof k (size rows) (size cols) πP a ≡ proof_of K cols (col_basis K k b) (col_poly K k b QP a)
    read_col_proof a h =
        three_third (size cols) a (7 * 2 ^ k + 2 ^ col_dim k * size rows) (flat (2 ^ col_dim k) (stored K k b QP)) _ _ (ap₂ ◌+◌ (length_stored_rows k b QP) length_row_proofs)
        ∙ part-flat (2 ^ (half k + 2)) (size cols) _ a (λ i j. length_proof_of cols (col_basis K k b) (col_poly K k b QP i)) h
