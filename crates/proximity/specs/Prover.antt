-- What a prover that works on words has to see to: every row is a codeword, and so on below. It has then written the proof of the word's polynomial.
use Rattle.std.specs.Prelude.{◌≡◌, List, [], ℕ, ◌+◌, ◌^◌, ◌-◌, ◌≤◌, ◌<◌, length}
use Rattle.std.proofs.Common.{sym, ap, ◌∙◌, arith}
use Rattle.lists.specs.All.{All}
use Rattle.lists.specs.Tables.{length_tab}
use Rattle.field.specs.Laws.{Ops, IsField}
use Rattle.poly.specs.Poly.{eval}
use Rattle.poly.specs.Span.{elem}
use Rattle.poly.specs.Codeword.{Basis, word_of, Codeword}
use Rattle.poly.proofs.Codeword.{decode_unique}
use Rattle.proximity.specs.Dim.{half, row_dim, col_dim, Dim, leaf, node, size}
use Rattle.proximity.specs.Spaces.{row_basis, col_basis}
use Rattle.proximity.specs.Bivariate.{bivariate}
use Rattle.proximity.specs.Proof.{row, column, row_proof, col_proof, row_poly, col_poly, proof_of, Honest}
use Rattle.proximity.specs.Subspaces.{row-basis, col_basis_lem}
use Rattle.proximity.specs.Layout.{length_row_proof, length_col_proof}
use Rattle.proximity.specs.Honest.{row_honest, col_honest, all_honest, row_follows, columns_follow}

-- Each row that the layout gives is a codeword, and the inner proofs are written for the rows and columns that it gives
abbrev pub Written : (K : Ops) → {k : ℕ} → Dim k → List ℕ → List ℕ → List ℕ → Type 0
Written K (leaf s) b w π = π ≡ []
Written K (node {k = k} s rows cols) b w π =
    ((r : ℕ) → r < 2 ^ col_dim k → Codeword K (row_dim k) (row_basis K k b r) (row k w π r) × Written K rows (row_basis K k b r) (row k w π r) (row_proof k (size rows) π r))
    × ((a : ℕ) → a < 2 ^ (half k + 2) → Written K cols (col_basis K k b) (column k w π a) (col_proof k (size rows) (size cols) π a))

module _ {K : Ops} (F : IsField K) where
  open K use {Sym}

  -- The word of P, and rows that are codewords
  module _ {k : ℕ} (s : 7 ≤ k) (rows : Dim (row_dim k)) (cols : Dim (col_dim k)) (b : List ℕ) (B : Basis K k b) (P : List ℕ) (lP : length P ≡ 2 ^ (k - 3)) (sP : All Sym P)
      (w π : List ℕ) (e : w ≡ word_of K k b P) (lπ : length π ≡ size (node s rows cols))
      (code : (r : ℕ) → r < 2 ^ col_dim k → Codeword K (row_dim k) (row_basis K k b r) (row k w π r)) where
    abbrev Q : List (List ℕ)
    Q = bivariate K k b P

    lw : length w ≡ 2 ^ k
    lw = ap length e ∙ length_tab (2 ^ k) (λ i. eval K P (elem K b i))

    rows_right : (r : ℕ) → r < 2 ^ col_dim k → row k w π r ≡ word_of K (row_dim k) (row_basis K k b r) (row_poly K k b Q r)
    rows_right r h = row_follows F s rows cols b B P lP sP w π lw (omega arith) e r h (code r h)

    cols_right : (a : ℕ) → a < 2 ^ (half k + 2) → column k w π a ≡ word_of K (col_dim k) (col_basis K k b) (col_poly K k b Q a)
    cols_right a h = columns_follow F s rows cols b B P lP sP w π rows_right a h

    -- The columns are codewords too: what the inner prover is called on
    pub columns_codewords : (a : ℕ) → a < 2 ^ (half k + 2) → Codeword K (col_dim k) (col_basis K k b) (column k w π a)
    columns_codewords a h = let H = col_honest F s rows cols b B P lP sP a h in (col_poly K k b Q a, H.count, H.elements, cols_right a h)

    -- With the inner proofs right, so is the proof
    node_right : ((r : ℕ) → r < 2 ^ col_dim k → row_proof k (size rows) π r ≡ proof_of K rows (row_basis K k b r) (row_poly K k b Q r))
        → ((a : ℕ) → a < 2 ^ (half k + 2) → col_proof k (size rows) (size cols) π a ≡ proof_of K cols (col_basis K k b) (col_poly K k b Q a))
        → π ≡ proof_of K (node s rows cols) b P
    node_right pr pc = same_polynomial (all_honest F s rows cols b B w π lw lπ (row_poly K k b Q) (col_poly K k b Q) hR hC)
      where
        hR : (r : ℕ) → r < 2 ^ col_dim k → Honest K rows (row_basis K k b r) (row k w π r) (row_proof k (size rows) π r) (row_poly K k b Q r)
        hR r h = let H = row_honest F s rows cols b B P lP sP r h in record { count = H.count; elements = H.elements; word = rows_right r h; proof = pr r h }

        hC : (a : ℕ) → a < 2 ^ (half k + 2) → Honest K cols (col_basis K k b) (column k w π a) (col_proof k (size rows) (size cols) π a) (col_poly K k b Q a)
        hC a h = let H = col_honest F s rows cols b B P lP sP a h in record { count = H.count; elements = H.elements; word = cols_right a h; proof = pc a h }

        same_polynomial : (R : List ℕ) × Honest K (node s rows cols) b w π R → π ≡ proof_of K (node s rows cols) b P
        same_polynomial (R, H) =
            H.proof ∙ ap (proof_of K (node s rows cols) b) (decode_unique F k b B R P H.count lP H.elements sP (sym H.word ∙ e))

  pub written-proof : {k : ℕ} (d : Dim k) (b w π P : List ℕ) → Basis K k b → length P ≡ 2 ^ (k - 3) → All Sym P → w ≡ word_of K k b P → length π ≡ size d → Written K d b w π → π ≡ proof_of K d b P
  written-proof (leaf s) b w π P B lP sP e lπ W = W
  written-proof (node {k = k} s rows cols) b w π P B lP sP e lπ W =
      node_right s rows cols b B P lP sP w π e lπ (λ r h. (W.0 r h).0)
      (λ r h.
      written-proof rows (row_basis K k b r) (row k w π r) (row_proof k (size rows) π r) (row_poly K k b (bivariate K k b P) r) (row-basis F k b s B r h)
      (row_honest F s rows cols b B P lP sP r h).count (row_honest F s rows cols b B P lP sP r h).elements
      (rows_right s rows cols b B P lP sP w π e lπ (λ r h. (W.0 r h).0) r h) (length_row_proof k (size rows) (size cols) π lπ r h) (W.0 r h).1)
      (λ a h.
      written-proof cols (col_basis K k b) (column k w π a) (col_proof k (size rows) (size cols) π a) (col_poly K k b (bivariate K k b P) a) (col_basis_lem F k b s B)
      (col_honest F s rows cols b B P lP sP a h).count (col_honest F s rows cols b B P lP sP a h).elements
      (cols_right s rows cols b B P lP sP w π e lπ (λ r h. (W.0 r h).0) a h) (length_col_proof k (size rows) (size cols) π lπ a h) (W.1 a h))
