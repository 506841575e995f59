-- A pair of a word and a proof is accepted at all coins exactly when it is the word and the proof of a polynomial of degree below n/8.
use Rattle.std.specs.Prelude.{◌≡◌, refl, ◌↔◌, List, [], ◌∷◌, ℕ, ◌+◌, ◌^◌, ◌≤◌, ◌<◌, max, length}
use Rattle.std.proofs.Common.{sym, subst₂, suc-ne-zero, arith, pow_pos}
use Rattle.std.proofs.Math.Decide.{dec_lt}
use Rattle.lists.specs.Tables.{length_tab}
use Rattle.field.specs.Laws.{Ops, IsField}
use Rattle.poly.specs.Codeword.{Basis}
use Rattle.proximity.specs.Dim.{half, row_dim, col_dim, Dim, leaf, node, size, coin_bits}
use Rattle.proximity.specs.Spaces.{row_basis, col_basis}
use Rattle.proximity.specs.Proof.{row, column, row_proof, col_proof, Honest}
use Rattle.proximity.specs.declared.Line.{Line}
use Rattle.proximity.specs.Verifier.{by_line, Accepts}
use Rattle.proximity.specs.Subspaces.{row-basis, col_basis_lem}
use Rattle.proximity.specs.Layout.{length_row, length_row_proof, length_col_proof}
use Rattle.proximity.specs.Lines.{line_cases, row_coin, col_coin, row-taken, column-taken, row_coin-lt, col_coin-lt}
use Rattle.proximity.specs.Honest.{row_honest, col_honest, all_honest}

nil : (l : List ℕ) → length l ≡ 0 → l ≡ []
nil [] e = refl
nil (x ∷ l) e = absurd (suc-ne-zero _ e)

-- ---- a list for each number below n

list_of : {T : List ℕ → Type 0} {A : Type 0} → Dec A → (A → (p : List ℕ) × T p) → List ℕ
list_of (yes h) f = (f h).0
list_of (no h) f = []

list_of_right : {A : Type 0} (T : List ℕ → Type 0) (t : Dec A) (f : A → (p : List ℕ) × T p) → A → T (list_of t f)
unfolding list_of
list_of_right T (yes h) f a = (f h).1
list_of_right T (no h) f a = absurd (h a)

choice : (n : ℕ) (T : ℕ → List ℕ → Type 0) → ((i : ℕ) → i < n → (p : List ℕ) × T i p) → (f : ℕ → List ℕ) × ((i : ℕ) → i < n → T i (f i))
choice n T f = ((λ i. list_of (dec_lt i n) (f i)), λ i h. list_of_right (T i) (dec_lt i n) (f i) h)

module _ {K : Ops} (F : IsField K) where
  -- What a coin asks of the line that it takes
  module _ {k : ℕ} (s : 7 ≤ k) (rows : Dim (row_dim k)) (cols : Dim (col_dim k)) (b w π : List ℕ) where
    abbrev RowAt : ℕ → ℕ → Type 0
    RowAt r i = Accepts K rows (row_basis K k b r) (row k w π r) (row_proof k (size rows) π r) i

    abbrev ColAt : ℕ → ℕ → Type 0
    ColAt a i = Accepts K cols (col_basis K k b) (column k w π a) (col_proof k (size rows) (size cols) π a) i

    abbrev LineAt : Line → ℕ → Type 0
    LineAt l i = by_line l (λ r. RowAt r i) (λ a. ColAt a i)

    row_at : (r i : ℕ) → r < 2 ^ col_dim k → Accepts K (node s rows cols) b w π (row_coin k r i) → RowAt r i
    row_at r i h t = let e = row-taken k r i h in subst₂ LineAt e.0 e.1 t

    col_at : (a i : ℕ) → a < 2 ^ (half k + 2) → Accepts K (node s rows cols) b w π (col_coin k a i) → ColAt a i
    col_at a i h t = let e = column-taken k a i h in subst₂ LineAt e.0 e.1 t

  pub sound : {k : ℕ} (d : Dim k) (b w π : List ℕ) → Basis K k b → length w ≡ 2 ^ k → length π ≡ size d
      → ((coin : ℕ) → coin < 2 ^ coin_bits d → Accepts K d b w π coin) → (P : List ℕ) × Honest K d b w π P
  sound (leaf {k = k} s) b w π B lw lπ acc =
      let (P, e, sP, v) = acc 0 (pow_pos 0) in (P, record { count = e; elements = sP; word = v; proof = nil π lπ })
  sound (node {k = k} s rows cols) b w π B lw lπ acc =
      let n : ℕ = max (col_dim k + coin_bits rows) (half k + 2 + coin_bits cols) in
      let (Rs, hR) =
      choice (2 ^ col_dim k) (λ r. Honest K rows (row_basis K k b r) (row k w π r) (row_proof k (size rows) π r))
      (λ r h.
      sound rows (row_basis K k b r) (row k w π r) (row_proof k (size rows) π r) (row-basis F k b s B r h)
      (length_row k w π lw (omega arith) r h) (length_row_proof k (size rows) (size cols) π lπ r h)
      (λ i hi. row_at s rows cols b w π r i h (acc (row_coin k r i) (row_coin-lt k n (coin_bits rows) h hi (omega arith)))))
      in
      let (Cs, hC) =
      choice (2 ^ (half k + 2)) (λ a. Honest K cols (col_basis K k b) (column k w π a) (col_proof k (size rows) (size cols) π a))
      (λ a h.
      sound cols (col_basis K k b) (column k w π a) (col_proof k (size rows) (size cols) π a) (col_basis_lem F k b s B)
      (length_tab (2 ^ col_dim k) _) (length_col_proof k (size rows) (size cols) π lπ a h)
      (λ i hi. col_at s rows cols b w π a i h (acc (col_coin k a i) (col_coin-lt k n (coin_bits cols) h hi (omega arith)))))
      in
      all_honest F s rows cols b B w π lw lπ Rs Cs hR hC

  -- The word and the proof of a polynomial are accepted at every coin
  pub accepts_at : {k : ℕ} (d : Dim k) (b w π P : List ℕ) → Basis K k b → Honest K d b w π P → (coin : ℕ) → Accepts K d b w π coin
  accepts_at (leaf s) b w π P B H coin = (P, H.count, H.elements, H.word)
  accepts_at (node {k = k} s rows cols) b w π P B H coin =
      subst₂ (λ (w π : List ℕ). Accepts K (node s rows cols) b w π coin) (sym H.word) (sym H.proof)
      (line_cases k coin (LineAt s rows cols b _ _)
      (λ r i h. accepts_at rows _ _ _ _ (row-basis F k b s B r h) (row_honest F s rows cols b B P H.count H.elements r h) i)
      (λ a i h. accepts_at cols _ _ _ _ (col_basis_lem F k b s B) (col_honest F s rows cols b B P H.count H.elements a h) i))

  -- Acceptance at all coins is being the word and the proof of a polynomial
  pub all_coins : {k : ℕ} (d : Dim k) (b w π : List ℕ) → Basis K k b → length w ≡ 2 ^ k → length π ≡ size d
      → ((coin : ℕ) → coin < 2 ^ coin_bits d → Accepts K d b w π coin) ↔ ((P : List ℕ) × Honest K d b w π P)
  all_coins d b w π B lw lπ = (sound d b w π B lw lπ, λ H coin h. accepts_at d b w π H.0 B H.1 coin)
