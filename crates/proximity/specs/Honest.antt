-- The rows and columns of the word and proof of a polynomial are words with proofs of one polynomial each, and the other way round.
use Rattle.std.specs.Prelude.{◌≡◌, List, ◌++◌, ℕ, ◌+◌, ◌*◌, ◌^◌, ◌-◌, ◌≤◌, ◌<◌, length, get_or, take, drop}
use Rattle.std.proofs.Common.{sym, ap, ap₂, ◌∙◌, arith, length-drop, ext_get_or, length-take-le, get_or-take, get_or-drop, pow_pos}
use Rattle.lists.specs.All.{All}
use Rattle.lists.specs.Tables.{flat, part, insert, without, part-fits, length_tab, get_or_tab, tab_ext, tab_of, flat_ext, length_part, get_d_part, insert-without}
use Rattle.field.specs.Laws.{Ops, IsField}
use Rattle.poly.specs.Poly.{eval}
use Rattle.poly.specs.Span.{elem}
use Rattle.poly.specs.Codeword.{Basis, word_of, Codeword}
use Rattle.proximity.specs.Dim.{half, row_dim, col_dim, Dim, node, size}
use Rattle.proximity.specs.Spaces.{row_basis, col_basis}
use Rattle.proximity.specs.Bivariate.{eval2, bivariate}
use Rattle.proximity.specs.Proof.{slot, row, column, row_proof, col_proof, height_of, row_poly, col_poly, stored, proof_of, Honest}
use Rattle.proximity.specs.Subspaces.{pow_rows, pow_four, pow_eight, block-lt, col_elem, row-elem, slot-elem, q_coset}
use Rattle.proximity.specs.TwoVariables.{Digits, length_at_x, length_at_y, at_x_sym, at_y_sym, eval-at_y}
use Rattle.proximity.specs.Proposition.{elem-field, height_sym, same_row, length_bivariate, bivariate-digits, eval-bivariate, univariate, length_univariate, univariate_sym, eval-univariate, bivariate-univariate}
use Rattle.proximity.specs.Grid.{Grid, grid}
use Rattle.proximity.specs.Layout.{by_blocks, slot-fits, row-stored, row_word, split-proof, read-stored, read-row-proof, read_col_proof}

module _ {K : Ops} (F : IsField K) {k : ℕ} (s : 7 ≤ k) (rows : Dim (row_dim k)) (cols : Dim (col_dim k)) (b : List ℕ) (B : Basis K k b) where
  open K use {Sym}

  row_coeffs_lem : 2 ^ half k ≡ 2 ^ (row_dim k - 3)
  row_coeffs_lem = ap (λ (t : ℕ). 2 ^ t) (omega arith)

  column-lt : {a : ℕ} → a < 2 ^ (half k + 2) → a < 2 ^ row_dim k
  column-lt {a} h = omega (arith, pow_four (half k), pow_eight (half k))

  slot_lt : (r : ℕ) {j : ℕ} → j < 2 ^ half k → slot r * 2 ^ half k + j < 2 ^ row_dim k
  slot_lt r h = omega (arith, slot-fits r (2 ^ half k), pow_eight (half k))

  -- ---- the word and the proof of a polynomial
  module _ (P : List ℕ) (e : length P ≡ 2 ^ (k - 3)) (sP : All Sym P) where
    abbrev QP : List (List ℕ)
    QP = bivariate K k b P

    abbrev w_p : List ℕ
    w_p = word_of K k b P

    abbrev πP : List ℕ
    πP = proof_of K (node s rows cols) b P

    abbrev row_p : ℕ → List ℕ
    row_p r = word_of K (row_dim k) (row_basis K k b r) (row_poly K k b QP r)

    g_q : Digits Sym (2 ^ half k) QP
    g_q = bivariate-digits F k b s B P sP

    block-value : (r j : ℕ) → j < 2 ^ half k → eval K P (elem K b (r * 2 ^ half k + j)) ≡ eval K (row_poly K k b QP r) (elem K (row_basis K k b r) (slot r * 2 ^ half k + j))
    block-value r j h =
        eval-bivariate F k b s B P e sP (elem K b (r * 2 ^ half k + j)) (elem-field F k b s B (r * 2 ^ half k + j))
        ∙ ap (eval2 K QP (elem K b (r * 2 ^ half k + j))) (q_coset F k b s B r j h)
        ∙ sym (eval-at_y F (2 ^ half k) QP (elem K b (r * 2 ^ half k + j)) (height_of K k b r))
        ∙ ap (eval K (row_poly K k b QP r)) (sym (slot-elem F k b s B r j h))

    honest_block : (r : ℕ) → r < 2 ^ col_dim k → part (2 ^ half k) r w_p ≡ take (2 ^ half k) (drop (slot r * 2 ^ half k) (row_p r))
    honest_block r hr =
        ext_get_or 0 (part (2 ^ half k) r w_p) (take (2 ^ half k) (drop (slot r * 2 ^ half k) (row_p r))) (lb ∙ sym lt)
        (λ j h. by j (omega (arith, lb)))
      where
        lb : length (part (2 ^ half k) r w_p) ≡ 2 ^ half k
        lb = length_part (2 ^ half k) r w_p (omega (arith, length_tab (2 ^ k) (λ i. eval K P (elem K b i)), pow_rows k, part-fits (2 ^ half k) hr))

        lt : length (take (2 ^ half k) (drop (slot r * 2 ^ half k) (row_p r))) ≡ 2 ^ half k
        lt = length-take-le (2 ^ half k) (drop (slot r * 2 ^ half k) (row_p r)) (omega (arith, length-drop (slot r * 2 ^ half k) (row_p r), length_tab (2 ^ row_dim k) (λ i. eval K (row_poly K k b QP r) (elem K (row_basis K k b r) i)), slot-fits r (2 ^ half k), pow_eight (half k)))

        by : (j : ℕ) → j < 2 ^ half k → get_or (part (2 ^ half k) r w_p) j 0 ≡ get_or (take (2 ^ half k) (drop (slot r * 2 ^ half k) (row_p r))) j 0
        by j h =
            get_d_part (2 ^ half k) r j w_p 0 h
            ∙ get_or_tab (2 ^ k) (λ i. eval K P (elem K b i)) (r * 2 ^ half k + j) 0 (omega (arith, pow_rows k, block-lt {r = r} {j = j} hr h))
            ∙ block-value r j h
            ∙ sym (get_or_tab (2 ^ row_dim k) (λ i. eval K (row_poly K k b QP r) (elem K (row_basis K k b r) i)) (slot r * 2 ^ half k + j) 0 (slot_lt r h))
            ∙ sym (get_or-drop (slot r * 2 ^ half k) (row_p r) j 0)
            ∙ sym (get_or-take (2 ^ half k) (drop (slot r * 2 ^ half k) (row_p r)) j 0 h)

    honest_row : (r : ℕ) → r < 2 ^ col_dim k → row k w_p πP r ≡ row_p r
    honest_row r h =
        ap₂ (insert (slot r * 2 ^ half k)) (honest_block r h) (read-stored K s rows cols b P r h)
        ∙ insert-without (slot r * 2 ^ half k) (2 ^ half k) (row_p r) (omega (arith, length_tab (2 ^ row_dim k) (λ i. eval K (row_poly K k b QP r) (elem K (row_basis K k b r) i)), slot-fits r (2 ^ half k), pow_eight (half k)))

    -- Where the rows are those of QP, so are the columns
    pub columns_follow : (v ρ : List ℕ) → ((r : ℕ) → r < 2 ^ col_dim k → row k v ρ r ≡ row_p r) → (a : ℕ) → a < 2 ^ (half k + 2)
        → column k v ρ a ≡ word_of K (col_dim k) (col_basis K k b) (col_poly K k b QP a)
    columns_follow v ρ e' a h =
        tab_ext (2 ^ col_dim k) _ _
        (λ r hr.
        ap (λ (t : List ℕ). get_or t a 0) (e' r hr)
        ∙ get_or_tab (2 ^ row_dim k) (λ i. eval K (row_poly K k b QP r) (elem K (row_basis K k b r) i)) a 0 (column-lt h)
        ∙ ap (eval K (row_poly K k b QP r)) (row-elem F k b s B r a h)
        ∙ eval-at_y F (2 ^ half k) QP (elem K b a) (height_of K k b r)
        ∙ ap (eval K (col_poly K k b QP a)) (sym (col_elem F k b s B r)))

    -- A row that is a codeword and has the word's block is that of QP
    pub row_follows : (v ρ : List ℕ) → length v ≡ 2 ^ k → 7 * 2 ^ k ≤ length ρ → v ≡ w_p → (r : ℕ) → r < 2 ^ col_dim k → Codeword K (row_dim k) (row_basis K k b r) (row k v ρ r) → row k v ρ r ≡ row_p r
    row_follows v ρ lv lρ ev r hr (p, lp, sp, c) =
        c ∙ ap (word_of K (row_dim k) (row_basis K k b r)) (same_row F k b s B r hr p (row_poly K k b QP r) (lp ∙ sym row_coeffs_lem) (length_at_y K (2 ^ half k) QP (height_of K k b r) g_q) sp
        (at_y_sym F (2 ^ half k) QP (height_of K k b r) g_q (height_sym F k b s B r)) at_block)
      where
        at_block : (j : ℕ) → j < 2 ^ half k → eval K p (elem K b (r * 2 ^ half k + j)) ≡ eval K (row_poly K k b QP r) (elem K b (r * 2 ^ half k + j))
        at_block j h =
            ap (eval K p) (sym (slot-elem F k b s B r j h))
            ∙ sym (get_or_tab (2 ^ row_dim k) (λ i. eval K p (elem K (row_basis K k b r) i)) (slot r * 2 ^ half k + j) 0 (slot_lt r h))
            ∙ ap (λ (t : List ℕ). get_or t (slot r * 2 ^ half k + j) 0) (sym c)
            ∙ row_word k v ρ lv lρ r hr j h
            ∙ ap (λ (t : List ℕ). get_or t (r * 2 ^ half k + j) 0) ev
            ∙ get_or_tab (2 ^ k) (λ i. eval K P (elem K b i)) (r * 2 ^ half k + j) 0 (omega (arith, pow_rows k, block-lt {r = r} {j = j} hr h))
            ∙ block-value r j h
            ∙ ap (eval K (row_poly K k b QP r)) (slot-elem F k b s B r j h)

    pub row_honest : (r : ℕ) → r < 2 ^ col_dim k → Honest K rows (row_basis K k b r) (row k w_p πP r) (row_proof k (size rows) πP r) (row_poly K k b QP r)
    row_honest r h = record {
      count = length_at_y K (2 ^ half k) QP (height_of K k b r) g_q ∙ row_coeffs_lem;
      elements = at_y_sym F (2 ^ half k) QP (height_of K k b r) g_q (height_sym F k b s B r);
      word = honest_row r h;
      proof = read-row-proof K s rows cols b P r h;
    }

    pub col_honest : (a : ℕ) → a < 2 ^ (half k + 2) → Honest K cols (col_basis K k b) (column k w_p πP a) (col_proof k (size rows) (size cols) πP a) (col_poly K k b QP a)
    col_honest a h = record {
      count = length_at_x K QP (elem K b a) ∙ length_bivariate F k b s B P;
      elements = at_x_sym F (2 ^ half k) QP (elem K b a) g_q (elem-field F k b s B a);
      word = columns_follow w_p πP honest_row a h;
      proof = read_col_proof K s rows cols b P a h;
    }

  -- ---- rows and columns of one polynomial each, with their proofs
  module _ (w π : List ℕ) (lw : length w ≡ 2 ^ k) (lπ : length π ≡ size (node s rows cols)) (R C : ℕ → List ℕ)
      (hR : (r : ℕ) → r < 2 ^ col_dim k → Honest K rows (row_basis K k b r) (row k w π r) (row_proof k (size rows) π r) (R r))
      (hC : (a : ℕ) → a < 2 ^ (half k + 2) → Honest K cols (col_basis K k b) (column k w π a) (col_proof k (size rows) (size cols) π a) (C a)) where
    seven_le : 7 * 2 ^ k ≤ length π
    seven_le = omega arith

    row-value : (r i : ℕ) → r < 2 ^ col_dim k → i < 2 ^ row_dim k → get_or (row k w π r) i 0 ≡ eval K (R r) (elem K (row_basis K k b r) i)
    row-value r i hr hi = ap (λ (t : List ℕ). get_or t i 0) (hR r hr).word ∙ get_or_tab (2 ^ row_dim k) (λ i. eval K (R r) (elem K (row_basis K k b r) i)) i 0 hi

    -- Row r and column a agree where they meet
    meet : (r a : ℕ) → r < 2 ^ col_dim k → a < 2 ^ (half k + 2) → eval K (R r) (elem K b a) ≡ eval K (C a) (height_of K k b r)
    meet r a hr ha =
        ap (eval K (R r)) (sym (row-elem F k b s B r a ha))
        ∙ sym (row-value r a hr (column-lt ha))
        ∙ sym (get_or_tab (2 ^ col_dim k) (λ i. get_or (row k w π i) a 0) r 0 hr)
        ∙ ap (λ (t : List ℕ). get_or t r 0) (hC a ha).word
        ∙ get_or_tab (2 ^ col_dim k) (λ i. eval K (C a) (elem K (col_basis K k b) i)) r 0 hr
        ∙ ap (eval K (C a)) (col_elem F k b s B r)

    G : Grid F k b s B R C
    G = grid F k b s B R C (λ r h. (hR r h).count ∙ sym row_coeffs_lem) (λ r h. (hR r h).elements) (λ a h. (hC a h).count) (λ a h. (hC a h).elements) meet

    abbrev Y : List (List ℕ)
    Y = G.poly

    abbrev P₀ : List ℕ
    P₀ = univariate F k b s B Y G.count G.elements

    word_value : (r j : ℕ) → r < 2 ^ col_dim k → j < 2 ^ half k → get_or w (r * 2 ^ half k + j) 0 ≡ eval K P₀ (elem K b (r * 2 ^ half k + j))
    word_value r j hr hj =
        sym (row_word k w π lw seven_le r hr j hj)
        ∙ row-value r (slot r * 2 ^ half k + j) hr (slot_lt r hj)
        ∙ ap₂ (eval K) (G.rows r hr) (slot-elem F k b s B r j hj)
        ∙ eval-at_y F (2 ^ half k) Y (elem K b (r * 2 ^ half k + j)) (height_of K k b r)
        ∙ ap (eval2 K Y (elem K b (r * 2 ^ half k + j))) (sym (q_coset F k b s B r j hj))
        ∙ sym (eval-univariate F k b s B Y G.count G.elements (elem K b (r * 2 ^ half k + j)) (elem-field F k b s B (r * 2 ^ half k + j)))

    whole_word : w ≡ word_of K k b P₀
    whole_word =
        tab_of (2 ^ k) w 0 lw
        ∙ tab_ext (2 ^ k) _ _ (λ i h. by_blocks (λ i. get_or w i 0 ≡ eval K P₀ (elem K b i)) (2 ^ col_dim k) (2 ^ half k) (pow_pos (half k)) word_value i (omega (arith, pow_rows k)))

    abbrev layout : List (List ℕ) → List ℕ
    layout Q =
        flat (2 ^ col_dim k) (stored K k b Q)
        ++ flat (2 ^ col_dim k) (λ r. proof_of K rows (row_basis K k b r) (row_poly K k b Q r))
        ++ flat (2 ^ (half k + 2)) (λ a. proof_of K cols (col_basis K k b) (col_poly K k b Q a))

    stored_row : (r : ℕ) → r < 2 ^ col_dim k → part (7 * 2 ^ half k) r π ≡ stored K k b Y r
    stored_row r h =
        sym (row-stored k w π lw seven_le r h)
        ∙ ap (without (slot r * 2 ^ half k) (2 ^ half k)) ((hR r h).word ∙ ap (word_of K (row_dim k) (row_basis K k b r)) (G.rows r h))

    whole-proof : π ≡ layout (bivariate K k b P₀)
    whole-proof =
        split-proof k (size rows) (size cols) π lπ
        ∙ ap₂ ◌++◌
        (ap₂ ◌++◌
        (flat_ext (2 ^ col_dim k) _ _ stored_row)
        (flat_ext (2 ^ col_dim k) _ _ (λ r h. (hR r h).proof ∙ ap (proof_of K rows (row_basis K k b r)) (G.rows r h))))
        (flat_ext (2 ^ (half k + 2)) _ _ (λ a h. (hC a h).proof ∙ ap (proof_of K cols (col_basis K k b)) (G.columns a h)))
        ∙ ap layout (sym (bivariate-univariate F k b s B Y G.count G.elements))

    pub all_honest : (P : List ℕ) × Honest K (node s rows cols) b w π P
    all_honest = (
      P₀,
      record {
        count = length_univariate F k b s B Y G.count G.elements;
        elements = univariate_sym F k b s B Y G.count G.elements;
        word = whole_word;
        proof = whole-proof;
      },
    )
