-- The proof as it is written, line after line: an inner proof changes neither the stored rows nor the stretch of an earlier line. Assumes nothing.
use mathlib.Core.Path.{◌≡◌, refl, sym, ap, ◌∙◌, subst}
use mathlib.Core.List.{List, [], ◌∷◌, ◌++◌}
use Prim.Native.Nat.{ℕ, ◌+◌, ◌-◌, ◌*◌, ◌^◌, ◌≤◌, ◌<◌}
use native.Mathlib.Decide.{dec_lt}
use native.Mathlib.Omega.{arith}
use borrow.Rule.Slice.PartMut.{put_mid}
use lib.ListN.{length, get_or, take, drop, length-drop}
use lib.Pow.{pow_mono}
use lib.Seq.{length-take-le}
use Rattle.lists.specs.All.{All, Below}
use Rattle.lists.specs.Overwrite.{put-before, put-here, length-put}
use Rattle.lists.specs.Tables.{part, part-fits, length_tab, tab_ext, All-tab}
use Rattle.field.specs.Binary.{degree, Irreducible}
use Rattle.field.specs.Laws.{Ops, IsField}
use Rattle.field.specs.Symbols.{symbols, symbols-field}
use Rattle.field.specs.declared.Field.{Field}
use Rattle.poly.specs.Poly.{eval}
use Rattle.poly.proofs.Poly.{eval_sym}
use Rattle.poly.specs.Span.{elem}
use Rattle.poly.proofs.Span.{elem_sym}
use Rattle.poly.specs.Codeword.{Basis, Codeword}
use Rattle.space.specs.Images.{Images}
use Rattle.space.specs.Sizes.{max_dim, max_line}
use Rattle.proximity.specs.Dim.{half, row_dim, col_dim, dim, S}
use Rattle.proximity.specs.Tree.{S_leaf, S_node}
use Rattle.proximity.specs.Spaces.{row_basis}
use Rattle.proximity.specs.Proof.{slot, row}
use Rattle.proximity.specs.Prover.{Written, columns_codewords}
use Rattle.proximity.specs.Steps.{written_leaf, written_node}
use Rattle.proximity.specs.Layout.{seven}
use Rattle.proximity.specs.declared.Line.{Line}
use Rattle.proximity.specs.declared.Line.TheVariants.{Row, Column}
use Rattle.proximity.specs.ByLine.{InRange, line_dim, line_basis, line_word, line_proof, proof_at, proof_end}
use Rattle.proximity.specs.LineImages.{LineTable}
use Rattle.proximity.specs.LineLaws.{line_falls, line_at_least, line_proof-fits, rows_before, length_line_proof, line_basis_lem, line_proof-cut}
use Rattle.rows.specs.Rows.{InTable, Stored}
use Rattle.prover.specs.Prover.{Proving, Proved, line_at, Deep}
use Rattle.prover.proofs.LineOrder.{at_row, at-column, line_order}
use Rattle.rows.proofs.RowCodewords.{row_codeword}

-- the symbols of a codeword
module _ {K : Ops} (F : IsField K) (k : ℕ) (b w : List ℕ) (B : Basis K k b) (c : Codeword K k b w) where
  pub length_code : length w ≡ 2 ^ k
  length_code = ap length c.3 ∙ length_tab (2 ^ k) (λ i. eval K c.0 (elem K b i))

  pub symbols_code : All K.Sym w
  symbols_code =
      subst (All K.Sym) (sym c.3) (All-tab K.Sym (2 ^ k) (λ i. eval K c.0 (elem K b i)) (λ i h. eval_sym F c.0 (elem K b i) c.2 (elem_sym F b i B.elements)))

-- an empty list
empty : (xs : List ℕ) → length xs ≡ 0 → xs ≡ []
empty [] e = refl
empty (x ∷ xs) e = absurd (omega arith)

-- at k ≤ 6 nothing is written
pub proved_leaf : (q k : ℕ) (t w π : List ℕ) → k ≤ 6 → length π ≡ S k → Proved q k t w π
proved_leaf q k t w π s e b B I C = subst (λ (T : Type 0). T) (sym (written_leaf (symbols q) k b w π s)) (empty π (e ∙ S_leaf k s))

-- the inner proof of a line is written
abbrev LineWritten : Ops → ℕ → List ℕ → List ℕ → List ℕ → Line → Type 0
LineWritten K k b w π l = Written K (dim (line_dim k l)) (line_basis K k b l) (line_word k w π l) (line_proof k π l)

-- the rows are stored, and the inner proofs of the first i lines are written
pub record Progress (q k : ℕ) (t w : List ℕ) (i : ℕ) (π : List ℕ) : Type 0 where
  pub long : length π ≡ S k
  pub rows : (b : List ℕ) → Basis (symbols q) k b → Images (symbols q) b t → Codeword (symbols q) k b w
      → (r : ℕ) → r < 2 ^ col_dim k → Codeword (symbols q) (row_dim k) (row_basis (symbols q) k b r) (row k w π r)
  pub lines : (b : List ℕ) → Basis (symbols q) k b → Images (symbols q) b t → Codeword (symbols q) k b w → (j : ℕ) → j < i → LineWritten (symbols q) k b w π (line_at k j)

module _ (q : ℕ) (irr : Irreducible q) (k : ℕ) (s : 7 ≤ k) (top : k ≤ max_dim) (t w : List ℕ) where
  abbrev K : Ops
  K = symbols q

  abbrev F : IsField K
  F = symbols-field q irr

  stored-inside : (π : List ℕ) → length π ≡ S k → 7 * 2 ^ k ≤ length π
  stored-inside π e = omega (arith, S_node k s)

  pub progress_none : (π : List ℕ) → length π ≡ S k → Stored q k t w 8 π → Progress q k t w 0 π
  progress_none π e D =
      record {
        long = e;
        rows = λ b B I C r hr. row_codeword q irr k s top b B t I w π (length_code F k b w B C) (symbols_code F k b w B C) (stored-inside π e) D r hr;
        lines = λ b B I C j h. absurd (omega arith);
      }

  -- the lines that the inner prover is called on are codewords
  pub line_code : (i : ℕ) (π : List ℕ) → Progress q k t w i π → (b : List ℕ) → Basis K k b → Images K b t → Codeword K k b w
      → (l : Line) → InRange k l → Codeword K (line_dim k l) (line_basis K k b l) (line_word k w π l)
  line_code i π p b B I C (Row r) h = p.rows b B I C r h
  line_code i π p b B I C (Column a) h =
      columns_codewords F s (dim (row_dim k)) (dim (col_dim k)) b B C.0 C.1 C.2 w π C.3 (p.long ∙ S_node k s) (λ r hr. p.rows b B I C r hr) a h

  -- ---- a stretch that is written beyond the stored rows

  module _ (π ys : List ℕ) (c m : ℕ) (le : length π ≡ S k) (beyond : 7 * 2 ^ k ≤ c) (fits : c + m ≤ length π) (ly : length ys ≡ m) where
    abbrev next : List ℕ
    next = put_mid c m π ys

    length_next : length next ≡ S k
    length_next = length-put c m π ys fits ly ∙ le

    same_row : (r : ℕ) → r < 2 ^ col_dim k → row k w next r ≡ row k w π r
    same_row r hr =
        ap (λ (x : List ℕ). take (slot r * 2 ^ half k) x ++ part (2 ^ half k) r w ++ drop (slot r * 2 ^ half k) x)
        (put-before (r * (7 * 2 ^ half k)) (7 * 2 ^ half k) c m π ys (omega (arith, seven k, part-fits (7 * 2 ^ half k) hr)) (omega arith))

    same_word : (l : Line) → InRange k l → line_word k w next l ≡ line_word k w π l
    same_word (Row r) h = same_row r h
    same_word (Column a) h = tab_ext (2 ^ col_dim k) (λ r. get_or (row k w next r) a 0) (λ r. get_or (row k w π r) a 0) (λ r hr. ap (λ (x : List ℕ). get_or x a 0) (same_row r hr))

    same-proof : (l : Line) → proof_end k l ≤ c → line_proof k next l ≡ line_proof k π l
    same-proof l h =
        sym (line_proof-cut k next l) ∙ put-before (proof_at k l) (proof_end k l - proof_at k l) c m π ys (omega arith) (omega arith) ∙ line_proof-cut k π l

  -- ---- one more line

  module _ (n i : ℕ) (D : Deep k n) (hi : i < n) (π ys : List ℕ) (p : Progress q k t w i π) where
    abbrev l : Line
    l = line_at k i

    in_range : InRange k l
    in_range = (D.deep i hi).0

    abbrev m : ℕ
    m = S (line_dim k l)

    line_fits : proof_at k l + m ≤ length π
    line_fits = omega (arith, line_proof-fits k s l in_range, p.long)

    pub progress_next : (t' : List ℕ) → LineTable k t l t' → length ys ≡ m → Proved q (line_dim k l) t' (line_word k w π l) ys → Progress q k t w (i + 1) (put_mid (proof_at k l) m π ys)
    progress_next t' T ly P =
        record {
          long = length_next π ys (proof_at k l) m p.long (rows_before k s l) line_fits ly;
          rows = λ b B I C r hr. subst (Codeword K (row_dim k) (row_basis K k b r)) (sym (same_row π ys (proof_at k l) m p.long (rows_before k s l) line_fits ly r hr)) (p.rows b B I C r hr);
          lines = λ b B I C j h. at b B I C j h (dec_lt j i);
        }
      where
        new : List ℕ
        new = put_mid (proof_at k l) m π ys

        own_proof : line_proof k new l ≡ ys
        own_proof =
            let count : proof_end k l - proof_at k l ≡ m = omega arith in
            sym (line_proof-cut k new l) ∙ ap (λ (x : ℕ). take x (drop (proof_at k l) new)) count ∙ put-here (proof_at k l) m π ys (omega (arith, line_fits)) ly

        move : (b : List ℕ) (x : Line) (ρ : List ℕ) → InRange k x → line_proof k new x ≡ ρ
            → Written K (dim (line_dim k x)) (line_basis K k b x) (line_word k w π x) ρ → LineWritten K k b w new x
        move b x ρ h e W =
            subst (λ (y : List ℕ). Written K (dim (line_dim k x)) (line_basis K k b x) y (line_proof k new x)) (sym (same_word π ys (proof_at k l) m p.long (rows_before k s l) line_fits ly x h))
            (subst (λ (y : List ℕ). Written K (dim (line_dim k x)) (line_basis K k b x) (line_word k w π x) y) (sym e) W)

        at : (b : List ℕ) → Basis K k b → Images K b t → Codeword K k b w → (j : ℕ) → j < i + 1 → Dec (j < i) → LineWritten K k b w new (line_at k j)
        at b B I C j h (yes g) =
            move b (line_at k j) (line_proof k π (line_at k j)) (D.deep j (omega arith)).0
            (same-proof π ys (proof_at k l) m p.long (rows_before k s l) line_fits ly (line_at k j) (line_order k j i g)) (p.lines b B I C j g)
        at b B I C j h (no g) =
            let e : j ≡ i = omega arith in
            subst (λ (j : ℕ). LineWritten K k b w new (line_at k j)) (sym e)
            (move b l ys in_range own_proof (P (line_basis K k b l) (line_basis_lem k s F b B l in_range) (T.right q irr b B I) (line_code i π p b B I C l in_range)))

  -- ---- all lines

  pub progress_all : (n : ℕ) → Deep k n → (π : List ℕ) → Progress q k t w n π → Proved q k t w π
  progress_all n D π p b B I C =
      subst (λ (T : Type 0). T) (sym (written_node K k b w π s)) (
        (λ r h. (p.rows b B I C r h, subst (LineWritten K k b w π) (at_row k r h) (each r (subst (InRange k) (sym (at_row k r h)) h) (dec_lt r n)))),
        (λ a h. subst (LineWritten K k b w π) (column a) (each (2 ^ col_dim k + a) (subst (InRange k) (sym (column a)) h) (dec_lt (2 ^ col_dim k + a) n))),
      )
    where
      column : (a : ℕ) → line_at k (2 ^ col_dim k + a) ≡ Column a
      column a = at-column k (2 ^ col_dim k + a) (omega arith) ∙ ap Column (omega arith)

      each : (i : ℕ) → InRange k (line_at k i) → Dec (i < n) → LineWritten K k b w π (line_at k i)
      each i h (yes g) = p.lines b B I C i g
      each i h (no g) =
          let low : line_dim k (line_at k i) ≤ 6 = D.flat i (omega arith) h in
          subst (λ (T : Type 0). T) (sym (written_leaf K (line_dim k (line_at k i)) (line_basis K k b (line_at k i)) (line_word k w π (line_at k i)) (line_proof k π (line_at k i)) low))
          (empty (line_proof k π (line_at k i)) (length_line_proof k s π p.long (line_at k i) h ∙ S_leaf (line_dim k (line_at k i)) low))

-- ---- a turn, with the numbers that the code has

-- the table and the word of the call's space
pub in_table : (f : Field) (k : ℕ) (t w : List ℕ) → Proving f k t w → 7 ≤ k → InTable f k t
in_table f k t w p s =
    record { sized = p.sized; irreducible = p.irreducible; low = s; high = p.high; count = p.table.count; below = p.table.elements }

pub code_word : (f : Field) (k : ℕ) (t w : List ℕ) → Proving f k t w → (length w ≡ 2 ^ k) × Below (2 ^ degree f.modulus) w
code_word f k t w p =
    let F = symbols-field f.modulus p.irreducible in
    (length_code F k p.basis w p.right p.code, symbols_code F k p.basis w p.right p.code)

module _ (f : Field) (k : ℕ) (t w : List ℕ) (p : Proving f k t w) (s : 7 ≤ k) (n i : ℕ) (D : Deep k n) (hi : i < n) (π : List ℕ) (g : Progress f.modulus k t w i π)
    (line : Line) (el : line ≡ line_at k i) where
  pub line_in_range : InRange k line
  line_in_range = subst (InRange k) (sym el) (D.deep i hi).0

  pub stored_rows : 7 * 2 ^ k ≤ length π
  stored_rows = omega (arith, g.long, S_node k s)

  module _ (m size at end : ℕ) (em : m ≡ line_dim k line) (ez : size ≡ 2 ^ m) (ea : at ≡ proof_at k line) (ee : end ≡ proof_end k line) (inner t' : List ℕ)
      (ei : (length inner ≡ max_line) × (take (2 ^ line_dim k line) inner ≡ line_word k w π line)) (T : LineTable k t line t') where
    pub dimension_falls : (m < k) × (m ≤ row_dim max_dim)
    dimension_falls = (omega (arith, line_falls k s line), omega (arith, line_falls k s line, small line))
      where
        small : (x : Line) → line_dim k x ≤ row_dim max_dim
        small (Row r) = omega (arith, p.high)
        small (Column a) = omega (arith, p.high)

    inner_room : size ≤ length inner
    inner_room = let few : 2 ^ m ≤ max_line = pow_mono {j = row_dim max_dim} dimension_falls.1 in omega (arith, ei.0)

    stretch-fits : (at ≤ end) × (end ≤ length π)
    stretch-fits = (omega arith, omega (arith, line_proof-fits k s line line_in_range, g.long))

    word-is : take size inner ≡ line_word k w π line
    word-is = ap (λ (x : ℕ). take x inner) (ez ∙ ap (λ (d : ℕ). 2 ^ d) em) ∙ ei.1

    inner-proving : Proving f m t' (take size inner)
    inner-proving =
        subst (λ (x : List ℕ). Proving f m t' x) (sym word-is)
        (subst (λ (d : ℕ). Proving f d t' (line_word k w π line)) (sym em)
        (record {
          sized = p.sized;
          irreducible = p.irreducible;
          low = line_at_least k s line;
          high = omega (arith, line_falls k s line, p.high);
          basis = line_basis (symbols f.modulus) k p.basis line;
          right = line_basis_lem k s (symbols-field f.modulus p.irreducible) p.basis p.right line line_in_range;
          table = T.right f.modulus p.irreducible p.basis p.right p.table;
          code = line_code f.modulus p.irreducible k s p.high t w i π g p.basis p.right p.table p.code line line_in_range;
        }))

    inner_length : length (take (end - at) (drop at π)) ≡ S m
    inner_length =
        let count : end - at ≡ S (line_dim k line) = omega arith in
        length-take-le (end - at) (drop at π) (omega (arith, length-drop at π, stretch-fits.1)) ∙ count ∙ ap S (sym em)

    -- all of these at once
    pub line_facts : (size ≤ length inner) × ((at ≤ end) × (end ≤ length π)) × Proving f m t' (take size inner) × (length (take (end - at) (drop at π)) ≡ S m)
    line_facts = (inner_room, stretch-fits, inner-proving, inner_length)

    pub progress_turn : (ys : List ℕ) → length ys ≡ length (take (end - at) (drop at π)) → Proved f.modulus m t' (take size inner) ys
        → Progress f.modulus k t w (i + 1) (put_mid at (end - at) π ys)
    progress_turn ys ly P =
        let a : at ≡ proof_at k (line_at k i) = ea ∙ ap (proof_at k) el in
        let count : end - at ≡ S (line_dim k line) = omega arith in
        subst (λ (x : ℕ). Progress f.modulus k t w (i + 1) (put_mid x (end - at) π ys)) (sym a)
        (subst (λ (x : ℕ). Progress f.modulus k t w (i + 1) (put_mid (proof_at k (line_at k i)) x π ys)) (sym (count ∙ ap (λ (x : Line). S (line_dim k x)) el))
        (progress_next f.modulus p.irreducible k s p.high t w n i D hi π ys g t' (subst (λ (x : Line). LineTable k t x t') el T)
        (ly ∙ inner_length ∙ ap S (em ∙ ap (line_dim k) el))
        (subst (λ (d : ℕ). Proved f.modulus d t' (line_word k w π (line_at k i)) ys) (em ∙ ap (line_dim k) el)
        (subst (λ (x : List ℕ). Proved f.modulus m t' x ys) (word-is ∙ ap (line_word k w π) el) P))))
