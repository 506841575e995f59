-- Bench cases P5 to P9 of document 01, about the definitions.
use Rattle.std.specs.Prelude.{◌≡◌, refl, ◌↔◌, List, [], ◌∷◌, ◌++◌, map, ℕ, ◌+◌, ◌*◌, ◌<◌, get_or, set, replicate}
use Rattle.std.proofs.Common.{sym, ap, ◌∙◌, subst, ⊎_elim, arith, get_or-set_same, get_or-set_other}
use Rattle.std.proofs.Math.Path.{transport}
use mathlib.Core.List.Memᴰ
use Rattle.std.proofs.Math.Decide.{ℕ_discrete}
use Rattle.lists.specs.Members.{Among}
use Rattle.lists.specs.Pick.{pick}
use Rattle.lists.specs.Tables.{tab, get_or_tab}
use Rattle.field.specs.Binary.{◌⊕◌, degree, product, Irreducible, irreducible?}
use Rattle.field.specs.Decide.{irreducible_of_test}
use Rattle.field.specs.Laws.{Ops, IsField, ring}
use Rattle.field.specs.Symbols.{symbols, symbols-field}
use Rattle.poly.specs.Poly.{eval}
use Rattle.poly.specs.Span.{elem}
use Rattle.poly.specs.Codeword.{Codeword}
use Rattle.proximity.specs.Dim.{dim, S}
use Rattle.proximity.specs.declared.Line.TheVariants.{Row, Column}
use Rattle.proximity.specs.declared.Place.{Place}
use Rattle.proximity.specs.declared.Place.TheVariants.{InWord, InProof}
use Rattle.proximity.specs.Verifier.{line_of, bits_left, Accepts, cell, row_place, col_place, positions}
use Rattle.proximity.specs.Steps.{accepts_leaf, positions_leaf, positions-row, positions-column}

-- ---- polynomials of one and of two coefficients

module _ {K : Ops} (F : IsField K) where
  infixl 60 ◌⊕◌
  infixl 70 ◌⊗◌
  open K use {◌⊕◌, ◌⊗◌, Sym}

  constant_value : (c x : ℕ) → c ⊕ x ⊗ 0 ≡ c
  constant_value c x = simp (ring, F)

  linear-value : (c d x : ℕ) → c ⊕ x ⊗ (d ⊕ x ⊗ 0) ≡ c ⊕ x ⊗ d
  linear-value c d x = simp (ring, F)

  linear-at-zero : (c d : ℕ) → c ⊕ 0 ⊗ (d ⊕ 0 ⊗ 0) ≡ c
  linear-at-zero c d = simp (ring, F)

  linear-at-one : (c d : ℕ) → Sym d → c ≡ 0 → c ⊕ 1 ⊗ (d ⊕ 1 ⊗ 0) ≡ d
  linear-at-one c d sd e = simp (e, ring, F.one_prod d sd, F)

  -- A word of dimension 3 that is a codeword repeats one symbol
  repeats : (b w : List ℕ) → Codeword K 3 b w → (i j : ℕ) → i < 8 → j < 8 → get_or w i 0 ≡ get_or w j 0
  repeats b w ([], l, s, e) i j hi hj = absurd (omega arith)
  repeats b w (c ∷ [], l, s, e) i j hi hj = at i hi ∙ sym (at j hj)
    where
      at : (i : ℕ) → i < 8 → get_or w i 0 ≡ c
      at i h = ap (λ (t : List ℕ). get_or t i 0) e ∙ get_or_tab 8 (λ i. eval K (c ∷ []) (elem K b i)) i 0 h ∙ constant_value c (elem K b i)
  repeats b w (c ∷ d ∷ p, l, s, e) i j hi hj = absurd (omega arith)

  -- A codeword of dimension 4 with 0 and 1 at the elements 0 and 1 has x at each element x
  identity : (b w : List ℕ) → Codeword K 4 b w → elem K b 0 ≡ 0 → elem K b 1 ≡ 1 → get_or w 0 0 ≡ 0 → get_or w 1 0 ≡ 1 → Sym (elem K b 2) → get_or w 2 0 ≡ elem K b 2
  identity b w ([], l, s, e) z o w0 w1 x = absurd (omega arith)
  identity b w (c ∷ [], l, s, e) z o w0 w1 x = absurd (omega arith)
  identity b w (c ∷ d ∷ [], l, s, e) z o w0 w1 x =
      at 2 (omega arith) ∙ linear-value c d (elem K b 2) ∙ value (elem K b 2) x
    where
      at : (i : ℕ) → i < 16 → get_or w i 0 ≡ eval K (c ∷ d ∷ []) (elem K b i)
      at i h = ap (λ (t : List ℕ). get_or t i 0) e ∙ get_or_tab 16 (λ i. eval K (c ∷ d ∷ []) (elem K b i)) i 0 h

      c0 : c ≡ 0
      c0 = sym (ap (eval K (c ∷ d ∷ [])) z ∙ linear-at-zero c d) ∙ sym (at 0 (omega arith)) ∙ w0

      d1 : d ≡ 1
      d1 = sym (ap (eval K (c ∷ d ∷ [])) o ∙ linear-at-one c d s.1.0 c0) ∙ sym (at 1 (omega arith)) ∙ w1

      value : (y : ℕ) → Sym y → c ⊕ y ⊗ d ≡ y
      value y sy = simp (c0, d1, ring, F.one_prod y sy, F)
  identity b w (c ∷ d ∷ a ∷ p, l, s, e) z o w0 w1 x = absurd (omega arith)

irreducible_11 : Irreducible 11
unfolding irreducible?
irreducible_11 = irreducible_of_test 11 tt

irreducible_19 : Irreducible 19
unfolding irreducible?
irreducible_19 = irreducible_of_test 19 tt

-- ---- P5: modulus 11, basis 1, 2, 4: all 5 accepted; 5 with one 6, at any position, rejected

abbrev pub basis_8 : List ℕ
basis_8 = 1 ∷ 2 ∷ 4 ∷ []

abbrev pub fives : List ℕ
fives = replicate 8 5

abbrev pub P5 : Type 0
P5 =
    Accepts (symbols 11) (dim 3) basis_8 fives [] 0
    × ((i : ℕ) → i < 8 → Accepts (symbols 11) (dim 3) basis_8 (set fives i 6) [] 0 → ⊥)

pub all_five : Codeword (symbols 11) 3 basis_8 fives
unfolding ◌⊕◌ product degree
all_five = (5 ∷ [], refl, (omega arith, tt), refl)

pub one-six : (i : ℕ) → i < 8 → Codeword (symbols 11) 3 basis_8 (set fives i 6) → ⊥
one-six i h c = by (ℕ_discrete i 0)
  where
    six : get_or (set fives i 6) i 0 ≡ 6
    six = get_or-set_same fives i 6 0 h

    differ : (j : ℕ) → j < 8 → (j ≡ i → ⊥) → get_or fives j 0 ≡ 5 → ⊥
    differ j hj n five =
        let e : ◌≡◌ {A = ℕ} 6 5 = sym six ∙ repeats (symbols-field 11 irreducible_11) basis_8 _ c i j h hj ∙ get_or-set_other fives i j 6 0 n ∙ five in
        omega arith

    by : Dec (i ≡ 0) → ⊥
    by (yes z) = differ 1 (omega arith) (λ e. omega arith) refl
    by (no z) = differ 0 (omega arith) (λ e. z (sym e)) refl

pub p5 : P5
p5 = (
  transport (sym (accepts_leaf (symbols 11) 3 basis_8 fives [] (omega arith) 0)) all_five,
  λ i h a. one-six i h (transport (accepts_leaf (symbols 11) 3 basis_8 (set fives i 6) [] (omega arith) 0) a),
)

-- ---- P6: modulus 19, basis 1, 2, 4, 8: symbol i at position i accepted; i·i rejected

abbrev pub basis_16 : List ℕ
basis_16 = 1 ∷ 2 ∷ 4 ∷ 8 ∷ []

abbrev pub P6 : Type 0
P6 =
    Accepts (symbols 19) (dim 4) basis_16 (tab 16 (λ i. i)) [] 0
    × (Accepts (symbols 19) (dim 4) basis_16 (tab 16 (λ i. product 19 i i)) [] 0 → ⊥)

pub identity_word : Codeword (symbols 19) 4 basis_16 (tab 16 (λ i. i))
unfolding ◌⊕◌ product degree
identity_word = (0 ∷ 1 ∷ [], refl, (omega arith, (omega arith, tt)), refl)

pub squares : Codeword (symbols 19) 4 basis_16 (tab 16 (λ i. product 19 i i)) → ⊥
unfolding ◌⊕◌ product degree
squares c =
    let e : ◌≡◌ {A = ℕ} 4 2 = identity (symbols-field 19 irreducible_19) basis_16 (tab 16 (λ i. product 19 i i)) c refl refl refl refl (omega arith) in
    omega arith

pub p6 : P6
p6 = (
  transport (sym (accepts_leaf (symbols 19) 4 basis_16 (tab 16 (λ i. i)) [] (omega arith) 0)) identity_word,
  λ a. squares (transport (accepts_leaf (symbols 19) 4 basis_16 (tab 16 (λ i. product 19 i i)) [] (omega arith) 0) a),
)

-- ---- P7: k = 7: coins 0 and 32 take row 0; 2 takes row 1; 63 takes column 31

abbrev pub P7 : Type 0
P7 = (line_of 7 0 ≡ Row 0) × (line_of 7 32 ≡ Row 0) × (line_of 7 2 ≡ Row 1) × (line_of 7 63 ≡ Column 31)

pub p7 : P7
unfolding line_of pick
p7 = (refl, refl, refl, refl)

-- ---- P8: k = 7, row 4 reads word 32..39 and proof 224..279

abbrev pub P8 : Type 0
P8 =
    (coin : ℕ) → line_of 7 coin ≡ Row 4
    → (p : Place) → Among p (positions (dim 7) coin) ↔ Among p (tab 8 (λ i. InWord (32 + i)) ++ tab 56 (λ i. InProof (224 + i)))

swapped : {A : Type 0} (x : A) (a b c : List A) → Among x (a ++ b ++ c) → Among x (b ++ (a ++ c))
swapped x a b c m = ⊎_elim first (λ t. Memᴰ.append_right b (Memᴰ.append_right a t)) (Memᴰ.append_cases (a ++ b) m)
  where
    first : Among x (a ++ b) → Among x (b ++ (a ++ c))
    first t = ⊎_elim (λ u. Memᴰ.append_right b (Memᴰ.append_left c u)) (λ u. Memᴰ.append_left (a ++ c) u) (Memᴰ.append_cases a t)

unswapped : {A : Type 0} (x : A) (a b c : List A) → Among x (b ++ (a ++ c)) → Among x (a ++ b ++ c)
unswapped x a b c m = ⊎_elim (λ t. Memᴰ.append_left c (Memᴰ.append_right a t)) second (Memᴰ.append_cases b m)
  where
    second : Among x (a ++ c) → Among x (a ++ b ++ c)
    second t = ⊎_elim (λ u. Memᴰ.append_left c (Memᴰ.append_left b u)) (λ u. Memᴰ.append_right (a ++ b) u) (Memᴰ.append_cases a t)

-- In the order of the row's positions
pub row_four : (coin : ℕ) → line_of 7 coin ≡ Row 4 → positions (dim 7) coin ≡ tab 32 (λ i. InProof (224 + i)) ++ tab 8 (λ i. InWord (32 + i)) ++ tab 24 (λ i. InProof (256 + i))
unfolding pick cell
row_four coin e = positions-row 7 (omega arith) coin 4 e ∙ ap (map (row_place 7 (S 6) 4)) (positions_leaf 6 (omega arith) (bits_left 7 coin))

pub p8 : P8
p8 coin e p =
    let a : List Place = tab 32 (λ i. InProof (224 + i)) in
    let b : List Place = tab 8 (λ i. InWord (32 + i)) in
    let c : List Place = tab 24 (λ i. InProof (256 + i)) in (
      (λ m. swapped p a b c (subst (Among p) (row_four coin e) m)),
      λ m. subst (Among p) (sym (row_four coin e)) (unswapped p a b c m),
    )

-- ---- P9: k = 7, column 31 reads proof 23, 79, 135, word 31, then proof 56r + 31

abbrev pub P9 : Type 0
P9 =
    (coin : ℕ) → line_of 7 coin ≡ Column 31
    → positions (dim 7) coin ≡ (InProof 23 ∷ InProof 79 ∷ InProof 135 ∷ InWord 31 ∷ []) ++ tab 12 (λ i. InProof (56 * (4 + i) + 31))

pub p9 : P9
unfolding pick cell
p9 coin e = positions-column 7 (omega arith) coin 31 e ∙ ap (map (col_place 7 (S 6) (S 4) 31)) (positions_leaf 4 (omega arith) (bits_left 7 coin))
