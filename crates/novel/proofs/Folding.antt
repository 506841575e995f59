-- The product with W_j, and the division by it: `Folded` after each turn of `fold`, and `Expanded` after two folds. Assumes nothing.
use mathlib.Core.Path.{◌≡◌, refl, sym, ap, ap₂, ◌∙◌, subst}
use mathlib.Core.Logic.{inr}
use mathlib.Core.List.{List}
use Prim.Native.Nat.{ℕ, zero, suc, ◌+◌, ◌/◌, ◌^◌, ◌≤◌, ◌<◌}
use native.Mathlib.Nat.{two-pow-succ}
use native.Mathlib.Numerals.{add-one}
use native.Mathlib.Omega.{arith}
use lib.ListN.{length, get_or, take, drop, length-drop}
use lib.Pow.{pow_mono}
use lib.Seq.{ext_get_or, drop-drop, get_or-drop, take_all}
use Rattle.lists.specs.All.{All, Below, IsZero}
use Rattle.lists.specs.Stretch.{Apart, stretch, length_stretch, get_or_stretch}
use Rattle.field.specs.Binary.{degree, Irreducible}
use Rattle.field.specs.Laws.{Ops, IsField, ring, 0_⊗, ⊕_0}
use Rattle.field.specs.Products.{accumulated}
use Rattle.field.specs.Product.{positive}
use Rattle.field.specs.Symbols.{symbols, symbols-field}
use Rattle.field.proofs.Accumulate.{length_accumulated, accumulated_outside, accumulated-below}
use Rattle.poly.specs.Poly.{eval}
use Rattle.novel.specs.Sparse.{squared, linear}
use Rattle.novel.specs.Convert.{raised, row_of, value_by, Folded, Expanded}
use Rattle.novel.proofs.Evaluate.{raised-sum, raised_add, raised-squared, raised_scale, raised-zero, squared_symbol, eval-parts, eval_halves, one-factor, accumulated-eval}

-- stretches of lists that are alike from a on
pub stretch-same : (n a : ℕ) (xs ys : List ℕ) → a + n ≤ length xs → length ys ≡ length xs → ((p : ℕ) → a ≤ p → get_or ys p 0 ≡ get_or xs p 0) → stretch n a ys ≡ stretch n a xs
stretch-same n a xs ys h e f =
    ext_get_or 0 (stretch n a ys) (stretch n a xs) (length_stretch n a ys (omega arith) ∙ sym (length_stretch n a xs h))
    (λ i l. let k : i < n = omega (arith, length_stretch n a ys (omega arith)) in
    get_or_stretch n a ys i k ∙ f (a + i) (omega arith) ∙ sym (get_or_stretch n a xs i k))

pub drop_same : (n : ℕ) (xs ys : List ℕ) → length ys ≡ length xs → ((p : ℕ) → n ≤ p → get_or ys p 0 ≡ get_or xs p 0) → drop n ys ≡ drop n xs
drop_same n xs ys e f =
    ext_get_or 0 (drop n ys) (drop n xs) (length-drop n ys ∙ omega (arith, length-drop n xs))
    (λ i l. get_or-drop n ys i 0 ∙ f (n + i) (omega arith) ∙ sym (get_or-drop n xs i 0))

-- the power of a term is at most half of 2^j
pub term_fits : (i j : ℕ) → i < j → 2 ^ i + 2 ^ j / 2 ≤ 2 ^ j
term_fits i zero h = absurd (omega arith)
term_fits i (suc j) h = omega (arith, two-pow-succ j, pow_mono {i = i} {j = j} (omega arith))

module _ (q : ℕ) (irr : Irreducible q) (table : List ℕ) where
  abbrev K : Ops
  K = symbols q

  abbrev F : IsField K
  F = symbols-field q irr

  infixl 60 ◌⊕◌
  infixl 70 ◌⊗◌
  open K use {◌⊕◌, ◌⊗◌}

  abbrev term : ℕ → ℕ → ℕ → ℕ
  term j i x = linear K (row_of table j) i x

  none-step : (a v n x : ℕ) → a ≡ a ⊕ raised K n x (0 ⊗ v)
  none-step a v n x = sym (ap (λ (t : ℕ). a ⊕ raised K n x t) (0_⊗ F v) ∙ ap (λ (t : ℕ). a ⊕ t) (raised-zero F n x) ∙ ⊕_0 F a)

  pub folded-none : (j at : ℕ) (old : List ℕ) → Below (2 ^ degree q) old → Folded q table j 0 at old old
  unfolding linear
  folded-none j at old b = record { kept = refl; below = b; beyond = λ p h. refl; values = λ x. none-step (eval K old x) _ at x }

  module _ (j i at : ℕ) (old new ts : List ℕ) (hi : i < j) (fits : at + 2 ^ j + 2 ^ j / 2 ≤ length old) (z : All IsZero ts) (lt : length ts ≡ 2 ^ j / 2)
      (s : Folded q table j i at old new) where
    pub fold_apart : Apart (length ts) (at + 2 ^ j) (at + 2 ^ i) (length new)
    fold_apart =
        let t : 2 ^ i + 2 ^ j / 2 ≤ 2 ^ j = term_fits i j hi in
        let k = s.kept in
        record { first = omega arith; second = omega arith; apart = inr (omega arith) }

    abbrev c : ℕ
    c = row_of table j i

    abbrev e : ℕ → ℕ
    e x = eval K (stretch (2 ^ j / 2) (at + 2 ^ j) old) x

    same-factors : stretch (length ts) (at + 2 ^ j) new ≡ stretch (2 ^ j / 2) (at + 2 ^ j) old
    same-factors =
        ap (λ (n : ℕ). stretch n (at + 2 ^ j) new) lt
        ∙ stretch-same (2 ^ j / 2) (at + 2 ^ j) old new fits s.kept s.beyond

    sum_step : (l r v p : ℕ) → l ⊗ v ⊕ p ⊗ (r ⊗ v) ≡ (l ⊕ r ⊗ p) ⊗ v
    sum_step l r v p = simp (ring, F)

    next-value : (x : ℕ) → raised K at x (term j i x ⊗ e x) ⊕ raised K (at + 2 ^ i) x (c ⊗ e x) ≡ raised K at x (term j (i + 1) x ⊗ e x)
    unfolding linear
    next-value x =
        ap (λ (t : ℕ). raised K at x (term j i x ⊗ e x) ⊕ t) (raised_add F at (2 ^ i) x (c ⊗ e x) ∙ ap (raised K at x) (raised-squared F i x (c ⊗ e x)))
        ∙ sym (raised-sum F at x (term j i x ⊗ e x) (squared K i x ⊗ (c ⊗ e x)))
        ∙ ap (raised K at x) (sum_step (term j i x) c (e x) (squared K i x))
        ∙ ap (λ (n : ℕ). raised K at x (term j n x ⊗ e x)) (sym (add-one i))

    pub folded-next : Folded q table j (i + 1) at old (accumulated q c ts (at + 2 ^ j) (at + 2 ^ i) new)
    folded-next =
        record {
          kept = length_accumulated q c ts (at + 2 ^ j) (at + 2 ^ i) new fold_apart ∙ s.kept;
          below = accumulated-below q c (positive q irr) ts (at + 2 ^ j) (at + 2 ^ i) new fold_apart s.below;
          beyond = λ p h. accumulated_outside q c ts (at + 2 ^ j) (at + 2 ^ i) new fold_apart p (inr (omega (arith, lt, term_fits i j hi))) ∙ s.beyond p h;
          values = λ x. accumulated-eval q irr c ts (at + 2 ^ j) (at + 2 ^ i) new z fold_apart x
              ∙ ap₂ (λ (u : ℕ) (l : List ℕ). u ⊕ raised K (at + 2 ^ i) x (c ⊗ eval K l x)) (s.values x) same-factors
              ∙ F.sum_assoc (eval K old x) _ _
              ∙ ap (λ (t : ℕ). eval K old x ⊕ t) (next-value x);
        }

  -- a turn of `fold`, with the powers of 2 by name
  pub fold_turn : (j i at half p : ℕ) (old new next ts : List ℕ) → half ≡ 2 ^ j → p ≡ 2 ^ i → i < j → at + 2 ^ j + 2 ^ j / 2 ≤ length old → All IsZero ts → length ts ≡ 2 ^ j / 2
      → next ≡ accumulated q (row_of table j i) ts (at + half) (at + p) new → Folded q table j i at old new → Folded q table j (i + 1) at old next
  fold_turn j i at half p old new next ts eh ep hi fits z lt e s =
      subst (Folded q table j (i + 1) at old) (sym (e ∙ ap₂ (λ (a b : ℕ). accumulated q (row_of table j i) ts (at + a) (at + b) new) eh ep))
      (folded-next j i at old new ts hi fits z lt s)

  -- ---- two folds

  module _ (j : ℕ) (xs : List ℕ) (lx : length xs ≡ 2 ^ j + 2 ^ j) (lead : row_of table j j ≡ 1) where
    abbrev n : ℕ
    n = 2 ^ j

    abbrev h : ℕ
    h = 2 ^ j / 2

    abbrev low : ℕ → ℕ
    low x = eval K (stretch h (0 + n) xs) x

    abbrev high : ℕ → ℕ
    high x = eval K (stretch h (h + n) xs) x

    no_terms : (t u v w x : ℕ) → t ≡ 0 → t ⊗ u ⊕ raised K h x (t ⊗ v) ≡ t ⊗ w
    no_terms t u v w x e =
        ap (λ (a : ℕ). a ⊗ u ⊕ raised K h x (a ⊗ v)) e
        ∙ ap₂ (λ (a b : ℕ). a ⊕ raised K h x b) (0_⊗ F u) (0_⊗ F v)
        ∙ ap (λ (a : ℕ). 0 ⊕ a) (raised-zero F h x) ∙ F.zero-sum 0
        ∙ sym (ap (λ (a : ℕ). a ⊗ w) e ∙ 0_⊗ F w)

    -- the upper half by its own halves
    upper : h + h ≡ n → (x : ℕ) → eval K (drop n xs) x ≡ low x ⊕ raised K h x (high x)
    unfolding stretch
    upper e x =
        let start : 0 + n ≡ n = omega arith in
        let place : n + h ≡ h + n = omega arith in
        eval-parts F h (drop n xs) x (omega (arith, length-drop n xs))
        ∙ ap₂ (λ (k : ℕ) (l : List ℕ). eval K (take h (drop k xs)) x ⊕ raised K h x (eval K l x)) (sym start)
        (drop-drop h n xs ∙ ap (λ (k : ℕ). drop k xs) place ∙ sym (take_all h (drop (h + n) xs) (omega (arith, length-drop (h + n) xs))))

    -- the terms of W_j but the last, times the upper half
    halves : (x : ℕ) → raised K 0 x (term j j x ⊗ low x) ⊕ raised K h x (term j j x ⊗ high x) ≡ term j j x ⊗ eval K (drop n xs) x
    unfolding raised linear
    halves x = by j refl
      where
        by : (i : ℕ) → j ≡ i → term j j x ⊗ low x ⊕ raised K h x (term j j x ⊗ high x) ≡ term j j x ⊗ eval K (drop n xs) x
        by zero z = no_terms (term j j x) (low x) (high x) (eval K (drop n xs) x) x (ap (λ (i : ℕ). term j i x) z)
        by (suc i) z =
            let two : 2 ^ j ≡ 2 ^ i + 2 ^ i = ap (λ (k : ℕ). 2 ^ k) z ∙ two-pow-succ i in
            ap (λ (t : ℕ). term j j x ⊗ low x ⊕ t) (raised_scale F h x (term j j x) (high x))
            ∙ sym (F.distrib (term j j x) (low x) (raised K h x (high x)))
            ∙ ap (λ (t : ℕ). term j j x ⊗ t) (sym (upper (omega arith) x))

    whole : (x : ℕ) → x < 2 ^ degree q → eval K xs x ⊕ term j j x ⊗ eval K (drop n xs) x ≡ eval K (take n xs) x ⊕ value_by q table j x ⊗ eval K (drop n xs) x
    unfolding linear
    whole x sx =
        ap (λ (t : ℕ). t ⊕ term j j x ⊗ eval K (drop n xs) x) (eval_halves F j xs x (omega arith))
        ∙ one-factor F (eval K (take n xs) x) (term j j x) (squared K j x) (eval K (drop n xs) x)
        ∙ ap (λ (t : ℕ). eval K (take n xs) x ⊕ (term j j x ⊕ t) ⊗ eval K (drop n xs) x) (sym (ap (λ (c : ℕ). c ⊗ squared K j x) lead ∙ F.one_prod (squared K j x) (squared_symbol F x sx j)))

    -- the terms that two folds add
    pub both-folds : (x : ℕ) → x < 2 ^ degree q
        → eval K xs x ⊕ raised K 0 x (term j j x ⊗ low x) ⊕ raised K h x (term j j x ⊗ high x) ≡ eval K (take n xs) x ⊕ value_by q table j x ⊗ eval K (drop n xs) x
    both-folds x sx = F.sum_assoc (eval K xs x) _ _ ∙ ap (λ (t : ℕ). eval K xs x ⊕ t) (halves x) ∙ whole x sx

  module _ (j : ℕ) (old mid new : List ℕ) (lx : length old ≡ 2 ^ j + 2 ^ j) (lead : row_of table j j ≡ 1) (b : Below (2 ^ degree q) old) where
    -- the lower terms first: the product
    pub expanded : Folded q table j j 0 old mid → Folded q table j j (2 ^ j / 2) mid new → Expanded q (value_by q table) j old new
    expanded s t =
        record {
          kept = t.kept ∙ s.kept;
          below = (b, t.below);
          values = λ x sx. t.values x
              ∙ ap₂ (λ (u : ℕ) (l : List ℕ). u ⊕ raised K (2 ^ j / 2) x (term j j x ⊗ eval K l x)) (s.values x)
              (stretch-same (2 ^ j / 2) (2 ^ j / 2 + 2 ^ j) old mid (omega arith) s.kept (λ p h. s.beyond p (omega arith)))
              ∙ both-folds j old lx lead x sx;
        }

    move : (a u v r : ℕ) → r ≡ a ⊕ u ⊕ v → a ≡ r ⊕ v ⊕ u
    move a u v r e = simp (e, ring, F)

    -- the upper terms first: the division
    pub divided : Folded q table j j (2 ^ j / 2) old mid → Folded q table j j 0 mid new → Expanded q (value_by q table) j new old
    divided s t =
        let ln : length new ≡ length old = t.kept ∙ s.kept in
        record {
          kept = sym ln;
          below = (t.below, b);
          values = λ x sx. move (eval K old x) _ _ (eval K new x)
              (t.values x ∙ ap₂ (λ (u : ℕ) (l : List ℕ). u ⊕ raised K 0 x (term j j x ⊗ eval K l x)) (s.values x) (sym lower))
              ∙ ap (λ (l : List ℕ). eval K new x ⊕ raised K 0 x (term j j x ⊗ eval K (stretch (2 ^ j / 2) (0 + 2 ^ j) new) x) ⊕ raised K (2 ^ j / 2) x (term j j x ⊗ eval K l x)) (sym upper_same)
              ∙ both-folds j new (ln ∙ lx) lead x sx;
        }
      where
        lower : stretch (2 ^ j / 2) (0 + 2 ^ j) new ≡ stretch (2 ^ j / 2) (0 + 2 ^ j) mid
        lower = stretch-same (2 ^ j / 2) (0 + 2 ^ j) mid new (omega (arith, s.kept)) t.kept t.beyond

        upper_same : stretch (2 ^ j / 2) (2 ^ j / 2 + 2 ^ j) new ≡ stretch (2 ^ j / 2) (2 ^ j / 2 + 2 ^ j) old
        upper_same =
            stretch-same (2 ^ j / 2) (2 ^ j / 2 + 2 ^ j) mid new (omega (arith, s.kept)) t.kept (λ p h. t.beyond p (omega arith))
            ∙ stretch-same (2 ^ j / 2) (2 ^ j / 2 + 2 ^ j) old mid (omega arith) s.kept s.beyond
