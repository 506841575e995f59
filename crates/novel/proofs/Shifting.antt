-- The shift of coefficients: low + (x^(2^j) + c) high by one product of lists, and P(x + σ) from the products of these factors. Assumes nothing.
use mathlib.Core.Path.{◌≡◌, refl, sym, ap, ap₂, ◌∙◌, subst}
use mathlib.Core.Logic.{inr}
use mathlib.Core.List.{List}
use Prim.Native.Nat.{ℕ, zero, suc, ◌+◌, ◌^◌, ◌≤◌}
use native.Mathlib.Nat.{pow-suc}
use native.Mathlib.Omega.{arith}
use lib.ListN.{length, get_or, take, drop, length-drop}
use lib.Seq.{take_all, length-take-le}
use Rattle.space.specs.Sizes.{max_dim}
use Rattle.lists.specs.All.{All, Below, IsZero}
use Rattle.lists.specs.Stretch.{Apart, stretch}
use Rattle.field.specs.Binary.{degree, Irreducible}
use Rattle.field.specs.Laws.{Ops, IsField, ring}
use Rattle.field.specs.Product.{positive}
use Rattle.field.specs.Products.{accumulated}
use Rattle.field.specs.Symbols.{symbols, symbols-field}
use Rattle.field.proofs.Accumulate.{length_accumulated, accumulated-below}
use Rattle.poly.specs.Poly.{eval}
use Rattle.novel.specs.Sparse.{squared}
use Rattle.novel.specs.Convert.{raised, eval_by, shifted_by, Expanded, Monomials}
use Rattle.novel.specs.Shift.{Squares, Shifted}
use Rattle.novel.proofs.Bases.{eval_by-same}
use Rattle.novel.proofs.Evaluate.{eval_halves, one-factor, accumulated-eval}
use Rattle.novel.proofs.Recursion.{one-coefficient}

module _ (q : ℕ) (irr : Irreducible q) where
  abbrev K : Ops
  K = symbols q

  abbrev F : IsField K
  F = symbols-field q irr

  infixl 60 ◌⊕◌
  infixl 70 ◌⊗◌
  open K use {◌⊕◌, ◌⊗◌}

  -- ---- one level

  -- c times the upper half is added to the lower half
  module _ (table : List ℕ) (j half : ℕ) (ts old : List ℕ) (e : half ≡ 2 ^ j) (lt : length ts ≡ half) (two : length old ≡ 2 ^ j + 2 ^ j) where
    abbrev c : ℕ
    c = get_or table j 0

    pub high-apart : Apart (length ts) half 0 (length old)
    high-apart = record { first = omega arith; second = omega arith; apart = inr (omega arith) }

    upper : stretch (length ts) half old ≡ drop (2 ^ j) old
    unfolding stretch
    upper = ap (λ (k : ℕ). take k (drop half old)) lt ∙ take_all half (drop half old) (omega (arith, length-drop half old)) ∙ ap (λ (k : ℕ). drop k old) e

    value : (x : ℕ) → eval K old x ⊕ raised K 0 x (c ⊗ eval K (stretch (length ts) half old) x) ≡ eval K (take (2 ^ j) old) x ⊕ shifted_by q table j x ⊗ eval K (drop (2 ^ j) old) x
    unfolding raised
    value x =
        ap₂ (λ (u : ℕ) (l : List ℕ). u ⊕ c ⊗ eval K l x) (eval_halves F j old x (omega arith)) upper
        ∙ one-factor F (eval K (take (2 ^ j) old) x) c (squared K j x) (eval K (drop (2 ^ j) old) x)

    pub high_expanded : (new : List ℕ) → All IsZero ts → Below (2 ^ degree q) old → new ≡ accumulated q c ts half 0 old → Expanded q (shifted_by q table) j old new
    high_expanded new z b h =
        subst (Expanded q (shifted_by q table) j old) (sym h)
        (record {
          kept = length_accumulated q c ts half 0 old high-apart;
          below = (b, accumulated-below q c (positive q irr) ts half 0 old high-apart b);
          values = λ x sx. accumulated-eval q irr c ts half 0 old z high-apart x ∙ value x;
        })

  -- ---- all levels

  -- coefficients of powers of y are those of products of y^(2^j)
  powers-by : (m : ℕ) (d : List ℕ) (y : ℕ) → length d ≡ 2 ^ m → eval_by K (λ j. squared K j y) m d ≡ eval K d y
  unfolding eval_by
  powers-by zero d y l = sym (one-coefficient q irr (λ j x. 0) d y l)
  powers-by (suc j) d y l =
      let two : length d ≡ 2 ^ j + 2 ^ j = omega (arith, pow-suc 2 j) in
      ap₂ (λ (u v : ℕ). u ⊕ squared K j y ⊗ v)
      (powers-by j (take (2 ^ j) d) y (length-take-le (2 ^ j) d (omega arith)))
      (powers-by j (drop (2 ^ j) d) y (length-drop (2 ^ j) d ∙ omega arith))
      ∙ sym (eval_halves F j d y (omega arith))

  square_step : (u v w : ℕ) → w ≡ u ⊕ v → w ⊗ w ≡ u ⊗ u ⊕ v ⊗ v
  square_step u v w e = simp (e, ring, F)

  -- squares are additive
  squared-sum : (j a b : ℕ) → squared K j (a ⊕ b) ≡ squared K j a ⊕ squared K j b
  unfolding squared
  squared-sum zero a b = refl
  squared-sum (suc j) a b = square_step _ _ _ (squared-sum j a b)

  pub shifted : (σ m : ℕ) (t old new : List ℕ) → m ≤ max_dim → length old ≡ 2 ^ m → Squares q σ t → Monomials q (shifted_by q t) m old new → Shifted q σ old new
  shifted σ m t old new few l s w =
      record {
        kept = w.kept;
        below = w.below.1;
        values = λ x sx. w.values x sx
            ∙ eval_by-same F (λ j. shifted_by q t j x) (λ j. squared K j (σ ⊕ x)) m old
            (λ j h. ap (λ (u : ℕ). u ⊕ squared K j x) (s.right j (omega arith)) ∙ sym (squared-sum j σ x))
            ∙ powers-by m old (σ ⊕ x) l;
      }

  -- the shift 0
  pub shifted-zero : (σ : ℕ) (xs : List ℕ) → σ ≡ 0 → Below (2 ^ degree q) xs → Shifted q σ xs xs
  shifted-zero σ xs z b = record { kept = refl; below = b; values = λ x sx. ap (eval K xs) (sym (ap (λ (s : ℕ). s ⊕ x) z ∙ F.zero-sum x)) }
