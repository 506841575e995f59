-- The tables of the first i basis elements, as the loop of `tabulate` makes them. Assumes nothing.
use mathlib.Core.Path.{◌≡◌, sym, ap, ap₂, ◌∙◌, subst}
use mathlib.Core.Logic.{◌≢◌, ◌⊎◌, inl, inr}
use mathlib.Core.List.{List}
use Prim.Native.Nat.{ℕ, zero, suc, ◌+◌, ◌*◌, ◌/◌, ◌%◌, ◌^◌, ◌≤◌, ◌<◌}
use native.Mathlib.Decide.{dec_lt, ℕ_discrete}
use native.Mathlib.Omega.{arith}
use lib.ListN.{length, get_or, take, set, replicate, length-set, get_or-eq_default}
use lib.Pow.{pow_pos, pow-lt}
use lib.Seq.{get_or-set_same, get_or-set_other}
use Rattle.lists.specs.All.{Below}
use Rattle.lists.specs.Filled.{Filled}
use Rattle.lists.specs.Upto.{Upto, upto_none, upto_next, upto_all, upto_each}
use Rattle.field.specs.Binary.{◌⊕◌, degree, product, inverse, Irreducible}
use Rattle.field.specs.Laws.{Ops, IsField, 0_⊕}
use Rattle.field.specs.Symbols.{symbols, symbols-field, inverse-zero}
use Rattle.poly.specs.Span.{elem}
use Rattle.poly.proofs.Span.{elem-zero, vanish-nil, vanish-zero}
use Rattle.poly.specs.Novel.{W, step, image}
use Rattle.poly.proofs.Novel.{W_suc, step_sym, elem-high, image-elem, image-zero, image-next, independent_iff}
use Rattle.space.specs.Values.{value_at, image_at}
use Rattle.space.specs.Setting.{images_of, steps_of, inverses_of, tables_of, Tabled}
use Rattle.std.specs.Prelude.{Some, None}
use Rattle.space.specs.Sizes.{max_dim, cells}

module _ (m : ℕ) (irr : Irreducible m) (bs : List ℕ) (few : length bs ≤ max_dim) (sb : Below (2 ^ degree m) bs) where
  abbrev K : Ops
  K = symbols m

  abbrev F : IsField K
  F = symbols-field m irr

  -- the images, by row and number
  abbrev image_of : ℕ → ℕ
  image_of p = image K bs (p % 16) (get_or bs (p / 16) 0)

  abbrev inverse_of : ℕ → ℕ
  inverse_of j = inverse m (step K bs j)

  pub record SoFar (i : ℕ) (is ss vs : List ℕ) : Type 0 where
    pub rows : Upto cells (16 * i) image_of is
    pub steps : Upto 16 i (step K bs) ss
    pub inverses : Upto 16 i inverse_of vs
    pub nonzero : (j : ℕ) → j < i → step K bs j ≢ 0

  pub so_far-none : SoFar 0 (replicate cells 0) (replicate 16 0) (replicate 16 0)
  so_far-none = record { rows = upto_none cells image_of; steps = upto_none 16 (step K bs); inverses = upto_none 16 inverse_of; nonzero = λ j h. absurd (omega arith) }

  inverses_symbol : (j : ℕ) → inverse_of j < 2 ^ degree m
  inverses_symbol j = F.sym_inv (step_sym F bs sb j)

  module _ {i : ℕ} {images steps inverses : List ℕ} (s : SoFar i images steps inverses) where
    pub steps-below : Below (2 ^ degree m) steps
    steps-below = upto_each (λ (x : ℕ). x < 2 ^ degree m) (pow_pos (degree m)) (λ j h. step_sym F bs sb j) s.steps

    pub inverses_below : Below (2 ^ degree m) inverses
    inverses_below = upto_each (λ (x : ℕ). x < 2 ^ degree m) (pow_pos (degree m)) (λ j h. inverses_symbol j) s.inverses

    -- the values of the subspace polynomials
    value-right : (j : ℕ) → j ≤ i → i ≤ length bs → (x : ℕ) → value_at m steps j x ≡ W K bs j x
    unfolding value_at
    value-right zero h k x = sym (vanish-nil F x)
    value-right (suc j) h k x =
        ap₂ (λ (y t : ℕ). product m y (y ⊕ t)) (value-right j (omega arith) k x) (s.steps.done j h (omega arith))
        ∙ sym (W_suc F bs j x (omega arith))

    module _ (h : i < length bs) where
      abbrev b : ℕ
      b = get_or bs i 0

      pub step_right : value_at m steps i b ≡ step K bs i
      step_right = value-right i (omega arith) (omega arith) b

      image-right : (j : ℕ) → j < i → image_at m steps inverses b j ≡ image K bs j b
      unfolding image_at
      image-right j k = ap₂ (product m) (value-right j (omega arith) (omega arith) b) (s.inverses.done j k (omega arith))

      -- basis element i lies in the span of the first j elements, i below j
      image-above : (j : ℕ) → i < j → image K bs j b ≡ 0
      image-above j k = ap (image K bs j) (sym unit) ∙ image-elem F bs j (0 + 2 ^ i) (subst (λ (t : ℕ). t < 2 ^ j) (sym (omega arith)) (pow-lt k))
        where
          unit : elem K bs (0 + 2 ^ i) ≡ b
          unit = elem-high F bs i 0 h (pow_pos i) ∙ ap (λ (t : ℕ). t ⊕ b) (elem-zero F bs) ∙ 0_⊕ F b

      -- row i, once its step is known not to be 0
      module _ (n : step K bs i ≢ 0) (new : List ℕ) (w : Filled (16 * i) i (image_at m steps inverses b) images new) where
        row_at : (j : ℕ) → j < 16 → (j < i) ⊎ (i ≤ j) → Dec (j ≡ i) → get_or (set new (17 * i) 1) (16 * i + j) 0 ≡ image K bs j b
        row_at j l (inl k) d = get_or-set_other new (17 * i) (16 * i + j) 1 0 (λ q. omega arith) ∙ w.inside j k ∙ image-right j k
        row_at j l (inr k) (yes q) =
            let here : 16 * i + j ≡ 17 * i = omega arith in
            ap (λ (t : ℕ). get_or (set new (17 * i) 1) t 0) here ∙ get_or-set_same new (17 * i) 1 0 (omega (arith, w.kept, s.rows.count))
            ∙ sym (image-next F bs sb i n) ∙ ap (λ (t : ℕ). image K bs t b) (sym q)
        row_at j l (inr k) (no q) =
            get_or-set_other new (17 * i) (16 * i + j) 1 0 (λ e. q (omega arith)) ∙ w.outside (16 * i + j) (inr (omega arith))
            ∙ s.rows.left (16 * i + j) (omega arith) ∙ sym (image-above j (omega arith))

        side : (j : ℕ) → Dec (j < i) → (j < i) ⊎ (i ≤ j)
        side j (yes k) = inl k
        side j (no k) = inr (omega arith)

        place : (p : ℕ) → p < 16 * (i + 1) → p < cells → Dec (p < 16 * i) → get_or (set new (17 * i) 1) p 0 ≡ image_of p
        place p k l (yes q) = get_or-set_other new (17 * i) p 1 0 (λ e. omega arith) ∙ w.outside p (inl q) ∙ s.rows.done p q l
        place p k l (no q) =
            let row : p / 16 ≡ i = omega arith in
            let split : 16 * i + p % 16 ≡ p = omega arith in
            ap (λ (t : ℕ). get_or (set new (17 * i) 1) t 0) (sym split) ∙ row_at (p % 16) (omega arith) (side (p % 16) (dec_lt (p % 16) i)) (ℕ_discrete (p % 16) i)
            ∙ ap (λ (t : ℕ). image K bs (p % 16) (get_or bs t 0)) (sym row)

        rows_next : Upto cells (16 * (i + 1)) image_of (set new (17 * i) 1)
        rows_next =
            record {
              count = length-set new (17 * i) 1 ∙ w.kept ∙ s.rows.count;
              done = λ p k l. place p k l (dec_lt p (16 * i));
              left = λ p k. get_or-set_other new (17 * i) p 1 0 (λ e. omega arith) ∙ w.outside p (inr (omega arith)) ∙ s.rows.left p (omega arith);
            }

        pub so_far-next : (t v : ℕ) → t ≡ step K bs i → v ≡ inverse m t → SoFar (i + 1) (set new (17 * i) 1) (set steps i t) (set inverses i v)
        so_far-next t v et ev =
            record {
              rows = rows_next;
              steps = upto_next t (omega arith) et s.steps;
              inverses = upto_next v (omega arith) (ev ∙ ap (inverse m) et) s.inverses;
              nonzero = λ j k. other j k (ℕ_discrete j i);
            }
          where
            other : (j : ℕ) → j < i + 1 → Dec (j ≡ i) → step K bs j ≢ 0
            other j k (yes q) = subst (λ (u : ℕ). step K bs u ≢ 0) (sym q) n
            other j k (no q) = s.nonzero j (omega arith)

  -- ---- past the basis

  entry_past : (i : ℕ) → length bs ≤ i → get_or bs i 0 ≡ 0
  entry_past i h = get_or-eq_default bs 0 h

  step_past : (j : ℕ) → length bs ≤ j → step K bs j ≡ 0
  step_past j h = ap (W K bs j) (entry_past j h) ∙ vanish-zero F (take j bs)

  module _ {images steps inverses : List ℕ} (s : SoFar (length bs) images steps inverses) where
    pub images-all : images ≡ images_of K bs
    images-all = upto_all (λ p h l. ap (image K bs (p % 16)) (entry_past (p / 16) (omega arith)) ∙ image-zero F bs (p % 16)) s.rows

    pub steps_all : steps ≡ steps_of K bs
    steps_all = upto_all (λ j h l. step_past j h) s.steps

    pub inverses_all : inverses ≡ inverses_of K bs
    inverses_all = upto_all (λ j h l. ap (inverse m) (step_past j h) ∙ inverse-zero m irr) s.inverses

    -- all steps are there, so the basis is independent
    pub tabled_all : Tabled m bs (Some (record { images = images; steps = steps; inverses = inverses }))
    unfolding tables_of
    tabled_all = ((independent_iff F bs sb).1 s.nonzero, λ i. record { images = images-all i; steps = steps_all i; inverses = inverses_all i })

  -- a step that is 0
  pub tabled_none : (i : ℕ) → i < length bs → step K bs i ≡ 0 → Tabled m bs None
  tabled_none i h z ind = (independent_iff F bs sb).0 ind i h z
