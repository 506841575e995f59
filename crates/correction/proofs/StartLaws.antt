-- The polynomial that vanishes on the space, term by term; and the polynomial through a word, from the transform in one lane. Assumes nothing.
use mathlib.Core.Path.{◌≡◌, refl, sym, ap, ap₂, ◌∙◌, subst}
use mathlib.Core.List.{List, [], ◌∷◌}
use Prim.Native.Nat.{ℕ, zero, suc, ◌+◌, ◌*◌, ◌^◌, ◌≤◌, ◌<◌}
use native.Mathlib.Nat.{le_refl, two-pow-succ}
use native.Mathlib.Omega.{arith}
use native.Mathlib.Numerals.{add-one}
use lib.ListN.{length, get_or, set, take, drop, length-set}
use lib.Pow.{pow_pos}
use lib.Seq.{get_or-set_same, get_or-set_other}
use Rattle.lists.specs.All.{All, Below, IsZero, All-at, All-of, zeros-below}
use Rattle.lists.specs.Lanes.{lane, lane-is}
use Rattle.field.specs.Binary.{degree, Irreducible}
use Rattle.field.specs.Laws.{Ops, IsField, ring, 0_⊕}
use Rattle.field.specs.Symbols.{symbols, symbols-field}
use Rattle.field.specs.declared.Field.{Field}
use Rattle.poly.specs.Poly.{eval}
use Rattle.poly.proofs.Poly.{eval-zeros}
use Rattle.poly.specs.Span.{elem}
use Rattle.poly.proofs.Span.{elem_sym}
use Rattle.poly.specs.Novel.{eval_x}
use Rattle.poly.proofs.Novel.{image-zero, W-next, W-elem}
use Rattle.poly.specs.Transform.{unfolded, shifted, inverse}
use Rattle.poly.specs.Values.{table, images_of}
use Rattle.poly.proofs.Values.{inverse-at}
use Rattle.poly.specs.Codeword.{Basis}
use Rattle.space.specs.Images.{Images}
use Rattle.space.specs.Sizes.{lane_cells}
use Rattle.transform.specs.Blocks.{InBlocks}
use Rattle.transform.specs.Lanes.{image_at, lane_shift, InLanes, Interpolated}
use Rattle.transform.specs.Spans.{Zeros}
use Rattle.novel.specs.Convert.{raised}
use Rattle.novel.specs.Sparse.{squared, linear, coefficient, linear-W, coefficient-lead}
use Rattle.novel.proofs.Evaluate.{raised-squared}
use Rattle.correction.specs.Start.{Vanishing, WordInterpolated}

-- ---- a list with a symbol in place of another

pub set-each : (P : ℕ → Type 0) (xs : List ℕ) (p c : ℕ) → All P xs → P c → All P (set xs p c)
set-each P [] p c h s = tt
set-each P (x ∷ xs) zero c h s = (s, h.1)
set-each P (x ∷ xs) (suc p) c h s = (h.0, set-each P xs p c h.1 s)

module _ {K : Ops} (F : IsField K) where
  infixl 60 ◌⊕◌
  infixl 70 ◌⊗◌
  open K use {◌⊕◌, ◌⊗◌}

  first_step : (y c t : ℕ) → y ≡ 0 → c ⊕ t ≡ y ⊕ t ⊕ c
  first_step y c t e = simp (e, ring, F)

  later-step : (y x u v w : ℕ) → w ≡ u ⊕ v → y ⊕ x ⊗ w ≡ y ⊕ x ⊗ u ⊕ x ⊗ v
  later-step y x u v w e = simp (e, ring, F)

  eval-set : (xs : List ℕ) (p c x : ℕ) → p < length xs → get_or xs p 0 ≡ 0 → eval K (set xs p c) x ≡ eval K xs x ⊕ raised K p x c
  unfolding raised
  eval-set [] p c x h z = absurd (omega arith)
  eval-set (y ∷ xs) zero c x h z = first_step y c _ z
  eval-set (y ∷ xs) (suc p) c x h z = later-step y x _ _ _ (eval-set xs p c x (omega arith) z)

-- ---- the terms of W_k

-- the first i terms
pub record Terms (q : ℕ) (steps : List ℕ) (k i n : ℕ) (values : List ℕ) : Type 0 where
  pub kept : length values ≡ n
  pub below : Below (2 ^ degree q) values
  pub rest : (p : ℕ) → 2 ^ i ≤ p → get_or values p 0 ≡ 0
  pub value : (x : ℕ) → eval (symbols q) values x ≡ linear (symbols q) (coefficient (symbols q) (λ j. get_or steps j 0) k) i x

module _ (q : ℕ) (irr : Irreducible q) (steps : List ℕ) (k : ℕ) where
  abbrev K : Ops
  K = symbols q

  abbrev F : IsField K
  F = symbols-field q irr

  abbrev c : ℕ → ℕ
  c = coefficient K (λ j. get_or steps j 0) k

  pub terms_none : (values : List ℕ) → All IsZero values → Terms q steps k 0 (length values) values
  unfolding linear
  terms_none values z =
      record {
        kept = refl;
        below = zeros-below (2 ^ degree q) values (pow_pos (degree q)) z;
        rest = λ p h. All-at IsZero values 0 z refl p;
        value = λ x. eval-zeros F values x z;
      }

  pub terms_next : (i n p x : ℕ) (values : List ℕ) → p ≡ 2 ^ i → p < n → x ≡ c i → x < 2 ^ degree q → Terms q steps k i n values → Terms q steps k (i + 1) n (set values p x)
  unfolding linear
  terms_next i n p x values ep h ex sx t =
      record {
        kept = length-set values p x ∙ t.kept;
        below = set-each (λ (y : ℕ). y < 2 ^ degree q) values p x t.below sx;
        rest = λ r l. get_or-set_other values p r x 0 (λ e. omega (arith, wide, pow_pos i)) ∙ t.rest r (omega (arith, wide));
        value = λ y. eval-set F values p x y (omega (arith, t.kept)) (t.rest p (omega arith))
            ∙ ap₂ K.◌⊕◌ (t.value y)
            (ap (λ (s : ℕ). raised K s y x) ep ∙ raised-squared F i y x ∙ F.prod_comm (squared K i y) x ∙ ap (λ (s : ℕ). K.◌⊗◌ s (squared K i y)) ex)
            ∙ ap (λ (s : ℕ). linear K c s y) (sym (add-one i));
      }
    where
      wide : 2 ^ (i + 1) ≡ 2 ^ i + 2 ^ i
      wide = ap (λ (s : ℕ). 2 ^ s) (add-one i) ∙ two-pow-succ i

  -- with the last one the polynomial vanishes on the space
  pub terms_all : (n p : ℕ) (values : List ℕ) → p ≡ 2 ^ k → p < n → 1 < 2 ^ degree q → Terms q steps k k n values → Vanishing q steps k (set values p 1)
  terms_all n p values ep h one t =
      let u = terms_next k n p 1 values ep h (sym (coefficient-lead F (λ j. get_or steps j 0) k)) one t in
      record {
        below = u.below;
        low = λ i l. get_or-set_other values p i 1 0 (λ e. omega arith) ∙ t.rest i (omega arith);
        lead = ap (λ (m : ℕ). get_or (set values p 1) m 0) (sym ep) ∙ get_or-set_same values p 1 0 (omega (arith, t.kept));
        roots = λ bs s j l.
            u.value (elem K bs j) ∙ ap (λ (m : ℕ). linear K c m (elem K bs j)) (add-one k)
            ∙ linear-W F (λ j. get_or steps j 0) bs k (elem K bs j) s.enough s.right (elem_sym F bs j s.elements) ∙ W-elem F bs k j l;
      }

-- ---- the transform in one lane

module _ (K : Ops) (T S : ℕ → ℕ → ℕ) (m : ℕ) (same : (i j : ℕ) → i < m → j < i → T i j ≡ S i j) where
  lower_shift : (j : ℕ) → j < m → (u v : ℕ → ℕ) → ((i : ℕ) → i < suc j → u i ≡ v i) → (i : ℕ) → i < j → shifted K T j u i ≡ shifted K S j v i
  lower_shift j hj u v e i h = ap₂ K.◌⊕◌ (e i (omega arith)) (same j i hj h)

  -- a transform reads the images of number j of basis element i where j is below i
  inverse_lower : (j : ℕ) → j ≤ m → (u v : ℕ → ℕ) (g : List ℕ) → ((i : ℕ) → i < j → u i ≡ v i) → inverse K T j u g ≡ inverse K S j v g
  inverse_lower zero hj u v g e = refl
  inverse_lower (suc j) hj u v g e =
      ap (λ (c : ℕ). unfolded K c (inverse K T j u (take (2 ^ j) g)) (inverse K T j (shifted K T j u) (drop (2 ^ j) g))) (e j (omega arith))
      ∙ ap₂ (unfolded K (v j)) (inverse_lower j (omega arith) u v (take (2 ^ j) g) (λ i h. e i (omega arith)))
      (inverse_lower j (omega arith) (shifted K T j u) (shifted K S j v) (drop (2 ^ j) g) (lower_shift j hj u v e))

pub one_lane : (n : ℕ) (xs : List ℕ) → length xs ≡ n → lane 1 0 n xs ≡ xs
one_lane n xs l = lane-is 1 0 n xs xs l (λ o h. ap (λ (t : ℕ). get_or xs t 0) {x = o * 1 + 0} {y = o} (omega arith))

pub zeros-each : {n : ℕ} (b : ℕ) (xs : List ℕ) → Zeros n xs → 0 < b → Below b xs
zeros-each b xs z h = All-of (λ (x : ℕ). x < b) xs 0 (λ i l. subst (λ (x : ℕ). x < b) (sym (z.each i)) h)

module _ (f : Field) (images : List ℕ) (k : ℕ) (lanes shift : List ℕ) (zl : Zeros lane_cells lanes) (zs : Zeros 16 shift) (old : List ℕ) (h : InBlocks f images k old) where
  abbrev q' : ℕ
  q' = f.modulus

  abbrev K' : Ops
  K' = symbols q'

  abbrev F' : IsField K'
  F' = symbols-field q' h.irreducible

  pub word_in_lanes : InLanes f images lanes 1 k shift old
  word_in_lanes =
      record {
        sized = h.sized;
        few = h.high;
        long = h.long ∙ omega arith;
        room = omega (arith, zl.count, h.high);
        image-symbols = h.image-symbols;
        lane-symbols = zeros-each (2 ^ degree q') lanes zl (pow_pos (degree q'));
        shift_symbols = zeros-each (2 ^ degree q') shift zs (pow_pos (degree q'));
        symbols = h.symbols;
      }

  pub word_interpolated : (new : List ℕ) → Interpolated q' images lanes 1 k shift old new → WordInterpolated q' images k old new
  word_interpolated new t =
      record {
        kept = t.kept;
        below = t.below;
        values = λ bs B I i l.
            ap₂ (eval_x K' bs k) (whole bs B I) (sym (0_⊕ F' (elem K' bs i)))
            ∙ inverse-at F' bs B.elements (W-next F' bs B.elements B.independent) (table K' bs) k (omega (arith, B.count)) (λ i j hi hj. refl) (images_of K' bs 0) 0 (λ j h. refl)
            F'.sym_zero old h.long h.symbols i l;
      }
    where
      whole : (bs : List ℕ) → Basis K' k bs → Images K' bs images → new ≡ inverse K' (table K' bs) k (images_of K' bs 0) old
      whole bs B I =
          sym (one_lane (2 ^ k) new (t.kept ∙ h.long)) ∙ t.right 0 (omega arith)
          ∙ ap (inverse K' (image_at images) k (lane_shift lanes 1 shift 0)) (one_lane (2 ^ k) old h.long)
          ∙ inverse_lower K' (image_at images) (table K' bs) k (λ i j hi hj. I.right i j (omega (arith, B.count)) (omega (arith, B.count))) k (le_refl k)
          (lane_shift lanes 1 shift 0) (images_of K' bs 0) old
          (λ j l. ap₂ K'.◌⊕◌ (zl.each (j * 1 + 0)) (zs.each j) ∙ F'.zero-sum 0 ∙ sym (image-zero F' bs j))
