-- From products of W_j to products of the normalised W_j and back, coefficient by coefficient. Assumes nothing.
use mathlib.Core.Path.{◌≡◌, refl, sym, ap, ap₂, ◌∙◌}
use mathlib.Core.List.{List, [], ◌∷◌, ◌++◌, zip_with}
use Prim.Native.Nat.{ℕ, zero, suc, ◌+◌, ◌^◌, ◌≤◌, ◌<◌}
use native.Mathlib.Nat.{two-pow-succ}
use native.Mathlib.Omega.{arith}
use lib.ListN.{length, get_or, take, drop, length-append, length-drop}
use lib.Seq.{length-take-le, take_at, drop_at}
use Rattle.space.specs.Sizes.{max_dim}
use Rattle.lists.specs.All.{All, All-take, All-drop}
use Rattle.lists.specs.Overwrite.{length_zip_with}
use Rattle.field.specs.Laws.{Ops, IsField, ring, ⊗_0, ⊗_1}
use Rattle.field.specs.Symbols.{symbols}
use Rattle.poly.specs.Poly.{scale_p, length_scale_p, take_scale_p, drop_scale_p}
use Rattle.poly.specs.Novel.{W, step, image, eval_x}
use Rattle.poly.proofs.Novel.{W-next, W_sym, step_sym}
use Rattle.poly.specs.Span.{Independent}
use Rattle.novel.specs.Sparse.{squared, linear, coefficient, Sparse, linear-W}
use Rattle.novel.specs.Convert.{eval_by, row_of, value_by}
use Rattle.novel.specs.Scales.{scales_of}

module _ {K : Ops} (F : IsField K) where
  infixl 60 ◌⊕◌
  infixl 70 ◌⊗◌
  open K use {◌⊕◌, ◌⊗◌, inv, Sym}

  pub eval_by-same : (g h : ℕ → ℕ) (m : ℕ) (d : List ℕ) → ((j : ℕ) → j < m → g j ≡ h j) → eval_by K g m d ≡ eval_by K h m d
  unfolding eval_by
  eval_by-same g h zero d e = refl
  eval_by-same g h (suc j) d e =
      ap₂ (λ (u v : ℕ). u ⊕ g j ⊗ v) (eval_by-same g h j (take (2 ^ j) d) (λ i l. e i (omega arith))) (eval_by-same g h j (drop (2 ^ j) d) (λ i l. e i (omega arith)))
      ∙ ap (λ (c : ℕ). eval_by K h j (take (2 ^ j) d) ⊕ c ⊗ eval_by K h j (drop (2 ^ j) d)) (e j (omega arith))

  pub eval_x-by : (bs : List ℕ) (m : ℕ) (d : List ℕ) (x : ℕ) → eval_x K bs m d x ≡ eval_by K (λ j. image K bs j x) m d
  unfolding eval_by
  eval_x-by bs zero d x = refl
  eval_x-by bs (suc j) d x = ap₂ (λ (u v : ℕ). u ⊕ image K bs j x ⊗ v) (eval_x-by bs j (take (2 ^ j) d) x) (eval_x-by bs j (drop (2 ^ j) d) x)

  head_scale : (a : ℕ) (d : List ℕ) → get_or (scale_p K a d) 0 0 ≡ a ⊗ get_or d 0 0
  head_scale a [] = sym (⊗_0 F a)
  head_scale a (c ∷ d) = refl

  scale_step : (a u v c : ℕ) → a ⊗ u ⊕ c ⊗ (a ⊗ v) ≡ a ⊗ (u ⊕ c ⊗ v)
  scale_step a u v c = simp (ring, F)

  eval_by_scale : (g : ℕ → ℕ) (m a : ℕ) (d : List ℕ) → eval_by K g m (scale_p K a d) ≡ a ⊗ eval_by K g m d
  unfolding eval_by
  eval_by_scale g zero a d = head_scale a d
  eval_by_scale g (suc j) a d =
      ap₂ (λ (u v : List ℕ). eval_by K g j u ⊕ g j ⊗ eval_by K g j v) (take_scale_p K a (2 ^ j) d) (drop_scale_p K a (2 ^ j) d)
      ∙ ap₂ (λ (u v : ℕ). u ⊕ g j ⊗ v) (eval_by_scale g j a (take (2 ^ j) d)) (eval_by_scale g j a (drop (2 ^ j) d))
      ∙ scale_step a _ _ (g j)

  -- ---- coefficients times the products of s

  pub length_scales_of : (s : ℕ → ℕ) (m : ℕ) → length (scales_of K s m) ≡ 2 ^ m
  unfolding scales_of
  length_scales_of s zero = refl
  length_scales_of s (suc j) =
      length-append (scales_of K s j) (scale_p K (s j) (scales_of K s j))
      ∙ ap₂ ◌+◌ (length_scales_of s j) (length_scale_p K (s j) (scales_of K s j) ∙ length_scales_of s j) ∙ sym (two-pow-succ j)

  zip_append : (xs ys d : List ℕ) → zip_with ◌⊗◌ (xs ++ ys) d ≡ zip_with ◌⊗◌ xs (take (length xs) d) ++ zip_with ◌⊗◌ ys (drop (length xs) d)
  unfolding zip_with
  zip_append [] ys d = refl
  zip_append (x ∷ xs) [] [] = refl
  zip_append (x ∷ xs) (y ∷ ys) [] = refl
  zip_append (x ∷ xs) ys (c ∷ d) = ap (λ (l : List ℕ). (x ⊗ c) ∷ l) (zip_append xs ys d)

  zip_scale : (a : ℕ) (xs d : List ℕ) → zip_with ◌⊗◌ (scale_p K a xs) d ≡ scale_p K a (zip_with ◌⊗◌ xs d)
  unfolding zip_with
  zip_scale a [] d = refl
  zip_scale a (x ∷ xs) [] = refl
  zip_scale a (x ∷ xs) (c ∷ d) = ap₂ ◌∷◌ (F.prod_assoc a x c) (zip_scale a xs d)

  head_zip : (d : List ℕ) → length d ≡ 1 → All Sym d → get_or (zip_with ◌⊗◌ (1 ∷ []) d) 0 0 ≡ get_or d 0 0
  unfolding zip_with
  head_zip [] e sd = refl
  head_zip (c ∷ d) e sd = F.one_prod c sd.0

  factor-step : (u c a v : ℕ) → u ⊕ c ⊗ (a ⊗ v) ≡ u ⊕ a ⊗ c ⊗ v
  factor-step u c a v = simp (ring, F)

  pub eval_by_scales : (s g : ℕ → ℕ) (m : ℕ) (d : List ℕ) → length d ≡ 2 ^ m → All Sym d
      → eval_by K g m (zip_with ◌⊗◌ (scales_of K s m) d) ≡ eval_by K (λ j. s j ⊗ g j) m d
  unfolding eval_by scales_of
  eval_by_scales s g zero d e sd = head_zip d e sd
  eval_by_scales s g (suc j) d e sd =
      ap₂ (λ (u v : List ℕ). eval_by K g j u ⊕ g j ⊗ eval_by K g j v) (ap (take (2 ^ j)) parts ∙ take_at lo hi (2 ^ j) length_lo) (ap (drop (2 ^ j)) parts ∙ drop_at lo hi (2 ^ j) length_lo)
      ∙ ap₂ (λ (u v : ℕ). u ⊕ g j ⊗ v)
      (eval_by_scales s g j (take (2 ^ j) d) (length-take-le (2 ^ j) d (omega (arith, two-pow-succ j))) (All-take Sym (2 ^ j) d sd))
      (eval_by_scale g j (s j) (zip_with ◌⊗◌ (scales_of K s j) (drop (2 ^ j) d))
      ∙ ap (λ (t : ℕ). s j ⊗ t) (eval_by_scales s g j (drop (2 ^ j) d) (length-drop (2 ^ j) d ∙ omega (arith, two-pow-succ j)) (All-drop Sym (2 ^ j) d sd)))
      ∙ factor-step _ (g j) (s j) _
    where
      lo : List ℕ
      lo = zip_with ◌⊗◌ (scales_of K s j) (take (2 ^ j) d)

      hi : List ℕ
      hi = scale_p K (s j) (zip_with ◌⊗◌ (scales_of K s j) (drop (2 ^ j) d))

      length_lo : length lo ≡ 2 ^ j
      length_lo = length_zip_with ◌⊗◌ (2 ^ j) (scales_of K s j) (take (2 ^ j) d) (length_scales_of s j) (length-take-le (2 ^ j) d (omega (arith, two-pow-succ j)))

      parts : zip_with ◌⊗◌ (scales_of K s j ++ scale_p K (s j) (scales_of K s j)) d ≡ lo ++ hi
      parts =
          zip_append (scales_of K s j) (scale_p K (s j) (scales_of K s j)) d
          ∙ ap (λ (n : ℕ). zip_with ◌⊗◌ (scales_of K s j) (take n d) ++ zip_with ◌⊗◌ (scale_p K (s j) (scales_of K s j)) (drop n d)) (length_scales_of s j)
          ∙ ap (λ (l : List ℕ). lo ++ l) (zip_scale (s j) (scales_of K s j) (drop (2 ^ j) d))

  linear-same : (c e : ℕ → ℕ) (n x : ℕ) → ((i : ℕ) → i < n → c i ≡ e i) → linear K c n x ≡ linear K e n x
  unfolding linear
  linear-same c e zero x h = refl
  linear-same c e (suc n) x h = ap₂ (λ (u v : ℕ). u ⊕ v ⊗ squared K n x) (linear-same c e n x (λ i l. h i (omega arith))) (h n (omega arith))

  -- ---- the two changes, for an independent basis

  module _ (bs : List ℕ) (sb : All Sym bs) (ind : Independent K bs) (m : ℕ) (hm : m ≤ length bs) where
    step-inverse : (w t v : ℕ) → Sym w → t ⊗ v ≡ 1 → t ⊗ (w ⊗ v) ≡ w
    step-inverse w t v sw e = rearranged ∙ ap (λ (u : ℕ). w ⊗ u) e ∙ ⊗_1 F w sw
      where
        rearranged : t ⊗ (w ⊗ v) ≡ w ⊗ (t ⊗ v)
        rearranged = simp (ring, F)

    -- coefficients times the products of the steps
    pub to_normal : (s : ℕ → ℕ) (d : List ℕ) (x : ℕ) → ((j : ℕ) → j < m → s j ≡ step K bs j) → length d ≡ 2 ^ m → All Sym d → Sym x
        → eval_x K bs m (zip_with ◌⊗◌ (scales_of K s m) d) x ≡ eval_by K (λ j. W K bs j x) m d
    to_normal s d x e ld sd sx =
        eval_x-by bs m (zip_with ◌⊗◌ (scales_of K s m) d) x
        ∙ eval_by_scales s (λ j. image K bs j x) m d ld sd
        ∙ eval_by-same (λ j. s j ⊗ image K bs j x) (λ j. W K bs j x) m d
        (λ j h. ap (λ (t : ℕ). t ⊗ image K bs j x) (e j h)
        ∙ step-inverse (W K bs j x) (step K bs j) (inv (step K bs j)) (W_sym F bs sb j x sx)
        (F.prod_inv (step K bs j) (step_sym F bs sb j) (W-next F bs sb ind j (omega arith))))

    -- coefficients times the products of their inverses
    pub from_normal : (s : ℕ → ℕ) (d : List ℕ) (x : ℕ) → ((j : ℕ) → j < m → s j ≡ inv (step K bs j)) → length d ≡ 2 ^ m → All Sym d
        → eval_by K (λ j. W K bs j x) m (zip_with ◌⊗◌ (scales_of K s m) d) ≡ eval_x K bs m d x
    from_normal s d x e ld sd =
        eval_by_scales s (λ j. W K bs j x) m d ld sd
        ∙ eval_by-same (λ j. s j ⊗ W K bs j x) (λ j. image K bs j x) m d
        (λ j h. ap (λ (t : ℕ). t ⊗ W K bs j x) (e j h) ∙ F.prod_comm (inv (step K bs j)) (W K bs j x))
        ∙ sym (eval_x-by bs m d x)

-- W_j(x) by the rows of the table
pub value_row : {q : ℕ} (F : IsField (symbols q)) (bs steps t : List ℕ) (m : ℕ) → m ≤ max_dim → m ≤ length bs → ((j : ℕ) → j < m → get_or steps j 0 ≡ step (symbols q) bs j)
    → Sparse q steps m t → (j x : ℕ) → j < m → (symbols q).Sym x → value_by q t j x ≡ W (symbols q) bs j x
value_row {q} F bs steps t m few hm e s j x h sx =
    linear-same F (row_of t j) (coefficient (symbols q) (λ i. get_or steps i 0) j) (suc j) x (λ i l. s.right j i h (omega arith))
    ∙ linear-W F (λ i. get_or steps i 0) bs j x (omega arith) (λ i l. e i (omega arith)) sx
