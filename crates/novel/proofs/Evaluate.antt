-- Values of a list of coefficients by its parts, and after a multiple of one stretch is added to another. Assumes nothing.
use mathlib.Core.Path.{◌≡◌, refl, sym, ap, ap₂, ◌∙◌}
use mathlib.Core.List.{List, [], ◌∷◌, ◌++◌, zip_with}
use Prim.Native.Nat.{ℕ, zero, suc, ◌+◌, ◌^◌, ◌≤◌}
use native.Mathlib.Nat.{zero-add, suc-add, two-pow-succ}
use native.Mathlib.Omega.{arith}
use lib.ListN.{length, take, drop, take-append-drop}
use lib.Seq.{length-take-le}
use Rattle.lists.specs.All.{All, IsZero}
use Rattle.lists.specs.Stretch.{Apart, stretch, length_stretch, split}
use Rattle.field.specs.Binary.{◌⊕◌ as ◌⊕₀◌, product, Irreducible}
use Rattle.field.specs.Laws.{Ops, IsField, ring, ⊗_0}
use Rattle.field.specs.Products.{add_products, accumulated}
use Rattle.field.specs.Symbols.{symbols, symbols-field}
use Rattle.field.proofs.Accumulate.{length_new}
use Rattle.poly.specs.Poly.{eval, add_p, scale_p}
use Rattle.poly.proofs.Poly.{eval-add_p, eval-scale_p}
use Rattle.novel.specs.Sparse.{squared}
use Rattle.novel.specs.Convert.{raised}

module _ {K : Ops} (F : IsField K) where
  infixl 60 ◌⊕◌
  infixl 70 ◌⊗◌
  open K use {◌⊕◌, ◌⊗◌, Sym}

  distrib_step : (x u v w : ℕ) → w ≡ u ⊕ v → x ⊗ w ≡ x ⊗ u ⊕ x ⊗ v
  distrib_step x u v w e = simp (e, ring, F)

  pub raised-sum : (n x u v : ℕ) → raised K n x (u ⊕ v) ≡ raised K n x u ⊕ raised K n x v
  unfolding raised
  raised-sum zero x u v = refl
  raised-sum (suc n) x u v = distrib_step x _ _ _ (raised-sum n x u v)

  pub raised_add : (m n x v : ℕ) → raised K (m + n) x v ≡ raised K m x (raised K n x v)
  unfolding raised
  raised_add zero n x v = ap (λ (k : ℕ). raised K k x v) (zero-add n)
  raised_add (suc m) n x v = ap (λ (k : ℕ). raised K k x v) (suc-add m n) ∙ ap (λ (t : ℕ). x ⊗ t) (raised_add m n x v)

  square_step : (p v u w : ℕ) → u ≡ p ⊗ v → w ≡ p ⊗ u → w ≡ p ⊗ p ⊗ v
  square_step p v u w e h = h ∙ ap (λ (t : ℕ). p ⊗ t) e ∙ sym (F.prod_assoc p p v)

  -- x^(2^i) v
  pub raised-squared : (i x v : ℕ) → raised K (2 ^ i) x v ≡ squared K i x ⊗ v
  unfolding raised squared
  raised-squared zero x v = refl
  raised-squared (suc i) x v =
      square_step (squared K i x) v (raised K (2 ^ i) x v) (raised K (2 ^ suc i) x v) (raised-squared i x v)
      (ap (λ (k : ℕ). raised K k x v) (two-pow-succ i) ∙ raised_add (2 ^ i) (2 ^ i) x v ∙ raised-squared i x (raised K (2 ^ i) x v))

  pub squared_symbol : (x : ℕ) → Sym x → (i : ℕ) → Sym (squared K i x)
  unfolding squared
  squared_symbol x h zero = h
  squared_symbol x h (suc i) = F.sym_prod (squared_symbol x h i) (squared_symbol x h i)

  scale_step : (x c u w : ℕ) → w ≡ c ⊗ u → x ⊗ w ≡ c ⊗ (x ⊗ u)
  scale_step x c u w e = simp (e, ring, F)

  pub raised_scale : (n x c v : ℕ) → raised K n x (c ⊗ v) ≡ c ⊗ raised K n x v
  unfolding raised
  raised_scale zero x c v = refl
  raised_scale (suc n) x c v = scale_step x c _ _ (raised_scale n x c v)

  pub raised-zero : (n x : ℕ) → raised K n x 0 ≡ 0
  unfolding raised
  raised-zero zero x = refl
  raised-zero (suc n) x = ap (λ (t : ℕ). x ⊗ t) (raised-zero n x) ∙ ⊗_0 F x

  -- ---- a list in two parts

  append_step : (c x u v w : ℕ) → w ≡ u ⊕ v → c ⊕ x ⊗ w ≡ c ⊕ x ⊗ u ⊕ x ⊗ v
  append_step c x u v w e = simp (e, ring, F)

  pub eval_append : (xs ys : List ℕ) (x : ℕ) → eval K (xs ++ ys) x ≡ eval K xs x ⊕ raised K (length xs) x (eval K ys x)
  unfolding raised
  eval_append [] ys x = sym (F.zero-sum (eval K ys x))
  eval_append (c ∷ xs) ys x = append_step c x _ _ _ (eval_append xs ys x)

  pub eval-parts : (n : ℕ) (xs : List ℕ) (x : ℕ) → n ≤ length xs → eval K xs x ≡ eval K (take n xs) x ⊕ raised K n x (eval K (drop n xs) x)
  eval-parts n xs x h =
      ap (λ (l : List ℕ). eval K l x) (sym (take-append-drop n xs)) ∙ eval_append (take n xs) (drop n xs) x
      ∙ ap (λ (k : ℕ). eval K (take n xs) x ⊕ raised K k x (eval K (drop n xs) x)) (length-take-le n xs h)

  -- low + x^(2^j) high
  pub eval_halves : (j : ℕ) (xs : List ℕ) (x : ℕ) → 2 ^ j ≤ length xs → eval K xs x ≡ eval K (take (2 ^ j) xs) x ⊕ squared K j x ⊗ eval K (drop (2 ^ j) xs) x
  eval_halves j xs x h = eval-parts (2 ^ j) xs x h ∙ ap (λ (t : ℕ). eval K (take (2 ^ j) xs) x ⊕ t) (raised-squared j x (eval K (drop (2 ^ j) xs) x))

  -- and c times high
  pub one-factor : (low c p high : ℕ) → low ⊕ p ⊗ high ⊕ c ⊗ high ≡ low ⊕ (c ⊕ p) ⊗ high
  one-factor low c p high = simp (ring, F)

  -- a list with a middle part, as its parts
  three_step : (a b c w : ℕ) → w ≡ b ⊕ c → a ⊕ w ≡ a ⊕ b ⊕ c
  three_step a b c w e = simp (e, ring, F)

  changed-step : (a u v r : ℕ) → a ⊕ (u ⊕ v) ⊕ r ≡ a ⊕ u ⊕ r ⊕ v
  changed-step a u v r = simp (ring, F)

  -- a middle part that grows by a value
  pub eval_middle : (a : ℕ) (before old new after : List ℕ) (x v : ℕ) → length before ≡ a → length new ≡ length old → eval K new x ≡ eval K old x ⊕ v
      → eval K (before ++ (new ++ after)) x ≡ eval K (before ++ (old ++ after)) x ⊕ raised K a x v
  eval_middle a before old new after x v la ln e =
      three new
      ∙ ap₂ (λ (t : ℕ) (k : ℕ). eval K before x ⊕ raised K (length before) x t ⊕ raised K (length before) x (raised K k x (eval K after x))) e ln
      ∙ ap (λ (t : ℕ). eval K before x ⊕ t ⊕ raised K (length before) x (raised K (length old) x (eval K after x))) (raised-sum (length before) x (eval K old x) v)
      ∙ changed-step (eval K before x) _ _ _
      ∙ ap₂ ◌⊕◌ (sym (three old)) (ap (λ (k : ℕ). raised K k x v) la)
    where
      three : (mid : List ℕ) → eval K (before ++ (mid ++ after)) x
          ≡ eval K before x ⊕ raised K (length before) x (eval K mid x) ⊕ raised K (length before) x (raised K (length mid) x (eval K after x))
      three mid =
          eval_append before (mid ++ after) x
          ∙ three_step (eval K before x) _ _ _
          (ap (raised K (length before) x) (eval_append mid after x) ∙ raised-sum (length before) x (eval K mid x) (raised K (length mid) x (eval K after x)))

module _ (q : ℕ) (irr : Irreducible q) where
  abbrev K : Ops
  K = symbols q

  abbrev F : IsField K
  F = symbols-field q irr

  -- where the factors are c alone, the products are multiples
  pub multiples : (c : ℕ) (ts factors xs : List ℕ) → All IsZero ts → length factors ≡ length ts → length xs ≡ length ts
      → add_products q c ts factors xs ≡ add_p K xs (scale_p K c factors)
  unfolding add_products zip_with
  multiples c [] [] [] z lf lx = refl
  multiples c [] [] (x ∷ xs) z lf lx = absurd (omega arith)
  multiples c [] (y ∷ factors) xs z lf lx = absurd (omega arith)
  multiples c (t ∷ ts) [] xs z lf lx = absurd (omega arith)
  multiples c (t ∷ ts) (y ∷ factors) [] z lf lx = absurd (omega arith)
  multiples c (t ∷ ts) (y ∷ factors) (x ∷ xs) z lf lx =
      ap₂ (λ (a : ℕ) (l : List ℕ). (x ⊕₀ product q a y) ∷ l) (ap (λ (b : ℕ). b ⊕₀ c) z.0 ∙ F.zero-sum c) (multiples c ts factors xs z.1 (omega arith) (omega arith))

  module _ (c : ℕ) (ts : List ℕ) (from to : ℕ) (xs : List ℕ) (z : All IsZero ts) (apart : Apart (length ts) from to (length xs)) where
    abbrev old : List ℕ
    old = stretch (length ts) to xs

    abbrev factors : List ℕ
    factors = stretch (length ts) from xs

    same : add_products q c ts factors old ≡ add_p K old (scale_p K c factors)
    same = multiples c ts factors old z (length_stretch (length ts) from xs apart.first) (length_stretch (length ts) to xs apart.second)

    -- the value after a multiple of one stretch is added to another
    pub accumulated-eval : (x : ℕ) → eval K (accumulated q c ts from to xs) x ≡ K.◌⊕◌ (eval K xs x) (raised K to x (K.◌⊗◌ c (eval K factors x)))
    unfolding accumulated
    accumulated-eval x =
        eval_middle F to (take to xs) old (add_products q c ts factors old) (drop (to + length ts) xs) x (K.◌⊗◌ c (eval K factors x))
        (length-take-le to xs (omega (arith, apart.second)))
        (length_new q c ts from to xs apart ∙ sym (length_stretch (length ts) to xs apart.second))
        (ap (λ (l : List ℕ). eval K l x) same ∙ eval-add_p F old (scale_p K c factors) x ∙ ap (λ (v : ℕ). K.◌⊕◌ (eval K old x) v) (eval-scale_p F c factors x))
        ∙ ap (λ (l : List ℕ). K.◌⊕◌ (eval K l x) (raised K to x (K.◌⊗◌ c (eval K factors x)))) (split (length ts) to xs apart.second)
