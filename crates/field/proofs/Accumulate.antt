-- What `accumulated` holds at each place, and its bounds. Assumes nothing.
use mathlib.Core.Path.{◌≡◌, refl, sym, ap, ◌∙◌}
use mathlib.Core.Logic.{◌⊎◌, inl, inr, ⊎_elim}
use mathlib.Core.List.{List, zip_with}
use Prim.Native.Nat.{ℕ, ◌+◌, ◌-◌, ◌≤◌, ◌<◌, ◌^◌}
use native.Mathlib.Nat.{eq-zero-or-pos}
use native.Mathlib.Omega.{arith}
use lib.ListN.{length, get_or}
use lib.Pow.{pow_pos}
use Rattle.lists.specs.All.{Below, All-at, All-of}
use Rattle.lists.specs.Overwrite.{length_zip_with, get_or_zip_with}
use Rattle.lists.specs.Stretch.{Apart, stretch, length_stretch, get_or_stretch, turned, turned-all, turned_outside, turned-new, length_turned}
use Rattle.field.specs.Binary.{◌⊕◌, degree, product}
use Rattle.field.specs.Xor.{xor_below}
use Rattle.field.specs.Product.{product-below}
use Rattle.field.specs.Products.{add_products, accumulated}

-- ---- the products

module _ (m c : ℕ) (ts : List ℕ) (from to : ℕ) (xs : List ℕ) (apart : Apart (length ts) from to (length xs)) where
  -- the new stretch
  abbrev new : List ℕ
  new = add_products m c ts (stretch (length ts) from xs) (stretch (length ts) to xs)

  factors : List ℕ
  factors = zip_with (λ (t x : ℕ). product m (t ⊕ c) x) ts (stretch (length ts) from xs)

  length_factors : length factors ≡ length ts
  unfolding factors
  length_factors = length_zip_with (λ (t x : ℕ). product m (t ⊕ c) x) (length ts) ts (stretch (length ts) from xs) refl (length_stretch (length ts) from xs apart.first)

  pub length_new : length new ≡ length ts
  unfolding add_products factors
  length_new = length_zip_with ◌⊕◌ (length ts) (stretch (length ts) to xs) factors (length_stretch (length ts) to xs apart.second) length_factors

  pub new-at : (i : ℕ) → i < length ts → get_or new i 0 ≡ get_or xs (to + i) 0 ⊕ (product m (get_or ts i 0 ⊕ c) (get_or xs (from + i) 0))
  unfolding add_products factors
  new-at i h =
      get_or_zip_with ◌⊕◌ (stretch (length ts) to xs) factors i (omega (arith, length_stretch (length ts) to xs apart.second)) (omega (arith, length_factors))
      ∙ ap (λ (v : ℕ). v ⊕ get_or factors i 0) (get_or_stretch (length ts) to xs i h)
      ∙ ap (λ (v : ℕ). get_or xs (to + i) 0 ⊕ v)
      (get_or_zip_with (λ (t x : ℕ). product m (t ⊕ c) x) ts (stretch (length ts) from xs) i h (omega (arith, length_stretch (length ts) from xs apart.first))
      ∙ ap (λ (v : ℕ). product m (get_or ts i 0 ⊕ c) v) (get_or_stretch (length ts) from xs i h))

  -- the factor of a turn lies outside the stretch that is overwritten
  pub outside : (i : ℕ) → i < length ts → (from + i < to) ⊎ (to + length ts ≤ from + i)
  outside i h = cases apart.apart
    where
      cases : (from + length ts ≤ to) ⊎ (to + length ts ≤ from) → (from + i < to) ⊎ (to + length ts ≤ from + i)
      cases (inl p) = inl (omega arith)
      cases (inr p) = inr (omega arith)

pub lt-or-ge : (p q : ℕ) → (p < q) ⊎ (q ≤ p)
lt-or-ge p q = ⊎_elim (λ h. inr (omega arith)) (λ h. inl (omega arith)) (eq-zero-or-pos (q - p))

module _ (m c : ℕ) (ts : List ℕ) (from to : ℕ) (xs : List ℕ) (apart : Apart (length ts) from to (length xs)) where
  abbrev changed : List ℕ
  changed = add_products m c ts (stretch (length ts) from xs) (stretch (length ts) to xs)

  len : length changed ≡ length ts
  len = length_new m c ts from to xs apart

  as_turned : accumulated m c ts from to xs ≡ turned (length ts) to changed xs (length ts)
  unfolding accumulated
  as_turned = sym (turned-all (length ts) to changed xs apart.second len)

  pub length_accumulated : length (accumulated m c ts from to xs) ≡ length xs
  length_accumulated = ap length as_turned ∙ length_turned (length ts) to changed xs apart.second len (length ts)

  pub accumulated_outside : (p : ℕ) → (p < to) ⊎ (to + length ts ≤ p) → get_or (accumulated m c ts from to xs) p 0 ≡ get_or xs p 0
  accumulated_outside p h =
      ap (λ (v : List ℕ). get_or v p 0) as_turned ∙ turned_outside (length ts) to changed xs apart.second len (length ts) p h

  pub accumulated-at : (i p q : ℕ) → i < length ts → p ≡ to + i → q ≡ from + i
      → get_or (accumulated m c ts from to xs) p 0 ≡ get_or xs p 0 ⊕ (product m (get_or ts i 0 ⊕ c) (get_or xs q 0))
  accumulated-at i p q h ep eq =
      rw (ep, eq)
      (ap (λ (v : List ℕ). get_or v (to + i) 0) as_turned
      ∙ turned-new (length ts) to changed xs apart.second len i h
      ∙ new-at m c ts from to xs apart i h)

-- ---- bounds

module _ (m c : ℕ) (pos : 0 < m) (ts : List ℕ) (from to : ℕ) (xs : List ℕ) (apart : Apart (length ts) from to (length xs)) (below : Below (2 ^ degree m) xs) where
  pub accumulated-below : Below (2 ^ degree m) (accumulated m c ts from to xs)
  accumulated-below = All-of (λ x. x < 2 ^ degree m) (accumulated m c ts from to xs) 0 (λ p h. at p (lt-or-ge p to))
    where
      old : (p : ℕ) → get_or xs p 0 < 2 ^ degree m
      old = All-at (λ x. x < 2 ^ degree m) xs 0 below (pow_pos (degree m))

      inside : (p : ℕ) → to ≤ p → (p < to + length ts) ⊎ (to + length ts ≤ p) → get_or (accumulated m c ts from to xs) p 0 < 2 ^ degree m
      inside p h (inl g) =
          let q : ℕ = from + (p - to) in
          let t : ℕ = get_or ts (p - to) 0 ⊕ c in
          rw (accumulated-at m c ts from to xs apart (p - to) p q (omega arith) (omega arith) refl)
          (xor_below (degree m) (old p) (product-below m pos t (get_or xs q 0)))
      inside p h (inr g) = rw (accumulated_outside m c ts from to xs apart p (inr g)) (old p)

      at : (p : ℕ) → (p < to) ⊎ (to ≤ p) → get_or (accumulated m c ts from to xs) p 0 < 2 ^ degree m
      at p (inl h) = rw (accumulated_outside m c ts from to xs apart p (inl h)) (old p)
      at p (inr h) = inside p h (lt-or-ge p (to + length ts))
