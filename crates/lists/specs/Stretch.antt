-- A stretch of a list, and a loop that overwrites it from its front. Assumes nothing.
use Rattle.std.specs.Prelude.{◌≡◌, ◌⊎◌, ℕ, ◌+◌, ◌-◌, ◌≤◌, ◌<◌, length, set}
use Rattle.std.proofs.Common.{sym, ◌∙◌, inl, inr, drop-drop}
use Rattle.std.proofs.Math.Path.{ap}
use mathlib.Core.List.{List, ◌++◌}
use native.Mathlib.Omega.{arith}
use Rattle.std.proofs.Math.ListN.{take, drop, get_or, length-append, length-drop, take-append-drop, get_or-append}
use Rattle.std.proofs.lemmas.List.{set-append_left}
use Rattle.std.proofs.Math.Seq.{get_or-take, get_or-drop, length-take-le}
use Rattle.lists.specs.Overwrite.{mix, mix-none, mix_all, mix-at, length_mix, set-mix, set_append_at, get_or_append_at}

-- the stretches of n elements from a on and from b on lie in a list of the length, and do not meet
pub record Apart (n a b len : ℕ) : Type 0 where
  pub first : a + n ≤ len
  pub second : b + n ≤ len
  pub apart : (a + n ≤ b) ⊎ (b + n ≤ a)

-- the n elements from a on
unfoldable pub stretch : ℕ → ℕ → List ℕ → List ℕ
stretch n a xs = take n (drop a xs)

-- a stretch of a list, and what stands around it
module _ (n a : ℕ) (xs : List ℕ) (fits : a + n ≤ length xs) where
  pub length_stretch : length (stretch n a xs) ≡ n
  unfolding stretch
  length_stretch = length-take-le n (drop a xs) (omega (arith, length-drop a xs))

  pub split : take a xs ++ (stretch n a xs ++ drop (a + n) xs) ≡ xs
  unfolding stretch
  split =
      ap (λ (r : List ℕ). take a xs ++ (take n (drop a xs) ++ r)) (sym (drop-drop n a xs))
      ∙ ap (λ (r : List ℕ). take a xs ++ r) (take-append-drop n (drop a xs))
      ∙ take-append-drop a xs

pub get_or_stretch : (n a : ℕ) (xs : List ℕ) (i : ℕ) → i < n → get_or (stretch n a xs) i 0 ≡ get_or xs (a + i) 0
unfolding stretch
get_or_stretch n a xs i h = get_or-take n (drop a xs) i 0 h ∙ get_or-drop a xs i 0

-- the list after i turns, where the stretch of n elements at a becomes `new`
unfoldable pub turned : ℕ → ℕ → List ℕ → List ℕ → ℕ → List ℕ
turned n a new xs i = take a xs ++ (mix i new (stretch n a xs) ++ drop (a + n) xs)

module _ (n a : ℕ) (new xs : List ℕ) (fits : a + n ≤ length xs) (ln : length new ≡ n) where
  pub turned_none : turned n a new xs 0 ≡ xs
  unfolding turned
  turned_none = ap (λ (r : List ℕ). take a xs ++ (r ++ drop (a + n) xs)) (mix-none new (stretch n a xs)) ∙ split n a xs fits

  pub turned-all : turned n a new xs n ≡ take a xs ++ (new ++ drop (a + n) xs)
  unfolding turned
  turned-all = ap (λ (r : List ℕ). take a xs ++ (r ++ drop (a + n) xs)) (mix_all n new (stretch n a xs) ln (length_stretch n a xs fits))

  length_before : length (take a xs) ≡ a
  length_before = length-take-le a xs (omega arith)

  length_mixed : (i : ℕ) → length (mix i new (stretch n a xs)) ≡ n
  length_mixed i = length_mix i new (stretch n a xs) (ln ∙ sym (length_stretch n a xs fits)) ∙ length_stretch n a xs fits

  pub length_turned : (i : ℕ) → length (turned n a new xs i) ≡ length xs
  unfolding turned
  length_turned i =
      length-append (take a xs) (mix i new (stretch n a xs) ++ drop (a + n) xs)
      ∙ omega (arith, length_before, length-append (mix i new (stretch n a xs)) (drop (a + n) xs), length_mixed i, length-drop (a + n) xs)

  -- a place outside the stretch
  pub turned_outside : (i p : ℕ) → (p < a) ⊎ (a + n ≤ p) → get_or (turned n a new xs i) p 0 ≡ get_or xs p 0
  unfolding turned
  turned_outside i p (inl h) =
      get_or-append (take a xs) (mix i new (stretch n a xs) ++ drop (a + n) xs) 0 p (omega (arith, length_before))
      ∙ get_or-take a xs p 0 h
  turned_outside i p (inr h) =
      let back : a + n + (p - (a + n)) ≡ p = omega arith in
      get_or_append_at (take a xs) (mix i new (stretch n a xs) ++ drop (a + n) xs) (p - a) p (omega (arith, length_before))
      ∙ get_or_append_at (mix i new (stretch n a xs)) (drop (a + n) xs) (p - (a + n)) (p - a) (omega (arith, length_mixed i))
      ∙ get_or-drop (a + n) xs (p - (a + n)) 0 ∙ ap (λ (k : ℕ). get_or xs k 0) back

  module _ (i : ℕ) (h : i < n) where
    -- the place of the turn
    pub turned-here : get_or (turned n a new xs i) (a + i) 0 ≡ get_or xs (a + i) 0
    unfolding turned
    turned-here =
        get_or_append_at (take a xs) (mix i new (stretch n a xs) ++ drop (a + n) xs) i (a + i) (omega (arith, length_before))
        ∙ get_or-append (mix i new (stretch n a xs)) (drop (a + n) xs) 0 i (omega (arith, length_mixed i))
        ∙ mix-at i new (stretch n a xs) (omega arith) (omega (arith, length_stretch n a xs fits))
        ∙ get_or_stretch n a xs i h

    -- the place once the turns are done
    pub turned-new : get_or (turned n a new xs n) (a + i) 0 ≡ get_or new i 0
    turned-new =
        ap (λ (r : List ℕ). get_or r (a + i) 0) turned-all
        ∙ get_or_append_at (take a xs) (new ++ drop (a + n) xs) i (a + i) (omega (arith, length_before))
        ∙ get_or-append new (drop (a + n) xs) 0 i (omega arith)

    pub turned-next : set (turned n a new xs i) (a + i) (get_or new i 0) ≡ turned n a new xs (i + 1)
    unfolding turned
    turned-next =
        set_append_at (take a xs) (mix i new (stretch n a xs) ++ drop (a + n) xs) i (a + i) (get_or new i 0) (omega (arith, length_before))
        ∙ ap (λ (r : List ℕ). take a xs ++ r)
        (set-append_left (mix i new (stretch n a xs)) (drop (a + n) xs) i (get_or new i 0) (omega (arith, length_mixed i)))
        ∙ ap (λ (r : List ℕ). take a xs ++ (r ++ drop (a + n) xs))
        (set-mix i new (stretch n a xs) (omega arith) (omega (arith, length_stretch n a xs fits)))
