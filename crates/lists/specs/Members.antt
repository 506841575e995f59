-- Entries of a list: which are among it, tables and images of it, and lists without repeats. Assumes nothing.
use Rattle.std.specs.Prelude.{◌≡◌, refl, ◌⊎◌, ℕ, zero, suc, ◌<◌, length, get_or}
use Rattle.std.proofs.Common.{sym, ap, ap₂, ◌∙◌, subst, inl, inr, arith}
use mathlib.Core.List.Memᴰ
use mathlib.Core.List.{List, [], ◌∷◌, map, Memᴰ}
use Rattle.std.proofs.lemmas.List.{length-map}
use Rattle.lists.specs.All.{All}
use Rattle.lists.specs.Tables.{tab, length_tab, get_or_tab}

module _ {A : Type 0} where
  -- x is an entry of the list
  abbrev pub Among : A → List A → Type 0
  Among x xs = Memᴰ x xs

  -- Entries at different places differ
  abbrev pub NoRepeat : List A → Type 0
  NoRepeat xs = (i j : ℕ) (d : A) → i < length xs → j < length xs → get_or xs i d ≡ get_or xs j d → i ≡ j

  pub among_tab : (n : ℕ) (f : ℕ → A) (i : ℕ) → i < n → Among (f i) (tab n f)
  among_tab zero f i h = absurd (omega arith)
  among_tab (suc n) f zero h = Memᴰ.head refl
  among_tab (suc n) f (suc i) h = Memᴰ.tail (among_tab n (λ j. f (suc j)) i (omega arith))

  pub of_among_tab : (n : ℕ) (f : ℕ → A) {x : A} → Among x (tab n f) → (i : ℕ) × (i < n) × (x ≡ f i)
  of_among_tab zero f m = absurd (Memᴰ.not-nil m)
  of_among_tab (suc n) f {x} m = by (Memᴰ.cases_cons m) (of_among_tab n (λ j. f (suc j)) {x = x})
    where
      by : (x ≡ f zero) ⊎ Among x (tab n (λ j. f (suc j))) → (Among x (tab n (λ j. f (suc j))) → (i : ℕ) × (i < n) × (x ≡ f (suc i))) → (i : ℕ) × (i < suc n) × (x ≡ f i)
      by (inl e) ih = (0, omega arith, e)
      by (inr t) ih = let (i, h, e) = ih t in (suc i, omega arith, e)

  pub among_at : (xs : List A) (i : ℕ) (d : A) → i < length xs → Among (get_or xs i d) xs
  among_at [] i d h = absurd (omega arith)
  among_at (x ∷ xs) zero d h = Memᴰ.head refl
  among_at (x ∷ xs) (suc i) d h = Memᴰ.tail (among_at xs i d (omega arith))

  module _ {B : Type 0} where
    pub map_tab : (f : A → B) (n : ℕ) (g : ℕ → A) → map f (tab n g) ≡ tab n (λ i. f (g i))
    map_tab f zero g = refl
    map_tab f (suc n) g = ap (λ (t : List B). f (g zero) ∷ t) (map_tab f n (λ i. g (suc i)))

    pub get_or_map_in : (f : A → B) (xs : List A) (i : ℕ) (d : A) (e : B) → i < length xs → get_or (map f xs) i e ≡ f (get_or xs i d)
    get_or_map_in f [] i d e h = absurd (omega arith)
    get_or_map_in f (x ∷ xs) zero d e h = refl
    get_or_map_in f (x ∷ xs) (suc i) d e h = get_or_map_in f xs i d e (omega arith)

    -- A map after another, where it agrees with a third on the entries
    pub map_through : {C : Type 0} (f : A → C) (g : B → C) (t : A → B) (xs : List A) → ((x : A) → Among x xs → f x ≡ g (t x)) → map f xs ≡ map g (map t xs)
    map_through f g t [] h = refl
    map_through f g t (x ∷ xs) h = ap₂ ◌∷◌ (h x (Memᴰ.head refl)) (map_through f g t xs (λ y m. h y (Memᴰ.tail m)))

pub no_repeat_tab : {A : Type 0} (n : ℕ) (f : ℕ → A) → ((i j : ℕ) → i < n → j < n → f i ≡ f j → i ≡ j) → NoRepeat (tab n f)
no_repeat_tab n f inj i j d hi hj e =
    let hi' : i < n = omega (arith, length_tab n f) in
    let hj' : j < n = omega (arith, length_tab n f) in
    inj i j hi' hj' (sym (get_or_tab n f i d hi') ∙ e ∙ get_or_tab n f j d hj')

-- A map that is injective on the entries
pub no_repeat_map : {A B : Type 0} (f : A → B) (xs : List A) → ((x y : A) → Among x xs → Among y xs → f x ≡ f y → x ≡ y) → NoRepeat xs → NoRepeat (map f xs)
no_repeat_map f [] inj n i j d hi hj e = absurd (omega arith)
no_repeat_map f (x ∷ xs) inj n i j d hi hj e =
    let hi' : i < length (x ∷ xs) = omega (arith, length-map (x ∷ xs) f) in
    let hj' : j < length (x ∷ xs) = omega (arith, length-map (x ∷ xs) f) in
    n i j x hi' hj'
    (inj (get_or (x ∷ xs) i x) (get_or (x ∷ xs) j x) (among_at (x ∷ xs) i x hi') (among_at (x ∷ xs) j x hj')
    (sym (get_or_map_in f (x ∷ xs) i x d hi') ∙ e ∙ get_or_map_in f (x ∷ xs) j x d hj'))

-- What holds of each image holds of the image of an entry
pub All-image : {A : Type 0} (P : ℕ → Type 0) (f : A → ℕ) (xs : List A) (x : A) → All P (map f xs) → Among x xs → P (f x)
All-image P f [] x h m = absurd (Memᴰ.not-nil m)
All-image {A} P f (y ∷ xs) x h m = by (Memᴰ.cases_cons m) (All-image P f xs x h.1)
  where
    by : (x ≡ y) ⊎ Among x xs → (Among x xs → P (f x)) → P (f x)
    by (inl e) ih = subst (λ (z : A). P (f z)) (sym e) h.0
    by (inr t) ih = ih t
