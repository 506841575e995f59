-- What holds of every entry of a list. Assumes nothing.
use Rattle.std.specs.Prelude.{◌≡◌, refl, ℕ, zero, suc, ◌+◌, ◌-◌, ◌≤◌, ◌<◌, length, get_or, replicate, take, drop}
use Rattle.std.proofs.Common.{sym, ap, ◌∙◌, subst, zero-add, suc-add, arith, take-append-drop, drop-drop}
use Rattle.std.proofs.Math.Path.{subst⁻¹}
use mathlib.Core.List.{List, [], ◌∷◌, ◌++◌, map, zip_with}
use Rattle.std.proofs.Math.Decide.{dec_lt}
use Rattle.std.proofs.Math.Seq.{take-nil}

-- P holds of each entry
abbrev pub All : (ℕ → Type 0) → List ℕ → Type 0
All P [] = Unit {0}
All P (x ∷ xs) = P x × All P xs

-- each entry is below n
abbrev pub Below : ℕ → List ℕ → Type 0
Below n xs = All (λ x. x < n) xs

abbrev pub IsZero : ℕ → Type 0
IsZero x = x ≡ 0

module _ (P : ℕ → Type 0) where
  pub All-append : (xs ys : List ℕ) → All P xs → All P ys → All P (xs ++ ys)
  All-append [] ys hx hy = hy
  All-append (x ∷ xs) ys hx hy = (hx.0, All-append xs ys hx.1 hy)

  pub All-take : (n : ℕ) (xs : List ℕ) → All P xs → All P (take n xs)
  All-take zero xs h = tt
  All-take (suc n) [] h = tt
  All-take (suc n) (x ∷ xs) h = (h.0, All-take n xs h.1)

  pub All-drop : (n : ℕ) (xs : List ℕ) → All P xs → All P (drop n xs)
  All-drop zero xs h = h
  All-drop (suc n) [] h = tt
  All-drop (suc n) (x ∷ xs) h = All-drop n xs h.1

  pub All-replicate : (n : ℕ) (x : ℕ) → P x → All P (replicate n x)
  All-replicate zero x h = tt
  All-replicate (suc n) x h = (h, All-replicate n x h)

  -- what holds of both parts holds of the whole
  pub All-parts : (n : ℕ) (xs : List ℕ) → All P (take n xs) → All P (drop n xs) → All P xs
  All-parts n xs ht hd = rw (take-append-drop n xs) at (All-append (take n xs) (drop n xs) ht hd)

  -- an entry, and past the end the default
  pub All-at : (xs : List ℕ) (d : ℕ) → All P xs → P d → (i : ℕ) → P (get_or xs i d)
  All-at [] d h z i = z
  All-at (x ∷ xs) d h z zero = h.0
  All-at (x ∷ xs) d h z (suc i) = All-at xs d h.1 z i

  -- an entry that is there
  pub All-inside : (xs : List ℕ) (d : ℕ) → All P xs → (i : ℕ) → i < length xs → P (get_or xs i d)
  All-inside [] d h i l = absurd (omega arith)
  All-inside (x ∷ xs) d h zero l = h.0
  All-inside (x ∷ xs) d h (suc i) l = All-inside xs d h.1 i (omega arith)

  pub All-of : (xs : List ℕ) (d : ℕ) → ((i : ℕ) → i < length xs → P (get_or xs i d)) → All P xs
  All-of [] d h = tt
  All-of (x ∷ xs) d h = (h 0 (omega arith), All-of xs d (λ i l. h (suc i) (omega arith)))

  pub All-zip_with : (f : ℕ → ℕ → ℕ) → ((x y : ℕ) → P x → P y → P (f x y)) → (xs ys : List ℕ) → All P xs → All P ys → All P (zip_with f xs ys)
  unfolding zip_with
  All-zip_with f k [] ys hx hy = tt
  All-zip_with f k (x ∷ xs) [] hx hy = tt
  All-zip_with f k (x ∷ xs) (y ∷ ys) hx hy = (k x y hx.0 hy.0, All-zip_with f k xs ys hx.1 hy.1)

  pub All-weaken : (Q : ℕ → Type 0) (xs : List ℕ) → ((x : ℕ) → P x → Q x) → All P xs → All Q xs
  All-weaken Q [] k h = tt
  All-weaken Q (x ∷ xs) k h = (k x h.0, All-weaken Q xs k h.1)

  pub All-map : (Q : ℕ → Type 0) (f : ℕ → ℕ) (xs : List ℕ) → ((x : ℕ) → P x → Q (f x)) → All P xs → All Q (map f xs)
  All-map Q f [] k h = tt
  All-map Q f (x ∷ xs) k h = (k x h.0, All-map Q f xs k h.1)

pub drop-take : (a b : ℕ) (xs : List ℕ) → drop a (take (a + b) xs) ≡ take b (drop a xs)
drop-take zero b xs = ap (λ (k : ℕ). take k xs) (zero-add b)
drop-take (suc a) b [] = ap (λ (k : ℕ). drop (suc a) (take k [])) (suc-add a b) ∙ sym (take-nil b)
drop-take (suc a) b (x ∷ xs) = ap (λ (k : ℕ). drop (suc a) (take k (x ∷ xs))) (suc-add a b) ∙ drop-take a b xs

-- what holds from one place on holds from a later one on
pub All-drop_le : (P : ℕ → Type 0) (a b : ℕ) (xs : List ℕ) → a ≤ b → All P (drop a xs) → All P (drop b xs)
All-drop_le P a b xs h z =
    subst (λ (k : ℕ). All P (drop k xs)) {x = a + (b - a)} {y = b} (omega arith)
    (subst (All P) (drop-drop (b - a) a xs) (All-drop P (b - a) (drop a xs) z))

pub All-drop_take : (P : ℕ → Type 0) (a b : ℕ) (xs : List ℕ) → a ≤ b → All P (drop a xs) → All P (drop a (take b xs))
All-drop_take P a b xs h z =
    subst (λ (k : ℕ). All P (drop a (take k xs))) {x = a + (b - a)} {y = b} (omega arith)
    (subst⁻¹ (All P) (drop-take a (b - a) xs) (All-take P (b - a) (drop a xs) z))

-- a bound on every entry is decided entry by entry, so it holds where it cannot fail
pub below_stable : (n : ℕ) (xs : List ℕ) → ((Below n xs → ⊥) → ⊥) → Below n xs
below_stable n [] f = tt
below_stable n (x ∷ xs) f = (by (dec_lt x n), below_stable n xs (λ g. f (λ h. g h.1)))
  where
    by : Dec (x < n) → x < n
    by (yes h) = h
    by (no k) = absurd (f (λ h. k h.0))

pub zeros-below : (n : ℕ) (xs : List ℕ) → 0 < n → All IsZero xs → Below n xs
zeros-below n xs h z = All-weaken IsZero (λ x. x < n) xs (λ x e. subst (λ (y : ℕ). y < n) (sym e) h) z

-- every entry of zeros, and past the end the default
pub zeros-at : (n p : ℕ) → get_or (replicate {A = ℕ} n 0) p 0 ≡ 0
zeros-at zero p = refl
zeros-at (suc n) zero = refl
zeros-at (suc n) (suc p) = zeros-at n p
