-- Laws on lists for a loop that overwrites a list from the front. Assumes nothing.
use Rattle.std.specs.Prelude.{◌≡◌, refl, ℕ, zero, suc, ◌+◌, ◌-◌, ◌*◌, ◌≤◌, ◌<◌, length, take, drop, get_or, set}
use Rattle.std.proofs.Common.{sym, ap, ◌∙◌, suc-mul, arith, add-one, length-append, length-take, length-drop, drop_of_length-le, take-append-drop, take_at, drop_at, take_all, length-take-le, get_or-take, get_or-drop}
use mathlib.Core.List.{List, [], ◌∷◌, ◌++◌, append-nil, zip_with}
use Rattle.std.proofs.lemmas.List.{take-append-le, drop-append-le}
use borrow.Rule.Slice.PartMut.{put_mid, same_len_mid}

-- the first i elements of `new`, and the rest of `old`
unfoldable pub mix : ℕ → List ℕ → List ℕ → List ℕ
mix i new old = take i new ++ drop i old

pub mix-none : (new old : List ℕ) → mix 0 new old ≡ old
unfolding mix
mix-none new old = refl

pub mix_all : (n : ℕ) (new old : List ℕ) → length new ≡ n → length old ≡ n → mix n new old ≡ new
unfolding mix
mix_all zero [] [] p q = refl
mix_all zero [] (y ∷ old) p q = absurd (omega arith)
mix_all zero (x ∷ new) old p q = absurd (omega arith)
mix_all (suc n) [] old p q = absurd (omega arith)
mix_all (suc n) (x ∷ new) [] p q = absurd (omega arith)
mix_all (suc n) (x ∷ new) (y ∷ old) p q = ap (λ (l : List ℕ). x ∷ l) (mix_all n new old (omega arith) (omega arith))

pub length_mix : (i : ℕ) (new old : List ℕ) → length new ≡ length old → length (mix i new old) ≡ length old
unfolding mix
length_mix i new old e = simp (length-append, length-take, length-drop) (omega arith)

pub mix-at : (i : ℕ) (new old : List ℕ) → i < length new → i < length old → get_or (mix i new old) i 0 ≡ get_or old i 0
unfolding mix
mix-at zero new old e h = refl
mix-at (suc i) new [] e h = absurd (omega arith)
mix-at (suc i) [] (y ∷ old) e h = absurd (omega arith)
mix-at (suc i) (x ∷ new) (y ∷ old) e h = mix-at i new old (omega arith) (omega arith)

set-mix_suc : (i : ℕ) (new old : List ℕ) → i < length new → i < length old → set (mix i new old) i (get_or new i 0) ≡ mix (suc i) new old
unfolding mix
set-mix_suc i new [] e h = absurd (omega arith)
set-mix_suc i [] (y ∷ old) e h = absurd (omega arith)
set-mix_suc zero (x ∷ new) (y ∷ old) e h = refl
set-mix_suc (suc i) (x ∷ new) (y ∷ old) e h = ap (λ (l : List ℕ). x ∷ l) (set-mix_suc i new old (omega arith) (omega arith))

pub set-mix : (i : ℕ) (new old : List ℕ) → i < length new → i < length old → set (mix i new old) i (get_or new i 0) ≡ mix (i + 1) new old
set-mix i new old e h = rw (add-one i) (set-mix_suc i new old e h)

pub mix-whole : (i : ℕ) (new old : List ℕ) → length new ≡ i → mix i new old ≡ new ++ drop i old
unfolding mix
mix-whole i new old e = rw (take_all i new (omega arith))

-- an index past the first list; it is a variable, with an equation that `omega` proves at each use
pub set_append_at : (xs ys : List ℕ) (n k a : ℕ) → k ≡ length xs + n → set (xs ++ ys) k a ≡ xs ++ set ys n a
set_append_at [] ys n k a e = let same : k ≡ n = omega arith in rw same
set_append_at (x ∷ xs) ys n zero a e = absurd (omega arith)
set_append_at (x ∷ xs) ys n (suc k) a e = ap (λ (l : List ℕ). x ∷ l) (set_append_at xs ys n k a (omega arith))

pub get_or_append_at : (xs ys : List ℕ) (n k : ℕ) → k ≡ length xs + n → get_or (xs ++ ys) k 0 ≡ get_or ys n 0
get_or_append_at [] ys n k e = let same : k ≡ n = omega arith in rw same
get_or_append_at (x ∷ xs) ys n zero e = absurd (omega arith)
get_or_append_at (x ∷ xs) ys n (suc k) e = get_or_append_at xs ys n k (omega arith)

pub drop_append_at : (xs ys : List ℕ) (n k : ℕ) → k ≡ length xs + n → drop k (xs ++ ys) ≡ drop n ys
drop_append_at [] ys n k e = let same : k ≡ n = omega arith in rw same
drop_append_at (x ∷ xs) ys n zero e = absurd (omega arith)
drop_append_at (x ∷ xs) ys n (suc k) e = drop_append_at xs ys n k (omega arith)

pub length_zip_with : (f : ℕ → ℕ → ℕ) (n : ℕ) (xs ys : List ℕ) → length xs ≡ n → length ys ≡ n → length (zip_with f xs ys) ≡ n
unfolding zip_with
length_zip_with f n [] ys p q = p
length_zip_with f n (x ∷ xs) [] p q = absurd (omega arith)
length_zip_with f zero (x ∷ xs) (y ∷ ys) p q = absurd (omega arith)
length_zip_with f (suc n) (x ∷ xs) (y ∷ ys) p q = ap suc (length_zip_with f n xs ys (omega arith) (omega arith))

pub get_or_zip_with : (f : ℕ → ℕ → ℕ) (xs ys : List ℕ) (i : ℕ) → i < length xs → i < length ys → get_or (zip_with f xs ys) i 0 ≡ f (get_or xs i 0) (get_or ys i 0)
unfolding zip_with
get_or_zip_with f [] ys i p q = absurd (omega arith)
get_or_zip_with f (x ∷ xs) [] i p q = absurd (omega arith)
get_or_zip_with f (x ∷ xs) (y ∷ ys) zero p q = refl
get_or_zip_with f (x ∷ xs) (y ∷ ys) (suc i) p q = get_or_zip_with f xs ys i (omega arith) (omega arith)

-- ---- a slice of 2n elements whose two halves are lent one after the other

module _ (n : ℕ) (xs first : List ℕ) (lf : length first ≡ n) (lx : length xs ≡ n + n) where
  pub length_lent : length (first ++ drop n xs) ≡ n + n
  length_lent = simp (length-append, length-drop) (omega arith)

  -- what the second call is lent
  pub second-lent : take (length (first ++ drop n xs) - n) (drop n (first ++ drop n xs)) ≡ drop n xs
  second-lent =
      rw (drop_at first (drop n xs) n lf)
      (take_all (length (first ++ drop n xs) - n) (drop n xs) (simp (length-append, length-drop) (omega arith)))

  -- the slice once both have come back
  pub both-back : (second : List ℕ) → put_mid n (length (first ++ drop n xs) - n) (first ++ drop n xs) second ≡ first ++ second
  both-back second =
      let rest : drop (length (first ++ drop n xs) - n) (drop n (first ++ drop n xs)) ≡ [] =
      drop_of_length-le (drop n (first ++ drop n xs)) {i = length (first ++ drop n xs) - n} (simp (length-drop, length-append) (omega arith)) in
      rw (take_at first (drop n xs) n lf, rest, append-nil second)

-- ---- a middle part that is lent, written and given back

pub mul_next : (r p : ℕ) → (r + 1) * p ≡ r * p + p
mul_next r p = rw (add-one r, suc-mul r p)

pub length-put : (a k : ℕ) (xs ys : List ℕ) → a + k ≤ length xs → length ys ≡ k → length (put_mid a k xs ys) ≡ length xs
length-put a k xs ys h e = same_len_mid a k xs ys (e ∙ sym (length-take-le k (drop a xs) (omega (arith, length-drop a xs))))

-- the same for a part from a to a + k, as the code cuts it
pub length_cut : (a k : ℕ) (xs : List ℕ) → a + k ≤ length xs → length (take (a + k - a) (drop a xs)) ≡ k
length_cut a k xs h = simp (length-take, length-drop) (omega arith)

pub get_or_cut : (a k : ℕ) (xs : List ℕ) (i : ℕ) → i < k → get_or (take (a + k - a) (drop a xs)) i 0 ≡ get_or xs (a + i) 0
get_or_cut a k xs i h = get_or-take (a + k - a) (drop a xs) i 0 (omega arith) ∙ get_or-drop a xs i 0

-- a copy over a whole list
pub copy-whole : (new old : List ℕ) → length new ≡ length old → new ++ drop (length new) old ≡ new
copy-whole new old e = rw (drop_of_length-le old {i = length new} (omega arith), append-nil new)

-- what stands before the part, and the part
pub put-before : (a n c m : ℕ) (xs ys : List ℕ) → a + n ≤ c → c ≤ length xs → take n (drop a (put_mid c m xs ys)) ≡ take n (drop a xs)
put-before a n c m xs ys h l = front (ys ++ drop m (drop c xs)) ∙ sym (ap (λ (t : List ℕ). take n (drop a t)) (sym (take-append-drop c xs)) ∙ front (drop c xs))
  where
    long : length (take c xs) ≡ c
    long = length-take-le c xs l

    front : (rest : List ℕ) → take n (drop a (take c xs ++ rest)) ≡ take n (drop a (take c xs))
    front rest =
        ap (take n) (drop-append-le a (take c xs) rest (omega (arith, long)))
        ∙ take-append-le n (drop a (take c xs)) rest (omega (arith, long, length-drop a (take c xs)))

pub put-here : (c m : ℕ) (xs ys : List ℕ) → c ≤ length xs → length ys ≡ m → take m (drop c (put_mid c m xs ys)) ≡ ys
put-here c m xs ys h e =
    ap (take m) (drop_at (take c xs) (ys ++ drop m (drop c xs)) c (length-take-le c xs h)) ∙ take_at ys (drop m (drop c xs)) m e
