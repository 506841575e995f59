-- Numbers one after the other, one byte each or two, and back. Assumes nothing.
use Rattle.std.specs.Prelude.{◌≡◌, refl, Bool, true, false, List, [], ◌∷◌, ◌++◌, ℕ, zero, suc, ◌+◌, ◌*◌, ◌^◌, ◌≤◌, ◌<◌, ltb, length, get_or, take, drop}
use Rattle.std.proofs.Common.{sym, ap, ap₂, ◌∙◌, subst, arith, lt-ltb, le-ltb, length-append, length-drop, pow_mono, get_or-take, get_or-drop, take_at, length-take-le}
use Rattle.std.proofs.Math.Decide.{dec_lt}
use Rattle.std.proofs.Math.ListN.{get_or-append}
use Rattle.lists.specs.All.{Below, All-append, All-drop}
use Rattle.lists.specs.Tables.{tab, length_tab, get_or_tab, tab_ext, tab_of}
use Rattle.stored.specs.ByteLaws.{two_back, two_bytes_lem, get_d_after, two-after, two-below}
use Rattle.stored.specs.Bytes.{two_bytes, pairs, packed, packed_size, two_at, number_at, numbers_at}
use Rattle.stored.specs.File.{narrow_of}
use Rattle.stored.specs.declared.Form.{Form}
use Rattle.stored.specs.declared.Form.TheVariants.{One, Two}

-- what a number of one byte (true) or of two is below
abbrev pub number_top : Bool → ℕ
number_top true = 256
number_top false = 65536

-- symbols below 2^l fit in the bytes that the form gives them
pub narrow_top : (form : Form) (l : ℕ) → l ≤ 16 → 2 ^ l ≤ number_top (narrow_of form l)
narrow_top One l h = pow_mono {i = l} {j = 16} h
narrow_top Two l h = by (dec_lt l 9)
  where
    by : Dec (l < 9) → 2 ^ l ≤ number_top (ltb l 9)
    by (yes g) = subst (λ (t : Bool). 2 ^ l ≤ number_top t) (sym (lt-ltb l 9 g)) (pow_mono {i = l} {j = 8} (omega arith))
    by (no g) = subst (λ (t : Bool). 2 ^ l ≤ number_top t) (sym (le-ltb l 9 (omega arith))) (pow_mono {i = l} {j = 16} h)

-- ---- sizes

length_pairs : (xs : List ℕ) → length (pairs xs) ≡ 2 * length xs
length_pairs [] = refl
length_pairs (x ∷ xs) = omega (arith, length_pairs xs)

pub length_packed : (t : Bool) (xs : List ℕ) → length (packed t xs) ≡ packed_size t (length xs)
length_packed true xs = refl
length_packed false xs = length_pairs xs

-- by a width that is known
pub size_narrow : (t : Bool) (n : ℕ) → t ≡ true → packed_size t n ≡ n
size_narrow t n e = ap (λ (u : Bool). packed_size u n) e

pub size-wide : (t : Bool) (n : ℕ) → t ≡ false → packed_size t n ≡ 2 * n
size-wide t n e = ap (λ (u : Bool). packed_size u n) e

pub size-more : (t : Bool) {i n : ℕ} → i < n → packed_size t (i + 1) ≤ packed_size t n
size-more true h = omega arith
size-more false h = omega arith

pub size-most : (t : Bool) (n : ℕ) → n ≤ packed_size t n
size-most true n = omega arith
size-most false n = omega arith

pub size_double : (t : Bool) (n : ℕ) → packed_size t n ≤ 2 * n
size_double true n = omega arith
size_double false n = omega arith

pub length_numbers : (t : Bool) (f : List ℕ) (p n : ℕ) → length (numbers_at t f p n) ≡ n
length_numbers t f p n = length_tab n (λ i. number_at t f p i)

pub get_or_numbers : (t : Bool) (f : List ℕ) (p n i : ℕ) → i < n → get_or (numbers_at t f p n) i 0 ≡ number_at t f p i
get_or_numbers t f p n i h = get_or_tab n (λ i. number_at t f p i) i 0 h

-- the numbers that were read into the first n places of a list
module _ (t : Bool) (f : List ℕ) (at n : ℕ) (old new : List ℕ) (h : n ≤ length old) (e : new ≡ numbers_at t f at (length (take n old))) where
  part : length (take n old) ≡ n
  part = length-take-le n old h

  long : length new ≡ n
  long = ap length e ∙ length_numbers t f at (length (take n old)) ∙ part

  pub front_length : length (new ++ drop n old) ≡ length old
  front_length = length-append new (drop n old) ∙ omega (arith, long, length-drop n old)

  pub front-numbers : {m : ℕ} → n ≡ m → take m (new ++ drop n old) ≡ numbers_at t f at m
  front-numbers {m} g = take_at new (drop n old) m (long ∙ g) ∙ e ∙ ap (numbers_at t f at) (part ∙ g)

-- ---- what is written is read

-- past a list in front
number-after : (t : Bool) (xs ys : List ℕ) (p q i : ℕ) → q ≡ length xs + p → number_at t (xs ++ ys) q i ≡ number_at t ys p i
number-after true xs ys p q i e = get_d_after xs ys (p + i) (q + i) (omega arith)
number-after false xs ys p q i e = two-after xs ys (p + 2 * i) (q + 2 * i) (omega arith)

pub numbers_after : (t : Bool) (xs ys : List ℕ) (p q n : ℕ) → q ≡ length xs + p → numbers_at t (xs ++ ys) q n ≡ numbers_at t ys p n
numbers_after t xs ys p q n e = tab_ext n (λ i. number_at t (xs ++ ys) q i) (λ i. number_at t ys p i) (λ i h. number-after t xs ys p q i e)

-- the numbers at the front
pair_at : (xs ys : List ℕ) → Below 65536 xs → (i : ℕ) → i < length xs → two_at (pairs xs ++ ys) (2 * i) ≡ get_or xs i 0
unfolding two_at
pair_at [] ys b i h = absurd (omega arith)
pair_at (x ∷ xs) ys b zero h = two_back x b.0
pair_at (x ∷ xs) ys b (suc i) h =
    two-after (two_bytes x) (pairs xs ++ ys) (2 * i) (2 * suc i) (omega arith) ∙ pair_at xs ys b.1 i (omega arith)

number-front : (t : Bool) (xs ys : List ℕ) → Below (number_top t) xs → (i : ℕ) → i < length xs → number_at t (packed t xs ++ ys) 0 i ≡ get_or xs i 0
number-front true xs ys b i h = ap (λ (j : ℕ). get_or (xs ++ ys) j 0) {x = 0 + i} {y = i} (omega arith) ∙ get_or-append xs ys 0 i h
number-front false xs ys b i h = ap (two_at (pairs xs ++ ys)) {x = 0 + 2 * i} {y = 2 * i} (omega arith) ∙ pair_at xs ys b i h

pub numbers-front : (t : Bool) (xs ys : List ℕ) → Below (number_top t) xs → numbers_at t (packed t xs ++ ys) 0 (length xs) ≡ xs
numbers-front t xs ys b =
    tab_ext (length xs) (λ i. number_at t (packed t xs ++ ys) 0 i) (λ i. get_or xs i 0) (number-front t xs ys b) ∙ sym (tab_of (length xs) xs 0 refl)

-- ---- what is read is written

pairs-front : (n : ℕ) (l : List ℕ) → 2 * n ≤ length l → Below 256 l → take (2 * n) l ≡ pairs (numbers_at false l 0 n)
unfolding two_at
pairs-front zero l h b = refl
pairs-front (suc n) [] h b = absurd (omega arith)
pairs-front (suc n) (x ∷ []) h b = absurd (omega arith)
pairs-front (suc n) (x ∷ y ∷ l) h b =
    ap (λ (t : ℕ). take t (x ∷ y ∷ l)) {x = 2 * suc n} {y = suc (suc (2 * n))} (omega arith)
    ∙ ap₂ ◌++◌ (sym (two_bytes_lem x y b.0 b.1.0))
    (pairs-front n l (omega arith) b.1.1 ∙ ap pairs (sym (numbers_after false (x ∷ y ∷ []) l 0 2 n refl) ∙ later))
  where
    later : numbers_at false (x ∷ y ∷ l) 2 n ≡ tab n (λ i. two_at (x ∷ y ∷ l) (0 + 2 * suc i))
    later = tab_ext n (λ i. two_at (x ∷ y ∷ l) (2 + 2 * i)) (λ i. two_at (x ∷ y ∷ l) (0 + 2 * suc i)) (λ i h. ap (two_at (x ∷ y ∷ l)) {x = 2 + 2 * i} {y = 0 + 2 * suc i} (omega arith))

pairs_drop : (f : List ℕ) (p n : ℕ) → numbers_at false (drop p f) 0 n ≡ numbers_at false f p n
unfolding two_at
pairs_drop f p n =
    tab_ext n (λ i. get_or (drop p f) (0 + 2 * i) 0 + 256 * get_or (drop p f) (0 + 2 * i + 1) 0) (λ i. get_or f (p + 2 * i) 0 + 256 * get_or f (p + 2 * i + 1) 0)
    (λ i h. ap₂ (λ (a b : ℕ). a + 256 * b) (at (0 + 2 * i) (p + 2 * i) (omega arith)) (at (0 + 2 * i + 1) (p + 2 * i + 1) (omega arith)))
  where
    at : (i j : ℕ) → j ≡ p + i → get_or (drop p f) i 0 ≡ get_or f j 0
    at i j e = get_or-drop p f i 0 ∙ ap (λ (t : ℕ). get_or f t 0) (sym e)

pub packed-read : (t : Bool) (f : List ℕ) (p n : ℕ) → p + packed_size t n ≤ length f → Below 256 f → take (packed_size t n) (drop p f) ≡ packed t (numbers_at t f p n)
packed-read true f p n h b =
    tab_of n (take n (drop p f)) 0 (length-take-le n (drop p f) (omega (arith, length-drop p f)))
    ∙ tab_ext n (λ i. get_or (take n (drop p f)) i 0) (λ i. get_or f (p + i) 0) (λ i l. get_or-take n (drop p f) i 0 l ∙ get_or-drop p f i 0)
packed-read false f p n h b =
    pairs-front n (drop p f) (omega (arith, length-drop p f)) (All-drop (λ (x : ℕ). x < 256) p f b) ∙ ap pairs (pairs_drop f p n)

-- ---- what is written are bytes

pairs_below : (xs : List ℕ) → Below 256 (pairs xs)
pairs_below [] = tt
pairs_below (x ∷ xs) = All-append (λ (y : ℕ). y < 256) (two_bytes x) (pairs xs) (two-below x) (pairs_below xs)

pub packed-below : (t : Bool) (xs : List ℕ) → Below (number_top t) xs → Below 256 (packed t xs)
packed-below true xs b = b
packed-below false xs b = pairs_below xs
