-- Lists of one length that stand one after the other, by lanes: lane r has number r of each list. Assumes nothing.
use Rattle.std.specs.Prelude.{◌≡◌, refl, List, ◌++◌, ℕ, ◌+◌, ◌-◌, ◌*◌, ◌/◌, ◌%◌, ◌≤◌, ◌<◌, length, set, take, drop}
use Rattle.std.proofs.Common.{sym, ap, ap₂, ◌∙◌, subst, mod-eq_of_lt, mod-lt, div-add-mod', div-lt_iff_lt-mul, add-mul, mul-zero, arith, length-set, length-append, take-append-drop, ext_get_or, get_or-set_same, get_or-set_other, get_or-take, length-take-le}
use Rattle.std.proofs.Math.Decide.{dec_lt}
use Rattle.std.proofs.Math.Nat.{mul-add-mod_self_right}
use Rattle.std.proofs.Math.ListN.{get_or, get_or-append}
use Rattle.lists.specs.All.{All, All-of, All-inside, All-at}
use Rattle.lists.specs.Overwrite.{get_or_append_at}
use Rattle.lists.specs.Tables.{All-tab, tab, length_tab, get_or_tab, tab_ext, part-fits}

-- number r of each of n lists of `count` numbers
unfoldable pub lane : ℕ → ℕ → ℕ → List ℕ → List ℕ
lane count r n xs = tab n (λ o. get_or xs (o * count + r) 0)

-- the list is `old` with f 0, f 1, .. in the first n places of lane r
pub record Strided (count r n : ℕ) (f : ℕ → ℕ) (old new : List ℕ) : Type 0 where
  pub kept : length new ≡ length old
  pub inside : (o : ℕ) → o < n → get_or new (o * count + r) 0 ≡ f o
  pub outside : (p : ℕ) → ((o : ℕ) → o < n → p ≡ o * count + r → ⊥) → get_or new p 0 ≡ get_or old p 0

-- ---- places

-- a place is in one lane
pub same-lane : (count o q : ℕ) {r s : ℕ} → r < count → s < count → o * count + r ≡ q * count + s → r ≡ s
same-lane count o q {r} {s} hr hs e =
    sym (mul-add-mod_self_right o count r ∙ mod-eq_of_lt hr) ∙ ap (λ (p : ℕ). p % count) e ∙ mul-add-mod_self_right q count s ∙ mod-eq_of_lt hs

-- place r of list o
pub place-fits : {count n o r : ℕ} → o < n → r < count → o * count + r < n * count
place-fits {count} {n} {o} {r} ho hr = omega (arith, part-fits {i = o} {n = n} count ho)

later : (count o n : ℕ) → 0 < count → o < n → o * count < n * count
later count o n pos h = omega (arith, part-fits {i = o} {n = n} count h)

module _ (count r : ℕ) where
  pub strided_none : (f : ℕ → ℕ) (old : List ℕ) → Strided count r 0 f old old
  strided_none f old = record { kept = refl; inside = λ o h. absurd (omega arith); outside = λ p h. refl }

  -- one more place
  pub strided_next : {n : ℕ} {f : ℕ → ℕ} {old new : List ℕ} (x : ℕ) → 0 < count → n * count + r < length old → x ≡ f n → Strided count r n f old new
      → Strided count r (n + 1) f old (set new (n * count + r) x)
  strided_next {n} {f} {old} {new} x pos h e s =
      record {
        kept = length-set new (n * count + r) x ∙ s.kept;
        inside = λ o k. at o k (dec_lt o n);
        outside = λ p k. get_or-set_other new (n * count + r) p x 0 (k n (omega arith)) ∙ s.outside p (λ o l. k o (omega arith));
      }
    where
      at : (o : ℕ) → o < n + 1 → Dec (o < n) → get_or (set new (n * count + r) x) (o * count + r) 0 ≡ f o
      at o k (yes l) = get_or-set_other new (n * count + r) (o * count + r) x 0 (λ q. omega (arith, later count o n pos l)) ∙ s.inside o l
      at o k (no l) =
          let same : o ≡ n = omega arith in
          ap (λ (i : ℕ). get_or (set new (n * count + r) x) (i * count + r) 0) same ∙ get_or-set_same new (n * count + r) x 0 (omega (arith, s.kept)) ∙ e ∙ ap f (sym same)

  module _ {n : ℕ} {f : ℕ → ℕ} {old new : List ℕ} (s : Strided count r n f old new) where
    -- the lane that was written
    pub strided_lane : lane count r n new ≡ tab n f
    unfolding lane
    strided_lane = tab_ext n (λ o. get_or new (o * count + r) 0) f s.inside

    -- another place
    pub strided_other : (o q : ℕ) → r < count → q < count → (q ≡ r → ⊥) → get_or new (o * count + q) 0 ≡ get_or old (o * count + q) 0
    strided_other o q hr hq d = s.outside (o * count + q) (λ i h e. d (same-lane count o i hq hr e))

    pub strided_beyond : (p : ℕ) → r < count → n * count ≤ p → get_or new p 0 ≡ get_or old p 0
    strided_beyond p hr h = s.outside p (λ o k e. omega (arith, place-fits k hr))

-- ---- lanes

module _ (count r : ℕ) where
  pub length_lane : (n : ℕ) (xs : List ℕ) → length (lane count r n xs) ≡ n
  unfolding lane
  length_lane n xs = length_tab n (λ o. get_or xs (o * count + r) 0)

  pub get_or_lane : (n : ℕ) (xs : List ℕ) (o : ℕ) → o < n → get_or (lane count r n xs) o 0 ≡ get_or xs (o * count + r) 0
  unfolding lane
  get_or_lane n xs o h = get_or_tab n (λ o. get_or xs (o * count + r) 0) o 0 h

  -- a lane by its numbers
  pub lane-is : (n : ℕ) (xs ys : List ℕ) → length ys ≡ n → ((o : ℕ) → o < n → get_or xs (o * count + r) 0 ≡ get_or ys o 0) → lane count r n xs ≡ ys
  lane-is n xs ys l e =
      ext_get_or 0 (lane count r n xs) ys (length_lane n xs ∙ sym l) (λ o h. let k : o < n = omega (arith, length_lane n xs) in get_or_lane n xs o k ∙ e o k)

  pub lane_ext : (n : ℕ) (xs ys : List ℕ) → ((o : ℕ) → o < n → get_or xs (o * count + r) 0 ≡ get_or ys (o * count + r) 0) → lane count r n xs ≡ lane count r n ys
  unfolding lane
  lane_ext n xs ys e = tab_ext n (λ o. get_or xs (o * count + r) 0) (λ o. get_or ys (o * count + r) 0) e

  module _ (n size : ℕ) (hr : r < count) (es : size ≡ n * count) where
    first-place : (o : ℕ) → o < n → o * count + r < size
    first-place o h = omega (arith, es, place-fits h hr)

    -- the lane of a longer list's front
    pub lane_take : (xs : List ℕ) → lane count r n (take size xs) ≡ lane count r n xs
    lane_take xs = lane_ext n (take size xs) xs (λ o h. get_or-take size xs (o * count + r) 0 (first-place o h))

    -- the lane of two runs of lists, the first of n lists
    pub lane_append : (n' : ℕ) (xs ys : List ℕ) → length xs ≡ size → lane count r (n + n') (xs ++ ys) ≡ lane count r n xs ++ lane count r n' ys
    lane_append n' xs ys e =
        lane-is (n + n') (xs ++ ys) (lane count r n xs ++ lane count r n' ys)
        (length-append (lane count r n xs) (lane count r n' ys) ∙ ap₂ ◌+◌ (length_lane n xs) (length_lane n' ys))
        (λ o h. by o h (dec_lt o n))
      where
        by : (o : ℕ) → o < n + n' → Dec (o < n) → get_or (xs ++ ys) (o * count + r) 0 ≡ get_or (lane count r n xs ++ lane count r n' ys) o 0
        by o h (yes l) =
            get_or-append xs ys 0 (o * count + r) (omega (arith, first-place o l)) ∙ sym (get_or_lane n xs o l)
            ∙ sym (get_or-append (lane count r n xs) (lane count r n' ys) 0 o (omega (arith, length_lane n xs)))
        by o h (no l) =
            let back : (n + (o - n)) * count ≡ o * count = ap (λ (t : ℕ). t * count) (omega arith) in
            get_or_append_at xs ys ((o - n) * count + r) (o * count + r) (omega (arith, back, add-mul n (o - n) count))
            ∙ sym (get_or_lane n' ys (o - n) (omega arith))
            ∙ sym (get_or_append_at (lane count r n xs) (lane count r n' ys) (o - n) o (omega (arith, length_lane n xs)))

    pub lane_drop : (n' : ℕ) (xs : List ℕ) → size ≤ length xs → lane count r (n + n') xs ≡ lane count r n (take size xs) ++ lane count r n' (drop size xs)
    lane_drop n' xs h =
        ap (lane count r (n + n')) (sym (take-append-drop size xs)) ∙ lane_append n' (take size xs) (drop size xs) (length-take-le size xs h)

-- lists with the same lanes are equal
pub lanes_same : (count n : ℕ) (xs ys : List ℕ) → length xs ≡ n * count → length ys ≡ n * count
    → ((o r : ℕ) → o < n → r < count → get_or xs (o * count + r) 0 ≡ get_or ys (o * count + r) 0) → xs ≡ ys
lanes_same count n xs ys ex ey e = ext_get_or 0 xs ys (ex ∙ sym ey) (λ p h. at p (omega arith) (dec_lt 0 count))
  where
    at : (p : ℕ) → p < n * count → Dec (0 < count) → get_or xs p 0 ≡ get_or ys p 0
    at p h (yes pos) =
        subst (λ (i : ℕ). get_or xs i 0 ≡ get_or ys i 0) (div-add-mod' p count)
        (e (p / count) (p % count) ((div-lt_iff_lt-mul pos).1 h) (mod-lt p pos))
    at p h (no z) = absurd (omega (arith, ap (λ (t : ℕ). n * t) {x = count} {y = 0} (omega arith), mul-zero n))

-- what holds in each lane holds of the list
pub lanes_each : (P : ℕ → Type 0) (count n : ℕ) (xs : List ℕ) → length xs ≡ n * count → ((r : ℕ) → r < count → All P (lane count r n xs)) → All P xs
lanes_each P count n xs e h = All-of P xs 0 (λ p l. at p (omega arith) (dec_lt 0 count))
  where
    at : (p : ℕ) → p < n * count → Dec (0 < count) → P (get_or xs p 0)
    at p l (yes pos) =
        let o : p / count < n = (div-lt_iff_lt-mul pos).1 l in
        subst P (get_or_lane count (p % count) n xs (p / count) o ∙ ap (λ (i : ℕ). get_or xs i 0) (div-add-mod' p count))
        (All-inside P (lane count (p % count) n xs) 0 (h (p % count) (mod-lt p pos)) (p / count) (omega (arith, length_lane count (p % count) n xs)))
    at p l (no z) = absurd (omega (arith, ap (λ (t : ℕ). n * t) {x = count} {y = 0} (omega arith), mul-zero n))

pub lane_each : (P : ℕ → Type 0) (count r n : ℕ) (xs : List ℕ) → P 0 → All P xs → All P (lane count r n xs)
unfolding lane
lane_each P count r n xs z h = All-tab P n (λ o. get_or xs (o * count + r) 0) (λ o l. All-at P xs 0 h z (o * count + r))
