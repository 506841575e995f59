-- A loop that writes one place after the other, by what each place holds. Assumes nothing.
use Rattle.std.specs.Prelude.{◌≡◌, refl, ◌⊎◌, List, ◌++◌, ℕ, ◌+◌, ◌-◌, ◌*◌, ◌≤◌, ◌<◌, min, length, get_or, set, take, drop}
use Rattle.std.proofs.Common.{sym, ap, ◌∙◌, subst, inl, inr, arith, length-set, length-take, length-drop, ext_get_or, get_or-set_same, get_or-set_other, get_or-take, get_or-drop, length-take-le}
use Rattle.std.proofs.Math.Decide.{dec_lt}
use Rattle.std.proofs.Math.ListN.{get_or-append}
use borrow.Rule.Slice.PartMut.{put_mid}
use Rattle.lists.specs.All.{All, All-of, All-inside}
use Rattle.lists.specs.Overwrite.{get_or_append_at, length-put}
use Rattle.lists.specs.Tables.{tab, part, length_tab, get_or_tab, length_part, get_d_part, part-fits}

-- the list is `old` with f 0, f 1, .. at the n places from a on
pub record Filled (a n : ℕ) (f : ℕ → ℕ) (old new : List ℕ) : Type 0 where
  pub kept : length new ≡ length old
  pub inside : (j : ℕ) → j < n → get_or new (a + j) 0 ≡ f j
  pub outside : (p : ℕ) → (p < a) ⊎ (a + n ≤ p) → get_or new p 0 ≡ get_or old p 0

pub filled_none : (a : ℕ) (f : ℕ → ℕ) (old : List ℕ) → Filled a 0 f old old
filled_none a f old = record { kept = refl; inside = λ j h. absurd (omega arith); outside = λ p h. refl }

-- one more place
pub filled_next : {a n : ℕ} {f : ℕ → ℕ} {old new : List ℕ} (x : ℕ) → a + n < length old → x ≡ f n → Filled a n f old new → Filled a (n + 1) f old (set new (a + n) x)
filled_next {a} {n} {f} {old} {new} x h e s =
    record {
      kept = length-set new (a + n) x ∙ s.kept;
      inside = λ j k. at j k (dec_lt j n);
      outside = λ p k. get_or-set_other new (a + n) p x 0 (apart p k) ∙ s.outside p (wider p k);
    }
  where
    at : (j : ℕ) → j < n + 1 → Dec (j < n) → get_or (set new (a + n) x) (a + j) 0 ≡ f j
    at j k (yes l) = get_or-set_other new (a + n) (a + j) x 0 (λ q. omega arith) ∙ s.inside j l
    at j k (no l) =
        let same : j ≡ n = omega arith in
        ap (λ (i : ℕ). get_or (set new (a + n) x) (a + i) 0) same ∙ get_or-set_same new (a + n) x 0 (omega (arith, s.kept)) ∙ e ∙ ap f (sym same)

    apart : (p : ℕ) → (p < a) ⊎ (a + (n + 1) ≤ p) → p ≡ a + n → ⊥
    apart p (inl k) q = omega arith
    apart p (inr k) q = omega arith

    wider : (p : ℕ) → (p < a) ⊎ (a + (n + 1) ≤ p) → (p < a) ⊎ (a + n ≤ p)
    wider p (inl k) = inl k
    wider p (inr k) = inr (omega arith)

-- the same from the front
pub filled-front : {n : ℕ} {f : ℕ → ℕ} {old new : List ℕ} (x : ℕ) → n < length old → x ≡ f n → Filled 0 n f old new → Filled 0 (n + 1) f old (set new n x)
filled-front {n} {f} {old} {new} x h e s =
    let start : 0 + n ≡ n = omega arith in subst (λ (k : ℕ). Filled 0 (n + 1) f old (set new k x)) start (filled_next x (omega arith) e s)

-- a list that is filled whole
pub filled-all : {n : ℕ} {f : ℕ → ℕ} {old new : List ℕ} → length old ≡ n → Filled 0 n f old new → new ≡ tab n f
filled-all {n} {f} {old} {new} e s =
    ext_get_or 0 new (tab n f) (s.kept ∙ e ∙ sym (length_tab n f))
    (λ i h. let start : 0 + i ≡ i = omega arith in
    let l : i < n = omega (arith, s.kept) in
    ap (λ (k : ℕ). get_or new k 0) (sym start) ∙ s.inside i l ∙ sym (get_or_tab n f i 0 l))

-- what holds of the old entries and of those that are written
pub filled-each : (P : ℕ → Type 0) {a n : ℕ} {f : ℕ → ℕ} {old new : List ℕ} → All P old → ((j : ℕ) → j < n → P (f j)) → Filled a n f old new → All P new
filled-each P {a} {n} {f} {old} {new} ho hf s = All-of P new 0 (λ p h. at p (omega (arith, s.kept)) (dec_lt p a) (dec_lt p (a + n)))
  where
    kept_at : (p : ℕ) → p < length old → get_or new p 0 ≡ get_or old p 0 → P (get_or new p 0)
    kept_at p h e = subst P (sym e) (All-inside P old 0 ho p h)

    at : (p : ℕ) → p < length old → Dec (p < a) → Dec (p < a + n) → P (get_or new p 0)
    at p h (yes l) d = kept_at p h (s.outside p (inl l))
    at p h (no l) (no g) = kept_at p h (s.outside p (inr (omega arith)))
    at p h (no l) (yes g) =
        let place : a + (p - a) ≡ p = omega arith in
        subst P (sym (s.inside (p - a) (omega arith)) ∙ ap (λ (i : ℕ). get_or new i 0) place) (hf (p - a) (omega arith))

-- the part that is filled
pub filled_take : {n : ℕ} {f : ℕ → ℕ} {old new : List ℕ} → n ≤ length old → Filled 0 n f old new → take n new ≡ tab n f
filled_take {n} {f} {old} {new} h s =
    let long : length (take n new) ≡ n = length-take-le n new (omega (arith, s.kept)) in
    ext_get_or 0 (take n new) (tab n f) (long ∙ sym (length_tab n f))
    (λ i k. let l : i < n = omega (arith, long) in
    let start : 0 + i ≡ i = omega arith in
    get_or-take n new i 0 l ∙ ap (λ (j : ℕ). get_or new j 0) (sym start) ∙ s.inside i l ∙ sym (get_or_tab n f i 0 l))

-- a part that was lent and written
pub put-filled : (a k : ℕ) (xs ys : List ℕ) → a + k ≤ length xs → length ys ≡ k → Filled a k (λ i. get_or ys i 0) xs (put_mid a k xs ys)
put-filled a k xs ys h e =
    record { kept = length-put a k xs ys h e; inside = at; outside = λ p d. apart p d }
  where
    front : length (take a xs) ≡ a
    front = length-take-le a xs (omega arith)

    at : (i : ℕ) → i < k → get_or (put_mid a k xs ys) (a + i) 0 ≡ get_or ys i 0
    at i l =
        get_or_append_at (take a xs) (ys ++ drop k (drop a xs)) i (a + i) (omega (arith, front)) ∙ get_or-append ys (drop k (drop a xs)) 0 i (omega arith)

    apart : (p : ℕ) → (p < a) ⊎ (a + k ≤ p) → get_or (put_mid a k xs ys) p 0 ≡ get_or xs p 0
    apart p (inl l) = get_or-append (take a xs) (ys ++ drop k (drop a xs)) 0 p (omega (arith, front)) ∙ get_or-take a xs p 0 l
    apart p (inr l) =
        let back : a + (k + (p - (a + k))) ≡ p = omega arith in
        get_or_append_at (take a xs) (ys ++ drop k (drop a xs)) (p - a) p (omega (arith, front))
        ∙ get_or_append_at ys (drop k (drop a xs)) (p - (a + k)) (p - a) (omega arith)
        ∙ get_or-drop k (drop a xs) (p - (a + k)) 0 ∙ get_or-drop a xs (k + (p - (a + k))) 0 ∙ ap (λ (i : ℕ). get_or xs i 0) back

-- the parts of length m of a list of which one is filled
module _ (m a : ℕ) {f : ℕ → ℕ} {old new : List ℕ} (s : Filled (a * m) m f old new) where
  pub filled-part : a * m + m ≤ length old → part m a new ≡ tab m f
  filled-part h =
      let long : length (part m a new) ≡ m = length_part m a new (omega (arith, s.kept)) in
      ext_get_or 0 (part m a new) (tab m f) (long ∙ sym (length_tab m f))
      (λ i k. let l : i < m = omega (arith, long) in get_d_part m a i new 0 l ∙ s.inside i l ∙ sym (get_or_tab m f i 0 l))

  pub filled-other : (p : ℕ) → (p ≡ a → ⊥) → part m p new ≡ part m p old
  filled-other p d =
      ext_get_or 0 (part m p new) (part m p old) (same-long (length-take m (drop (p * m) new)) (length-take m (drop (p * m) old)))
      (λ i k. let l : i < m = omega (arith, length-take m (drop (p * m) new)) in
      get_d_part m p i new 0 l ∙ s.outside (p * m + i) (apart i l (dec_lt p a)) ∙ sym (get_d_part m p i old 0 l))
    where
      same-long : length (part m p new) ≡ min m (length (drop (p * m) new)) → length (part m p old) ≡ min m (length (drop (p * m) old)) → length (part m p new) ≡ length (part m p old)
      same-long e g = omega (arith, length-drop (p * m) new, length-drop (p * m) old, s.kept)

      apart : (i : ℕ) → i < m → Dec (p < a) → (p * m + i < a * m) ⊎ (a * m + m ≤ p * m + i)
      apart i l (yes z) = inl (omega (arith, part-fits {i = p} {n = a} m z))
      apart i l (no z) = inr (omega (arith, part-fits {i = a} {n = p} m (other z)))
        where
          other : (p < a → ⊥) → a < p
          other z = omega arith
