-- The test that eight lanes are alike: an or of sums that is 0 exactly where all of them are. Assumes nothing.
use mathlib.Core.Path.{◌≡◌, refl, sym, ap, ap₂, ◌∙◌, subst}
use mathlib.Core.Logic.{inl, inr, ◌↔◌}
use mathlib.Core.Bool.{Bool, true, false}
use mathlib.Core.List.{List, ◌++◌}
use Prim.Native.Nat.{ℕ, zero, suc, ◌+◌, ◌*◌, ◌≤◌, ◌<◌}
use native.Mathlib.Decide.{dec_lt}
use native.Mathlib.Nat.{add-zero}
use native.Mathlib.Omega.{arith}
use borrow.Author.Tests.{eqb-true, eqb-false}
use lib.Bits.{bit_or, bit_xor, or_add_and, and_le_l, and_le_r, or_zero_l, xor_self}
use lib.Dec.{eqb}
use lib.ListN.{length, get_or, drop, get_or-append}
use lib.Seq.{get_or-drop, drop-drop, drop_at}
use Rattle.lists.specs.Decides.{Decides}
use Rattle.lists.specs.Lanes.{lane, get_or_lane, lane-is, length_lane}
use Rattle.poly.specs.Span.{xor-zero}
use Rattle.transform.specs.Blocks.{EqualLanes}

or-zero : (a b : ℕ) → (bit_or a b ≡ 0) ↔ ((a ≡ 0) × (b ≡ 0))
or-zero a b = (
  λ e. (omega (arith, or_add_and a b, and_le_r a b), omega (arith, or_add_and a b, and_le_l a b)),
  λ h. ap₂ bit_or h.0 h.1 ∙ or_zero_l 0,
)

-- g 1 or g 2 or .. or g (n + 1)
abbrev pub ors : (ℕ → ℕ) → ℕ → ℕ
ors g zero = g 1
ors g (suc n) = bit_or (ors g n) (g (suc (suc n)))

ors-zero : (g : ℕ → ℕ) (n : ℕ) → (ors g n ≡ 0) ↔ ((i : ℕ) → 0 < i → i ≤ suc n → g i ≡ 0)
ors-zero g zero = (λ e i p h. ap g {x = i} {y = 1} (omega arith) ∙ e, λ h. h 1 (omega arith) (omega arith))
ors-zero g (suc n) = (
  λ e i p h. let w = (or-zero (ors g n) (g (suc (suc n)))).0 e in at ((ors-zero g n).0 w.0) w.1 i p h (dec_lt i (suc (suc n))),
  λ h. (or-zero (ors g n) (g (suc (suc n)))).1 ((ors-zero g n).1 (λ i p l. h i p (omega arith)), h (suc (suc n)) (omega arith) (omega arith)),
)
  where
    at : ((i : ℕ) → 0 < i → i ≤ suc n → g i ≡ 0) → g (suc (suc n)) ≡ 0 → (i : ℕ) → 0 < i → i ≤ suc (suc n) → Dec (i < suc (suc n)) → g i ≡ 0
    at before last i p h (yes l) = before i p (omega arith)
    at before last i p h (no l) = ap g {x = i} {y = suc (suc n)} (omega arith) ∙ last

-- eight numbers that are all the first
pub list_alike : (v : List ℕ) → (ors (λ i. bit_xor (get_or v 0 0) (get_or v i 0)) 6 ≡ 0) ↔ ((r : ℕ) → r < 8 → get_or v r 0 ≡ get_or v 0 0)
list_alike v = (
  λ e r h. by e r h (dec_lt 0 r),
  λ h. (ors-zero g 6).1 (λ i p l. ap (bit_xor (get_or v 0 0)) (h i (omega arith)) ∙ xor_self (get_or v 0 0)),
)
  where
    g : ℕ → ℕ
    g i = bit_xor (get_or v 0 0) (get_or v i 0)

    by : ors g 6 ≡ 0 → (r : ℕ) → r < 8 → Dec (0 < r) → get_or v r 0 ≡ get_or v 0 0
    by e r h (yes p) = sym (xor-zero (get_or v 0 0) (get_or v r 0) ((ors-zero g 6).0 e r p (omega arith)))
    by e r h (no p) = ap (λ (i : ℕ). get_or v i 0) {x = r} {y = 0} (omega arith)

-- the first o lists are each eight times one number
abbrev pub AlikeTo : ℕ → List ℕ → Type 0
AlikeTo o xs = (i r : ℕ) → i < o → r < 8 → get_or xs (i * 8 + r) 0 ≡ get_or xs (i * 8) 0

-- one more list
pub alike_next : (xs list rest : List ℕ) (o bad d : ℕ) → drop (o * 8) xs ≡ list ++ rest → length list ≡ 8 → (bad ≡ 0) ↔ AlikeTo o xs
    → (d ≡ 0) ↔ ((r : ℕ) → r < 8 → get_or list r 0 ≡ get_or list 0 0)
    → (bit_or bad d ≡ 0) ↔ AlikeTo (o + 1) xs
alike_next xs list rest o bad d es el inv new = (
  λ e i r h l. let w = (or-zero bad d).0 e in at w i r h l (dec_lt i o),
  λ h. (or-zero bad d).1 (inv.1 (λ i r p l. h i r (omega arith) l), new.1 (λ r l. cut r l ∙ h o r (omega arith) l ∙ first)),
)
  where
    cut : (r : ℕ) → r < 8 → get_or list r 0 ≡ get_or xs (o * 8 + r) 0
    cut r h = sym (get_or-append list rest 0 r (omega arith)) ∙ ap (λ (t : List ℕ). get_or t r 0) (sym es) ∙ get_or-drop (o * 8) xs r 0

    first : get_or xs (o * 8) 0 ≡ get_or list 0 0
    first = ap (λ (i : ℕ). get_or xs i 0) (sym (add-zero (o * 8))) ∙ sym (cut 0 (omega arith))

    at : (bad ≡ 0) × (d ≡ 0) → (i r : ℕ) → i < o + 1 → r < 8 → Dec (i < o) → get_or xs (i * 8 + r) 0 ≡ get_or xs (i * 8) 0
    at w i r h l (yes p) = inv.0 w.0 i r p l
    at w i r h l (no p) =
        let same : o ≡ i = omega arith in
        subst (λ (k : ℕ). get_or xs (k * 8 + r) 0 ≡ get_or xs (k * 8) 0) same (sym (cut r l) ∙ new.0 w.1 r l ∙ sym first)

-- what follows that list
pub alike_rest : (xs list rest : List ℕ) (o : ℕ) → drop (o * 8) xs ≡ list ++ rest → length list ≡ 8 → rest ≡ drop ((o + 1) * 8) xs
alike_rest xs list rest o es el =
    sym (drop_at list rest 8 el) ∙ ap (drop 8) (sym es) ∙ drop-drop 8 (o * 8) xs ∙ ap (λ (i : ℕ). drop i xs) {x = o * 8 + 8} {y = (o + 1) * 8} (omega arith)

-- the lanes
alike_lanes : (n : ℕ) (xs : List ℕ) → AlikeTo n xs ↔ EqualLanes n xs
alike_lanes n xs = (
  λ h r l. lane-is 8 r n xs (lane 8 0 n xs) (length_lane 8 0 n xs) (λ o p. h o r p l ∙ zeroth o p),
  λ h i r p l. sym (get_or_lane 8 r n xs i p) ∙ ap (λ (t : List ℕ). get_or t i 0) (h r l) ∙ sym (zeroth i p),
)
  where
    zeroth : (o : ℕ) → o < n → get_or xs (o * 8) 0 ≡ get_or (lane 8 0 n xs) o 0
    zeroth o p = ap (λ (i : ℕ). get_or xs i 0) (sym (add-zero (o * 8))) ∙ sym (get_or_lane 8 0 n xs o p)

pub alike_decides : (n : ℕ) (xs : List ℕ) (bad : ℕ) → (bad ≡ 0) ↔ AlikeTo n xs → Decides (eqb bad 0) (EqualLanes n xs)
alike_decides n xs bad h = go (eqb bad 0) refl
  where
    go : (t : Bool) → eqb bad 0 ≡ t → Decides t (EqualLanes n xs)
    go true e = inl (refl, (alike_lanes n xs).0 (h.0 (eqb-true bad 0 e)))
    go false e = inr (refl, λ a. eqb-false bad 0 e (h.1 ((alike_lanes n xs).1 a)))
