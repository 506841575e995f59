-- One layer, lane by lane: from what each place holds to the halves of the transform. Assumes nothing.
use mathlib.Core.Path.{◌≡◌, refl, sym, ap, ap₂, ◌∙◌, subst}
use mathlib.Core.Logic.{inl}
use mathlib.Core.List.{List, ◌++◌}
use Prim.Native.Nat.{ℕ, ◌+◌, ◌-◌, ◌*◌, ◌/◌, ◌%◌, ◌^◌, ◌≤◌, ◌<◌}
use native.Mathlib.Nat.{add-mul, one-mul}
use native.Mathlib.Omega.{arith}
use lib.ListN.{length, get_or, take, drop, length-take, length-drop}
use lib.Dec.{lit<}
use lib.Pow.{pow_pos, shl_exact}
use lib.Seq.{get_or-take, get_or-drop}
use Rattle.lists.specs.All.{Below, All-at, All-take, All-drop}
use Rattle.lists.specs.Filled.{filled-each}
use Rattle.lists.specs.Overwrite.{length_cut, get_or_cut}
use Rattle.lists.specs.Lanes.{lane, length_lane, get_or_lane, lane-is, lane_drop, place-fits}
use Rattle.field.specs.Binary.{◌⊕◌, degree, product}
use Rattle.field.specs.Symbols.{symbols}
use Rattle.field.specs.Xor.{xor_comm, xor_below}
use Rattle.poly.specs.Poly.{add_p, scale_p, length_add_p, length_scale_p, get_or_add_p, get_or_scale_p}
use Rattle.poly.specs.Transform.{folded, unfolded}
use Rattle.transform.specs.Layers.{Scaled, LowAdded, Layered, Unlayered}
use Rattle.space.specs.Sizes.{max_dim}

-- sums keep the bound
pub low_below : (q n : ℕ) (old new : List ℕ) → Below (2 ^ degree q) old → LowAdded n old new → Below (2 ^ degree q) new
low_below q n old new b s =
    filled-each (λ x. x < 2 ^ degree q) b (λ i h. xor_below (degree q) (at (n + i)) (at i)) s
  where
    at : (p : ℕ) → get_or old p 0 < 2 ^ degree q
    at = All-at (λ x. x < 2 ^ degree q) old 0 b (pow_pos (degree q))

-- ---- the numbers of lane r of the two halves

module _ (count r n : ℕ) (hr : r < count) where
  upper_place : (o : ℕ) → n * count + (o * count + r) ≡ (n + o) * count + r
  upper_place o = omega (arith, add-mul n o count)

  lower_at : (xs : List ℕ) (o : ℕ) → o < n → get_or (lane count r n (take (n * count) xs)) o 0 ≡ get_or xs (o * count + r) 0
  lower_at xs o h = get_or_lane count r n (take (n * count) xs) o h ∙ get_or-take (n * count) xs (o * count + r) 0 (place-fits h hr)

  upper_at : (xs : List ℕ) (o : ℕ) → o < n → get_or (lane count r n (drop (n * count) xs)) o 0 ≡ get_or xs ((n + o) * count + r) 0
  upper_at xs o h =
      get_or_lane count r n (drop (n * count) xs) o h ∙ get_or-drop (n * count) xs (o * count + r) 0 ∙ ap (λ (p : ℕ). get_or xs p 0) (upper_place o)

-- ---- lists of one length, number by number

module _ (q v n : ℕ) (lo hi : List ℕ) (el : length lo ≡ n) (eh : length hi ≡ n) where
  length_scaled_sum : length (add_p (symbols q) lo (scale_p (symbols q) v hi)) ≡ n
  length_scaled_sum = length_add_p (symbols q) lo (scale_p (symbols q) v hi) ∙ omega (arith, length_scale_p (symbols q) v hi)

  scaled_sum-at : (o : ℕ) → o < n → get_or (add_p (symbols q) lo (scale_p (symbols q) v hi)) o 0 ≡ get_or lo o 0 ⊕ product q v (get_or hi o 0)
  scaled_sum-at o h =
      get_or_add_p (symbols q) lo (scale_p (symbols q) v hi) o (omega arith) (omega (arith, length_scale_p (symbols q) v hi))
      ∙ ap (λ (t : ℕ). get_or lo o 0 ⊕ t) (get_or_scale_p (symbols q) v hi o (omega arith))

  length_sum : length (add_p (symbols q) lo hi) ≡ n
  length_sum = length_add_p (symbols q) lo hi ∙ omega arith

  sum-at : (o : ℕ) → o < n → get_or (add_p (symbols q) lo hi) o 0 ≡ get_or lo o 0 ⊕ get_or hi o 0
  sum-at o h = get_or_add_p (symbols q) lo hi o (omega arith) (omega arith)

-- ---- the layer: add_scaled, then add_low

module _ (q c j count : ℕ) (ts : List ℕ) (es : length ts ≡ count) (factor : ℕ → ℕ) (ef : (r : ℕ) → r < count → get_or ts r 0 ⊕ c ≡ factor r)
    (old mid new : List ℕ) (lx : length old ≡ (2 ^ j + 2 ^ j) * count)
    (sc : Scaled q c ts (2 ^ j) (2 ^ j) old mid) (lo : LowAdded (2 ^ j * count) mid new) where
  abbrev n : ℕ
  n = 2 ^ j

  low-mid : (o r : ℕ) → o < n → r < count → get_or mid (o * count + r) 0 ≡ get_or old (o * count + r) 0 ⊕ product q (factor r) (get_or old ((n + o) * count + r) 0)
  low-mid o r ho hr =
      (rw es at (sc.low o r ho (omega arith))) ∙ ap (λ (t : ℕ). get_or old (o * count + r) 0 ⊕ product q t (get_or old ((n + o) * count + r) 0)) (ef r hr)

  high-mid : (o r : ℕ) → get_or mid ((n + o) * count + r) 0 ≡ get_or old ((n + o) * count + r) 0
  high-mid o r = sc.high ((n + o) * count + r) (omega (arith, add-mul n o count, ap (λ (t : ℕ). n * t) es))

  low-new : (o r : ℕ) → o < n → r < count → get_or new (o * count + r) 0 ≡ get_or mid (o * count + r) 0
  low-new o r ho hr = lo.outside (o * count + r) (inl (place-fits ho hr))

  high-new : (o r : ℕ) → o < n → r < count → get_or new ((n + o) * count + r) 0 ≡ get_or mid (o * count + r) 0 ⊕ get_or mid ((n + o) * count + r) 0
  high-new o r ho hr =
      ap (λ (p : ℕ). get_or new p 0) (sym (upper_place count r n hr o)) ∙ lo.inside (o * count + r) (place-fits ho hr)
      ∙ ap (λ (p : ℕ). get_or mid p 0 ⊕ get_or mid (o * count + r) 0) (upper_place count r n hr o)
      ∙ xor_comm (get_or mid ((n + o) * count + r) 0) (get_or mid (o * count + r) 0)

  module _ (r : ℕ) (hr : r < count) where
    abbrev v : ℕ
    v = factor r

    abbrev d : List ℕ
    d = lane count r (n + n) old

    el : length (take n d) ≡ n
    el = length-take n d ∙ omega (arith, length_lane count r (n + n) old)

    eh : length (drop n d) ≡ n
    eh = length-drop n d ∙ omega (arith, length_lane count r (n + n) old)

    lo_at : (o : ℕ) → o < n → get_or (take n d) o 0 ≡ get_or old (o * count + r) 0
    lo_at o h = get_or-take n d o 0 h ∙ get_or_lane count r (n + n) old o (omega arith)

    hi_at : (o : ℕ) → o < n → get_or (drop n d) o 0 ≡ get_or old ((n + o) * count + r) 0
    hi_at o h = get_or-drop n d o 0 ∙ get_or_lane count r (n + n) old (n + o) (omega arith)

    folded-at : (o : ℕ) → o < n → get_or (folded (symbols q) j v d) o 0 ≡ get_or mid (o * count + r) 0
    folded-at o h =
        scaled_sum-at q v n (take n d) (drop n d) el eh o h
        ∙ ap₂ (λ (x y : ℕ). x ⊕ product q v y) (lo_at o h) (hi_at o h) ∙ sym (low-mid o r h hr)

    length_fold : length (folded (symbols q) j v d) ≡ n
    length_fold = length_scaled_sum q v n (take n d) (drop n d) el eh

    pub layer_lower : lane count r n (take (n * count) new) ≡ folded (symbols q) j v d
    layer_lower =
        lane-is count r n (take (n * count) new) (folded (symbols q) j v d) length_fold
        (λ o h. get_or-take (n * count) new (o * count + r) 0 (place-fits h hr) ∙ low-new o r h hr ∙ sym (folded-at o h))

    pub layer_upper : lane count r n (drop (n * count) new) ≡ add_p (symbols q) (folded (symbols q) j v d) (drop n d)
    layer_upper =
        lane-is count r n (drop (n * count) new) (add_p (symbols q) (folded (symbols q) j v d) (drop n d)) (length_sum q v n (folded (symbols q) j v d) (drop n d) length_fold eh)
        (λ o h. get_or-drop (n * count) new (o * count + r) 0 ∙ ap (λ (p : ℕ). get_or new p 0) (upper_place count r n hr o) ∙ high-new o r h hr
        ∙ ap₂ (λ (x y : ℕ). x ⊕ y) (sym (folded-at o h)) (high-mid o r ∙ sym (hi_at o h))
        ∙ sym (sum-at q v n (folded (symbols q) j v d) (drop n d) length_fold eh o h))

  pub layered : Layered q j count factor old new
  layered = record { kept = lo.kept ∙ sc.kept; below = low_below q (n * count) mid new sc.below lo; lower = layer_lower; upper = layer_upper }

-- ---- the layer back: add_low, then add_scaled

module _ (q c j count : ℕ) (ts : List ℕ) (es : length ts ≡ count) (factor : ℕ → ℕ) (ef : (r : ℕ) → r < count → get_or ts r 0 ⊕ c ≡ factor r)
    (old mid new : List ℕ) (lx : length old ≡ (2 ^ j + 2 ^ j) * count)
    (lo : LowAdded (2 ^ j * count) old mid) (sc : Scaled q c ts (2 ^ j) (2 ^ j) mid new) where
  abbrev size : ℕ
  size = 2 ^ j

  mid-low : (o r : ℕ) → o < size → r < count → get_or mid (o * count + r) 0 ≡ get_or old (o * count + r) 0
  mid-low o r ho hr = lo.outside (o * count + r) (inl (place-fits ho hr))

  mid-high : (o r : ℕ) → o < size → r < count → get_or mid ((size + o) * count + r) 0 ≡ get_or old (o * count + r) 0 ⊕ get_or old ((size + o) * count + r) 0
  mid-high o r ho hr =
      ap (λ (p : ℕ). get_or mid p 0) (sym (upper_place count r size hr o)) ∙ lo.inside (o * count + r) (place-fits ho hr)
      ∙ ap (λ (p : ℕ). get_or old p 0 ⊕ get_or old (o * count + r) 0) (upper_place count r size hr o)
      ∙ xor_comm (get_or old ((size + o) * count + r) 0) (get_or old (o * count + r) 0)

  new-low : (o r : ℕ) → o < size → r < count
      → get_or new (o * count + r) 0 ≡ get_or mid (o * count + r) 0 ⊕ product q (factor r) (get_or mid ((size + o) * count + r) 0)
  new-low o r ho hr =
      (rw es at (sc.low o r ho (omega arith))) ∙ ap (λ (t : ℕ). get_or mid (o * count + r) 0 ⊕ product q t (get_or mid ((size + o) * count + r) 0)) (ef r hr)

  new-high : (o r : ℕ) → get_or new ((size + o) * count + r) 0 ≡ get_or mid ((size + o) * count + r) 0
  new-high o r = sc.high ((size + o) * count + r) (omega (arith, add-mul size o count, ap (λ (t : ℕ). size * t) es))

  long-new : length new ≡ (size + size) * count
  long-new = sc.kept ∙ lo.kept ∙ lx

  module _ (r : ℕ) (hr : r < count) where
    abbrev w : ℕ
    w = factor r

    abbrev p₁ : List ℕ
    p₁ = lane count r size (take (size * count) old)

    abbrev p₂ : List ℕ
    p₂ = lane count r size (drop (size * count) old)

    sum_is : (o : ℕ) → o < size → get_or (add_p (symbols q) p₁ p₂) o 0 ≡ get_or mid ((size + o) * count + r) 0
    sum_is o h =
        sum-at q w size p₁ p₂ (length_lane count r size (take (size * count) old)) (length_lane count r size (drop (size * count) old)) o h
        ∙ ap₂ (λ (x y : ℕ). x ⊕ y) (lower_at count r size hr old o h) (upper_at count r size hr old o h) ∙ sym (mid-high o r h hr)

    length_sums : length (add_p (symbols q) p₁ p₂) ≡ size
    length_sums = length_sum q w size p₁ p₂ (length_lane count r size (take (size * count) old)) (length_lane count r size (drop (size * count) old))

    back_upper : lane count r size (drop (size * count) new) ≡ add_p (symbols q) p₁ p₂
    back_upper =
        lane-is count r size (drop (size * count) new) (add_p (symbols q) p₁ p₂) length_sums
        (λ o h. get_or-drop (size * count) new (o * count + r) 0 ∙ ap (λ (p : ℕ). get_or new p 0) (upper_place count r size hr o) ∙ new-high o r ∙ sym (sum_is o h))

    back_lower : lane count r size (take (size * count) new) ≡ add_p (symbols q) p₁ (scale_p (symbols q) w (add_p (symbols q) p₁ p₂))
    back_lower =
        lane-is count r size (take (size * count) new) (add_p (symbols q) p₁ (scale_p (symbols q) w (add_p (symbols q) p₁ p₂)))
        (length_scaled_sum q w size p₁ (add_p (symbols q) p₁ p₂) (length_lane count r size (take (size * count) old)) length_sums)
        (λ o h. get_or-take (size * count) new (o * count + r) 0 (place-fits h hr) ∙ new-low o r h hr
        ∙ ap₂ (λ (x y : ℕ). x ⊕ product q w y) (mid-low o r h hr ∙ sym (lower_at count r size hr old o h)) (sym (sum_is o h))
        ∙ sym (scaled_sum-at q w size p₁ (add_p (symbols q) p₁ p₂) (length_lane count r size (take (size * count) old)) length_sums o h))

    back_whole : lane count r (size + size) new ≡ unfolded (symbols q) w p₁ p₂
    back_whole =
        lane_drop count r size (size * count) hr refl size new (omega (arith, long-new, add-mul size size count))
        ∙ ap₂ ◌++◌ back_lower back_upper

  pub unlayered : Unlayered q j count factor old new
  unlayered = record { kept = sc.kept ∙ lo.kept; below = sc.below; whole = back_whole }

-- ---- as the code cuts the list of number j

pub power : (j : ℕ) → j ≤ max_dim → (1 * 2 ^ j) % 18446744073709551616 ≡ 2 ^ j
power j h = shl_exact {a = 1} 1 j 64 (lit< tt) (omega arith) ∙ one-mul (2 ^ j)

-- the list of number j
abbrev pub list_of : List ℕ → ℕ → ℕ → List ℕ
list_of lanes count j = take (j * count + count - j * count) (drop (j * count) lanes)

pub list_below : (b j count : ℕ) (lanes : List ℕ) → Below b lanes → Below b (list_of lanes count j)
list_below b j count lanes h =
    All-take (λ x. x < b) (j * count + count - j * count) (drop (j * count) lanes) (All-drop (λ x. x < b) (j * count) lanes h)

module _ (q c j count : ℕ) (lanes old : List ℕ) (room : j * count + count ≤ length lanes) (lx : length old ≡ (2 ^ j + 2 ^ j) * count) where
  abbrev shift_of : ℕ → ℕ
  shift_of r = get_or lanes (j * count + r) 0 ⊕ c

  same_shift : (r : ℕ) → r < count → get_or (list_of lanes count j) r 0 ⊕ c ≡ shift_of r
  same_shift r h = ap (λ (t : ℕ). t ⊕ c) (get_or_cut (j * count) count lanes r h)

  pub length_of_lem : length (list_of lanes count j) ≡ count
  length_of_lem = length_cut (j * count) count lanes room

  pub scaled_length : (s : ℕ) → s ≡ 2 ^ j → length old ≡ (s + s) * length (list_of lanes count j)
  scaled_length s e = lx ∙ ap₂ (λ (a b : ℕ). (a + a) * b) (sym e) (sym length_of_lem)

  half_of : (xs : List ℕ) → length xs ≡ length old → length xs / 2 ≡ 2 ^ j * count
  half_of xs e = omega (arith, lx, add-mul (2 ^ j) (2 ^ j) count)

  pub layer_done : (s : ℕ) (mid new : List ℕ) → s ≡ 2 ^ j → Scaled q c (list_of lanes count j) s s old mid → LowAdded (length mid / 2) mid new → Layered q j count shift_of old new
  layer_done s mid new e sc lo =
      layered q c j count (list_of lanes count j) length_of_lem shift_of same_shift old mid new lx
      (subst (λ (t : ℕ). Scaled q c (list_of lanes count j) t t old mid) e sc) (subst (λ (t : ℕ). LowAdded t mid new) (half_of mid sc.kept) lo)

  pub back_done : (s : ℕ) (mid new : List ℕ) → s ≡ 2 ^ j → LowAdded (length old / 2) old mid → Scaled q c (list_of lanes count j) s s mid new → Unlayered q j count shift_of old new
  back_done s mid new e lo sc =
      unlayered q c j count (list_of lanes count j) length_of_lem shift_of same_shift old mid new lx
      (subst (λ (t : ℕ). LowAdded t old mid) (half_of old refl) lo) (subst (λ (t : ℕ). Scaled q c (list_of lanes count j) t t mid new) e sc)
