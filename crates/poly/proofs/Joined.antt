-- The inverse transform from those of the blocks: the layers above them are an inverse transform of fewer layers in each lane, number o of each block being lane o. Assumes nothing.
use Rattle.std.specs.Prelude.{◌≡◌, refl, List, ◌++◌, ℕ, zero, suc, ◌+◌, ◌*◌, ◌^◌, ◌≤◌, ◌<◌, length, get_or, take, drop}
use Rattle.std.proofs.Common.{sym, ap, ap₂, ◌∙◌, zero-mul, add-mul, mul_comm, arith, length-take, length-drop, take-append-drop, pow-add, get_or-take, get_or-drop, take_all, drop-drop}
use Rattle.std.proofs.Math.Nat.{pow-succ'}
use Rattle.lists.specs.Tables.{part, part-fits, part_append}
use Rattle.lists.specs.Lanes.{lane, length_lane, get_or_lane, lane-is, lane_append}
use Rattle.field.specs.Laws.{Ops, IsField, sums, ⊕_0}
use Rattle.poly.specs.Poly.{add_p, scale_p, length_add_p, length_scale_p}
use Rattle.poly.proofs.Coefficients.{coeff-add_p, coeff-scale_p}
use Rattle.poly.specs.Span.{elem}
use Rattle.poly.proofs.Span.{elem-zero}
use Rattle.poly.proofs.Novel.{elem-high}
use Rattle.poly.specs.Transform.{unfolded, shifted, inverse}
use Rattle.poly.proofs.Transform.{length_inverse, inverse_ext}
use Rattle.poly.specs.Joined.{block_coefficients}

module _ {K : Ops} (F : IsField K) where
  infixl 60 ◌⊕◌
  infixl 70 ◌⊗◌
  open K use {◌⊕◌, ◌⊗◌}

  -- ---- the lanes of a sum, of a multiple, of one layer

  module _ (count r n : ℕ) (hr : r < count) where
    lane-sum : (p q : List ℕ) → lane count r n (add_p K p q) ≡ add_p K (lane count r n p) (lane count r n q)
    lane-sum p q =
        lane-is count r n (add_p K p q) (add_p K (lane count r n p) (lane count r n q)) (length_add_p K (lane count r n p) (lane count r n q) ∙ omega (arith, length_lane count r n p, length_lane count r n q))
        (λ o h. coeff-add_p F p q (o * count + r) ∙ sym (coeff-add_p F (lane count r n p) (lane count r n q) o ∙ ap₂ ◌⊕◌ (get_or_lane count r n p o h) (get_or_lane count r n q o h)))

    lane_multiple : (a : ℕ) (p : List ℕ) → lane count r n (scale_p K a p) ≡ scale_p K a (lane count r n p)
    lane_multiple a p =
        lane-is count r n (scale_p K a p) (scale_p K a (lane count r n p)) (length_scale_p K a (lane count r n p) ∙ length_lane count r n p)
        (λ o h. coeff-scale_p F a p (o * count + r) ∙ sym (coeff-scale_p F a (lane count r n p) o ∙ ap (λ (t : ℕ). a ⊗ t) (get_or_lane count r n p o h)))

    lane-unfolded : (c : ℕ) (p q : List ℕ) → length p ≡ n * count → length q ≡ n * count → lane count r (n + n) (unfolded K c p q) ≡ unfolded K c (lane count r n p) (lane count r n q)
    lane-unfolded c p q lp lq =
        lane_append count r n (n * count) hr refl n (add_p K p (scale_p K c (add_p K p q))) (add_p K p q)
        (omega (arith, length_add_p K p (scale_p K c (add_p K p q)), length_scale_p K c (add_p K p q), length_add_p K p q))
        ∙ ap₂ ◌++◌ (lane-sum p (scale_p K c (add_p K p q)) ∙ ap (add_p K (lane count r n p)) (lane_multiple c (add_p K p q) ∙ ap (scale_p K c) (lane-sum p q))) (lane-sum p q)

  -- ---- the layers above the blocks of 2^h numbers

  module _ (T : ℕ → ℕ → ℕ) (h C : ℕ) (L : ℕ → List ℕ) (count : (j : ℕ) → length (L j) ≡ C) (entries : (i j : ℕ) → i < C → get_or (L j) i 0 ≡ T (h + i) j) where
    rotate : (a b c : ℕ) → a ⊕ (b ⊕ c) ≡ a ⊕ c ⊕ b
    rotate a b c = simp (sums, F)

    -- the blocks of the upper half
    upper_block : (c m : ℕ) → c < C → m ≡ h + c → (v : ℕ → ℕ) (g : List ℕ) (q : ℕ) → q < 2 ^ c → block_coefficients F T h C L count entries v g (q + 2 ^ c) ≡ block_coefficients F T h C L count entries (shifted K T m v) (drop (2 ^ m) g) q
    upper_block c m hc e v g q hq =
        ap (inverse K T h (λ j. v j ⊕ elem K (L j) (q + 2 ^ c))) places
        ∙ inverse_ext K T T h (λ i j hi hj. refl) h (omega arith) (λ j. v j ⊕ elem K (L j) (q + 2 ^ c)) (λ j. shifted K T m v j ⊕ elem K (L j) q) (part (2 ^ h) q (drop (2 ^ m) g)) shifts
      where
        size : 2 ^ m ≡ 2 ^ c * 2 ^ h
        size = ap (λ (t : ℕ). 2 ^ t) e ∙ pow-add 2 h c ∙ mul_comm (2 ^ h) (2 ^ c)

        places : part (2 ^ h) (q + 2 ^ c) g ≡ part (2 ^ h) q (drop (2 ^ m) g)
        places = ap (take (2 ^ h)) (ap (λ (t : ℕ). drop t g) {x = (q + 2 ^ c) * 2 ^ h} {y = 2 ^ m + q * 2 ^ h} (omega (arith, size, add-mul q (2 ^ c) (2 ^ h))) ∙ sym (drop-drop (q * 2 ^ h) (2 ^ m) g))

        shifts : (j : ℕ) → j < h → v j ⊕ elem K (L j) (q + 2 ^ c) ≡ v j ⊕ T m j ⊕ elem K (L j) q
        shifts j l =
            ap (λ (t : ℕ). v j ⊕ t) (elem-high F (L j) c q (omega (arith, count j)) hq ∙ ap (λ (t : ℕ). elem K (L j) q ⊕ t) (entries c j hc ∙ ap (λ (t : ℕ). T t j) (sym e)))
            ∙ rotate (v j) (elem K (L j) q) (T m j)

    -- lane o of the whole, from a list with number o of each block
    pub joined : (c m : ℕ) → c ≤ C → m ≡ h + c → (v : ℕ → ℕ) (g : List ℕ) → length g ≡ 2 ^ m → (o : ℕ) → o < 2 ^ h → (xs : List ℕ) → length xs ≡ 2 ^ c
        → ((q : ℕ) → q < 2 ^ c → get_or xs q 0 ≡ get_or (block_coefficients F T h C L count entries v g q) o 0) → lane (2 ^ h) o (2 ^ c) (inverse K T m v g) ≡ inverse K (λ i j. T (h + i) (h + j)) c (λ j. v (h + j)) xs
    joined zero m hc e v g lg o ho xs lx each =
        lane-is (2 ^ h) o 1 (inverse K T m v g) xs lx
        (λ q l.
        ap (λ (p : ℕ). get_or (inverse K T m v g) p 0) {x = q * 2 ^ h + o} {y = o} (omega (arith, ap (λ (t : ℕ). t * 2 ^ h) {x = q} {y = 0} (omega arith), zero-mul (2 ^ h)))
        ∙ ap (λ (ys : List ℕ). get_or ys o 0) first ∙ sym (each 0 (omega arith)) ∙ ap (λ (t : ℕ). get_or xs t 0) {x = 0} {y = q} (omega arith))
      where
        same : m ≡ h
        same = omega arith

        first : inverse K T m v g ≡ block_coefficients F T h C L count entries v g 0
        first =
            ap (λ (t : ℕ). inverse K T t v g) same
            ∙ inverse_ext K T T h (λ i j hi hj. refl) h (omega arith) v (λ j. v j ⊕ elem K (L j) 0) g (λ j l. sym (ap (λ (t : ℕ). v j ⊕ t) (elem-zero F (L j)) ∙ ⊕_0 F (v j)))
            ∙ ap (inverse K T h (λ j. v j ⊕ elem K (L j) 0))
            (sym (ap (λ (t : ℕ). take (2 ^ h) (drop t g)) (zero-mul (2 ^ h)) ∙ take_all (2 ^ h) g (omega (arith, lg, ap (λ (t : ℕ). 2 ^ t) same))))
    joined (suc c) zero hc e v g lg o ho xs lx each = absurd (omega arith)
    joined (suc c) (suc m) hc e v g lg o ho xs lx each =
        ap (λ (t : ℕ). lane (2 ^ h) o t (inverse K T (suc m) v g)) two
        ∙ lane-unfolded (2 ^ h) o (2 ^ c) ho (v m) (inverse K T m v low) (inverse K T m (shifted K T m v) high) (length_inverse K T m v low low-long ∙ size)
        (length_inverse K T m (shifted K T m v) high high-long ∙ size)
        ∙ ap₂ (unfolded K (v m))
        (joined c m (omega arith) rest v low low-long o ho (take (2 ^ c) xs) (length-take (2 ^ c) xs ∙ omega (arith, two)) lower)
        (joined c m (omega arith) rest (shifted K T m v) high high-long o ho (drop (2 ^ c) xs) (length-drop (2 ^ c) xs ∙ omega (arith, two)) upper)
        ∙ ap (λ (t : ℕ). unfolded K (v t) (inverse K up c (λ j. v (h + j)) (take (2 ^ c) xs)) (inverse K up c (λ j. v (h + j) ⊕ T t (h + j)) (drop (2 ^ c) xs))) rest
      where
        up : ℕ → ℕ → ℕ
        up i j = T (h + i) (h + j)

        rest : m ≡ h + c
        rest = omega arith

        two : 2 ^ suc c ≡ 2 ^ c + 2 ^ c
        two = omega (arith, pow-succ' 2 c)

        size : 2 ^ m ≡ 2 ^ c * 2 ^ h
        size = ap (λ (t : ℕ). 2 ^ t) rest ∙ pow-add 2 h c ∙ mul_comm (2 ^ h) (2 ^ c)

        low : List ℕ
        low = take (2 ^ m) g

        high : List ℕ
        high = drop (2 ^ m) g

        low-long : length low ≡ 2 ^ m
        low-long = length-take (2 ^ m) g ∙ omega (arith, lg, pow-succ' 2 m)

        high-long : length high ≡ 2 ^ m
        high-long = length-drop (2 ^ m) g ∙ omega (arith, lg, pow-succ' 2 m)

        inside : (q : ℕ) → q < 2 ^ c → part (2 ^ h) q low ≡ part (2 ^ h) q g
        inside q l = sym (ap (part (2 ^ h) q) (sym (take-append-drop (2 ^ m) g)) ∙ part_append (2 ^ h) q low high (omega (arith, low-long, size, part-fits {i = q} {n = 2 ^ c} (2 ^ h) l)))

        lower : (q : ℕ) → q < 2 ^ c → get_or (take (2 ^ c) xs) q 0 ≡ get_or (block_coefficients F T h C L count entries v low q) o 0
        lower q l = get_or-take (2 ^ c) xs q 0 l ∙ each q (omega (arith, two)) ∙ ap (λ (ys : List ℕ). get_or (inverse K T h (λ j. v j ⊕ elem K (L j) q) ys) o 0) (sym (inside q l))

        upper : (q : ℕ) → q < 2 ^ c → get_or (drop (2 ^ c) xs) q 0 ≡ get_or (block_coefficients F T h C L count entries (shifted K T m v) high q) o 0
        upper q l =
            get_or-drop (2 ^ c) xs q 0 ∙ ap (λ (t : ℕ). get_or xs t 0) {x = 2 ^ c + q} {y = q + 2 ^ c} (omega arith) ∙ each (q + 2 ^ c) (omega (arith, two))
            ∙ ap (λ (ys : List ℕ). get_or ys o 0) (upper_block c m (omega arith) rest v g q l)
