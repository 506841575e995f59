-- The number of positions where two sequences differ, and the bound on the roots of a polynomial in terms of it.
use Rattle.std.specs.Prelude.{◌≡◌, refl, ◌≢◌, List, [], ◌∷◌, ℕ, zero, suc, ◌+◌, ◌≤◌, ◌<◌, eqb}
use Rattle.std.proofs.Common.{sym, ap, ap₂, ◌∙◌, arith, eq-eqb, ne_eqb}
use Rattle.std.proofs.Math.Decide.{ℕ_discrete}
use lib.ListN.{length, get_or, set, take, length-take}
use Rattle.lists.specs.All.{All, All-take, IsZero}
use Rattle.lists.specs.Pick.{pick, pick_true, pick_false}
use Rattle.field.specs.Laws.{Ops, IsField}
use Rattle.poly.specs.Poly.{Distinct, eval, quot, length_quot}
use Rattle.poly.proofs.Poly.{quot_sym, quot-root, quot-zeros, head-zero, eval-zeros}
use Rattle.poly.specs.Coefficients.{coeff, Low, zeros-low}
use Rattle.poly.proofs.Coefficients.{eval-low}

-- at how many of the positions that both have two lists differ
abbrev pub differences : List ℕ → List ℕ → ℕ
differences [] [] = 0
differences [] (y ∷ ys) = 0
differences (x ∷ xs) [] = 0
differences (x ∷ xs) (y ∷ ys) = pick (eqb x y) 0 1 + differences xs ys

-- 0 if a and b are equal, else 1
abbrev pub differ : ℕ → ℕ → ℕ
differ a b = pick (eqb a b) 0 1

-- a list does not differ from itself
pub differences_self : (xs : List ℕ) → differences xs xs ≡ 0
differences_self [] = refl
differences_self (x ∷ xs) = omega (arith, pick_true {A = ℕ} 0 1 (eq-eqb x x refl), differences_self xs)

-- a list differs at one position from the list with that symbol changed
pub differences-set : (xs : List ℕ) (i x : ℕ) → i < length xs → x ≢ get_or xs i 0 → differences (set xs i x) xs ≡ 1
differences-set [] i x h n = absurd (omega arith)
differences-set (y ∷ ys) zero x h n = omega (arith, pick_false {A = ℕ} 0 1 (ne_eqb x y n), differences_self ys)
differences-set (y ∷ ys) (suc i) x h n = omega (arith, pick_true {A = ℕ} 0 1 (eq-eqb y y refl), differences-set ys i x (omega arith) n)

-- two lists of one length that differ nowhere are one
pub differences-none : (xs ys : List ℕ) → length xs ≡ length ys → differences xs ys ≡ 0 → xs ≡ ys
differences-none [] [] l h = refl
differences-none [] (y ∷ ys) l h = absurd (omega arith)
differences-none (x ∷ xs) [] l h = absurd (omega arith)
differences-none (x ∷ xs) (y ∷ ys) l h = by (ℕ_discrete x y) (differences-none xs ys (omega arith) (omega arith))
  where
    by : Dec (x ≡ y) → xs ≡ ys → x ∷ xs ≡ y ∷ ys
    by (yes e) same = ap₂ ◌∷◌ e same
    by (no n) same = absurd (omega (arith, pick_false {A = ℕ} 0 1 (ne_eqb x y n)))

-- the number of i below n at which u and v differ
abbrev pub differing : ℕ → (ℕ → ℕ) → (ℕ → ℕ) → ℕ
differing zero u v = 0
differing (suc n) u v = differing n u v + differ (u n) (v n)

differ_equal : (a b : ℕ) → a ≡ b → differ a b ≡ 0
differ_equal a b e = pick_true 0 1 (eq-eqb a b e)

differ-apart : (a b : ℕ) → a ≢ b → differ a b ≡ 1
differ-apart a b n = pick_false 0 1 (ne_eqb a b n)

differ-le : (a b c d : ℕ) → (c ≡ d → a ≡ b) → differ a b ≤ differ c d
differ-le a b c d h = by (ℕ_discrete a b) (ℕ_discrete c d)
  where
    by : Dec (a ≡ b) → Dec (c ≡ d) → differ a b ≤ differ c d
    by (yes e) t = omega (arith, differ_equal a b e)
    by (no n) (yes e) = absurd (n (h e))
    by (no n) (no m) = omega (arith, differ-apart a b n, differ-apart c d m)

differ_triangle : (a b c : ℕ) → differ a c ≤ differ a b + differ b c
differ_triangle a b c = by (ℕ_discrete a b) (ℕ_discrete a c)
  where
    by : Dec (a ≡ b) → Dec (a ≡ c) → differ a c ≤ differ a b + differ b c
    by (yes e) t = omega (arith, ap (λ (t : ℕ). differ t c) e)
    by (no n) (yes e) = omega (arith, differ_equal a c e)
    by (no n) (no m) = omega (arith, differ-apart a c m, differ-apart a b n)

-- where c and d agree only if a and b do
pub differing-le : (n : ℕ) (a b c d : ℕ → ℕ) → ((i : ℕ) → i < n → c i ≡ d i → a i ≡ b i) → differing n a b ≤ differing n c d
differing-le zero a b c d h = omega arith
differing-le (suc n) a b c d h =
    omega (arith, differing-le n a b c d (λ i l. h i (omega arith)), differ-le (a n) (b n) (c n) (d n) (h n (omega arith)))

pub differing_triangle : (n : ℕ) (a b c : ℕ → ℕ) → differing n a c ≤ differing n a b + differing n b c
differing_triangle zero a b c = omega arith
differing_triangle (suc n) a b c = omega (arith, differing_triangle n a b c, differ_triangle (a n) (b n) (c n))

pub differing_sym : (n : ℕ) (a b : ℕ → ℕ) → differing n a b ≤ differing n b a
differing_sym n a b = differing-le n a b b a (λ i h e. sym e)

pub differing-none : (n : ℕ) (a b : ℕ → ℕ) → ((i : ℕ) → i < n → a i ≡ b i) → differing n a b ≡ 0
differing-none zero a b h = refl
differing-none (suc n) a b h = omega (arith, differing-none n a b (λ i l. h i (omega arith)), differ_equal (a n) (b n) (h n (omega arith)))

-- the first position apart
differing-front : (n : ℕ) (a b : ℕ → ℕ) → differing (suc n) a b ≡ differ (a 0) (b 0) + differing n (λ i. a (suc i)) (λ i. b (suc i))
differing-front zero a b = omega arith
differing-front (suc n) a b = omega (arith, differing-front n a b)

-- two lists of one length
pub differences-differing : (n : ℕ) (xs ys : List ℕ) → length xs ≡ n → length ys ≡ n → differences xs ys ≡ differing n (coeff xs) (coeff ys)
differences-differing zero [] [] h l = refl
differences-differing zero [] (y ∷ ys) h l = refl
differences-differing zero (x ∷ xs) ys h l = absurd (omega arith)
differences-differing (suc n) [] ys h l = absurd (omega arith)
differences-differing (suc n) (x ∷ xs) [] h l = absurd (omega arith)
differences-differing (suc n) (x ∷ xs) (y ∷ ys) h l =
    ap (λ (t : ℕ). differ x y + t) (differences-differing n xs ys (omega arith) (omega arith)) ∙ sym (differing-front n (coeff (x ∷ xs)) (coeff (y ∷ ys)))

-- the number of i below n with g i other than 0
abbrev pub nonzeros : ℕ → (ℕ → ℕ) → ℕ
nonzeros n g = differing n g (λ i. 0)

module _ {K : Ops} (F : IsField K) where
  open K use {Sym}

  -- a polynomial that is 0 at as many distinct elements as it has coefficients is 0
  pub root-count : (n : ℕ) (p : List ℕ) (f : ℕ → ℕ) → All Sym p → ((i : ℕ) → i < n → Sym (f i)) → Distinct n f
      → length p + nonzeros n (λ i. eval K p (f i)) ≤ n → All IsZero p
  root-count zero [] f sp sf d h = tt
  root-count (suc n) [] f sp sf d h = tt
  root-count zero (c ∷ p) f sp sf d h = absurd (omega arith)
  root-count (suc n) (c ∷ p) f sp sf d h =
      by (ℕ_discrete (eval K (c ∷ p) (f n)) 0) (root-count n (c ∷ p) f sp below apart) (root-count n (quot K p (f n)) f (quot_sym F p (f n) sp.1 sn) below apart)
    where
      sn : Sym (f n)
      sn = sf n (omega arith)

      below : (i : ℕ) → i < n → Sym (f i)
      below i l = sf i (omega arith)

      apart : Distinct n f
      apart i j hi hj = d i j (omega arith) (omega arith)

      by : Dec (eval K (c ∷ p) (f n) ≡ 0) → (suc (length p) + nonzeros n (λ i. eval K (c ∷ p) (f i)) ≤ n → All IsZero (c ∷ p))
          → (length (quot K p (f n)) + nonzeros n (λ i. eval K (quot K p (f n)) (f i)) ≤ n → All IsZero (quot K p (f n))) → All IsZero (c ∷ p)
      by (no ne) same less = same (omega (arith, differ-apart (eval K (c ∷ p) (f n)) 0 ne))
      by (yes e) same less = (head-zero F c (f n) _ e (eval-zeros F p (f n) z), z)
        where
          other : (i : ℕ) → i < n → eval K (c ∷ p) (f i) ≡ 0 → eval K (quot K p (f n)) (f i) ≡ 0
          other i l r = quot-root F c p (f i) (f n) sp.1 (below i l) sn (λ q. let z : i ≡ n = d i n (omega arith) (omega arith) q in omega arith) r e

          z : All IsZero p
          z =
              quot-zeros F p (f n)
              (less (omega (arith, length_quot K p (f n), differing-le n (λ i. eval K (quot K p (f n)) (f i)) (λ i. 0) (λ i. eval K (c ∷ p) (f i)) (λ i. 0) other)))

  -- the same in terms of a degree bound
  pub root-low : (n m : ℕ) (p : List ℕ) (f : ℕ → ℕ) → All Sym p → ((i : ℕ) → i < n → Sym (f i)) → Distinct n f
      → Low m p → m + nonzeros n (λ i. eval K p (f i)) ≤ n → All IsZero p
  root-low n m p f sp sf d z h =
      Rattle.lists.specs.All.All-parts IsZero m p
      (root-count n (take m p) f (All-take Sym m p sp) sf d
      (omega (
        arith,
        length-take m p,
        differing-le n (λ i. eval K (take m p) (f i)) (λ i. 0) (λ i. eval K p (f i)) (λ i. 0) (λ i l e. eval-low F m p (f i) z ∙ e),
      )))
      (zeros-low (lib.ListN.drop m p) (λ i l. lib.Seq.get_or-drop m p i 0 ∙ z (m + i) (omega arith)))
