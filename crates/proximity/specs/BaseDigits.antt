-- The digits of P to a monic base q are the Q with P(x) = Q(x, q(x)).
use Rattle.std.specs.Prelude.{◌≡◌, refl, List, [], ◌∷◌, ℕ, zero, suc, ◌*◌, ◌-◌, ◌≤◌, ◌<◌, length, get_or, replicate}
use Rattle.std.proofs.Common.{sym, ap, ap₂, ◌∙◌, subst, suc-ne-zero, suc-mul, zero-mul, arith}
use Rattle.std.proofs.Math.Nat.{suc_inj}
use Rattle.std.proofs.Math.Decide.{dec_lt}
use Rattle.std.proofs.lemmas.List.{length-replicate}
use Rattle.std.proofs.Math.ListN.{get_or-eq_default}
use Rattle.lists.specs.All.{All, IsZero, All-replicate}
use Rattle.field.specs.Laws.{Ops, IsField, ring, 0_⊕, 0_⊗, ⊗_0}
use Rattle.poly.specs.Poly.{eval, scale_p, length_add_p, length_scale_p}
use Rattle.poly.proofs.Poly.{add_p_sym, scale_p_sym, eval-zeros}
use Rattle.poly.specs.Coefficients.{Low}
use Rattle.poly.proofs.Coefficients.{coeff-add_p, coeff-scale_p}
use Rattle.proximity.specs.Bivariate.{front, final, reduce_by_q, times_x, digits, eval2}
use Rattle.proximity.specs.TwoVariables.{Digits, eval_monic}

-- The coefficients from d on are 0, in digits of m coefficients
abbrev LowDigits : ℕ → ℕ → List (List ℕ) → Type 0
LowDigits m d [] = Unit {0}
LowDigits m d (s ∷ Q) = Low d s × LowDigits m (d - m) Q

final-at : (e : ℕ) (s : List ℕ) → final e s ≡ get_or (e ∷ s) (length s) 0
final-at e [] = refl
final-at e (d ∷ s) = final-at d s

front_at : (e : ℕ) (s : List ℕ) (i : ℕ) → i < length s → get_or (front e s) i 0 ≡ get_or (e ∷ s) i 0
front_at e [] i h = absurd (omega arith)
front_at e (d ∷ s) zero h = refl
front_at e (d ∷ s) (suc i) h = front_at d s i (omega arith)

zeros-low : (m : ℕ) → Low 0 (replicate m 0)
zeros-low zero i h = refl
zeros-low (suc m) zero h = refl
zeros-low (suc m) (suc i) h = zeros-low m i (omega arith)

cons-low : (d e : ℕ) (s : List ℕ) → (d ≡ 0 → e ≡ 0) → Low (d - 1) s → Low d (e ∷ s)
cons-low d e s z l zero h = z (omega arith)
cons-low d e s z l (suc i) h = l i (omega arith)

zero-digits-low : (n m : ℕ) → LowDigits m 0 (replicate n (replicate m 0))
zero-digits-low zero m = tt
zero-digits-low (suc n) m = (zeros-low m, subst (λ (d : ℕ). LowDigits m d (replicate n (replicate m 0))) (omega arith) (zero-digits-low n m))

-- The carry out of the last digit
abbrev carry : ℕ → List (List ℕ) → ℕ
carry e [] = e
carry e (s ∷ Q) = carry (final e s) Q

module _ (K : Ops) where
  infixl 60 ◌⊕◌
  infixl 70 ◌⊗◌
  open K use {◌⊕◌, ◌⊗◌, Sym}

  length_front : (e : ℕ) (s : List ℕ) → length (front e s) ≡ length s
  length_front e [] = refl
  length_front e (d ∷ s) = ap suc (length_front d s)

  length_reduce_by_q : (q : List ℕ) (e : ℕ) (s : List ℕ) → length s ≡ length q → length (reduce_by_q K q e s) ≡ length q
  length_reduce_by_q q e s h = omega (arith, length_add_p K (front e s) (scale_p K (final e s) q), length_front e s, length_scale_p K (final e s) q)

  length_times_x : (q : List ℕ) (e : ℕ) (Q : List (List ℕ)) → length (times_x K q e Q) ≡ length Q
  length_times_x q e [] = refl
  length_times_x q e (s ∷ Q) = ap suc (length_times_x q (final e s) Q)

  pub length_digits : (q : List ℕ) (n : ℕ) (p : List ℕ) → length (digits K q n p) ≡ n
  length_digits q n [] = length-replicate n (replicate (length q) 0)
  length_digits q n (c ∷ p) = length_times_x q c (digits K q n p) ∙ length_digits q n p

module _ {K : Ops} (F : IsField K) where
  infixl 60 ◌⊕◌
  infixl 70 ◌⊗◌
  open K use {◌⊕◌, ◌⊗◌, Sym}

  front_sym : (e : ℕ) (s : List ℕ) → Sym e → All Sym s → All Sym (front e s)
  front_sym e [] se ss = tt
  front_sym e (d ∷ s) se ss = (se, front_sym d s ss.0 ss.1)

  final_sym : (e : ℕ) (s : List ℕ) → Sym e → All Sym s → Sym (final e s)
  final_sym e [] se ss = se
  final_sym e (d ∷ s) se ss = final_sym d s ss.0 ss.1

  reduce_by_q_sym : (q : List ℕ) (e : ℕ) (s : List ℕ) → All Sym q → Sym e → All Sym s → All Sym (reduce_by_q K q e s)
  reduce_by_q_sym q e s sq se ss = add_p_sym F (front e s) (scale_p K (final e s) q) (front_sym e s se ss) (scale_p_sym F (final e s) q (final_sym e s se ss) sq)

  times_x-digits : (q : List ℕ) (e : ℕ) (Q : List (List ℕ)) → All Sym q → Sym e → Digits Sym (length q) Q → Digits Sym (length q) (times_x K q e Q)
  times_x-digits q e [] sq se g = tt
  times_x-digits q e (s ∷ Q) sq se g =
      (length_reduce_by_q K q e s g.0, reduce_by_q_sym q e s sq se g.1, times_x-digits q (final e s) Q sq (final_sym e s se g.1) g.2)

  zero-digits : (n m : ℕ) → Digits Sym m (replicate n (replicate m 0))
  zero-digits zero m = tt
  zero-digits (suc n) m = (length-replicate m 0, All-replicate Sym m 0 F.sym_zero, zero-digits n m)

  -- The digits have as many coefficients as q has below the highest, and all are elements
  pub digits-digits : (q : List ℕ) (n : ℕ) (p : List ℕ) → All Sym q → All Sym p → Digits Sym (length q) (digits K q n p)
  digits-digits q n [] sq sp = zero-digits n (length q)
  digits-digits q n (c ∷ p) sq sp = times_x-digits q c (digits K q n p) sq sp.0 (digits-digits q n p sq sp.1)

  -- ---- values

  reduce_by_q-nil : (e x : ℕ) → Sym e → e ⊕ x ⊗ 0 ≡ 0 ⊕ e ⊗ (1 ⊕ x ⊗ 0)
  reduce_by_q-nil e x se = simp (ring, F.one_prod e se, F)

  reduce_by_q-step : (e x c l t u w : ℕ) → w ≡ t ⊕ l ⊗ u → e ⊕ x ⊗ w ≡ e ⊕ l ⊗ c ⊕ x ⊗ t ⊕ l ⊗ (c ⊕ x ⊗ u)
  reduce_by_q-step e x c l t u w h = simp (h, ring, F)

  -- One elimination step
  eval-reduce_by_q : (q : List ℕ) (e : ℕ) (s : List ℕ) (x : ℕ) → length s ≡ length q → Sym e → All Sym s
      → eval K (e ∷ s) x ≡ eval K (reduce_by_q K q e s) x ⊕ final e s ⊗ eval_monic K q x
  eval-reduce_by_q [] e [] x h se ss = reduce_by_q-nil e x se
  eval-reduce_by_q [] e (d ∷ s) x h se ss = absurd (suc-ne-zero _ h)
  eval-reduce_by_q (c ∷ q) e [] x h se ss = absurd (suc-ne-zero _ (sym h))
  eval-reduce_by_q (c ∷ q) e (d ∷ s) x h se ss = reduce_by_q-step e x c (final d s) _ _ _ (eval-reduce_by_q q d s x (suc_inj h) ss.0 ss.1)

  -- ---- the carry out of the last digit is 0

  front_low : (d e : ℕ) (s : List ℕ) → Low d (e ∷ s) → Low d (front e s)
  front_low d e s l i h = by (dec_lt i (length s))
    where
      by : Dec (i < length s) → get_or (front e s) i 0 ≡ 0
      by (yes t) = front_at e s i t ∙ l i h
      by (no t) = get_or-eq_default (front e s) 0 {n = i} (omega (arith, length_front K e s))

  final-low : (d e : ℕ) (s : List ℕ) → d ≤ length s → Low d (e ∷ s) → final e s ≡ 0
  final-low d e s h l = final-at e s ∙ l (length s) h

  multiple_low : (q : List ℕ) (d e : ℕ) (s : List ℕ) → length s ≡ length q → Low d (e ∷ s) → Low d (scale_p K (final e s) q)
  multiple_low q d e s g l i h = coeff-scale_p F (final e s) q i ∙ by (dec_lt i (length q))
    where
      by : Dec (i < length q) → final e s ⊗ get_or q i 0 ≡ 0
      by (yes t) = ap (λ (u : ℕ). u ⊗ get_or q i 0) (final-low d e s (omega arith) l) ∙ 0_⊗ F (get_or q i 0)
      by (no t) = ap (λ (u : ℕ). final e s ⊗ u) (get_or-eq_default q 0 {n = i} (omega arith)) ∙ ⊗_0 F (final e s)

  reduce_by_q-low : (q : List ℕ) (d e : ℕ) (s : List ℕ) → length s ≡ length q → Low d (e ∷ s) → Low d (reduce_by_q K q e s)
  reduce_by_q-low q d e s g l i h =
      coeff-add_p F (front e s) (scale_p K (final e s) q) i ∙ ap₂ ◌⊕◌ (front_low d e s l i h) (multiple_low q d e s g l i h) ∙ 0_⊕ F 0

  tail-low : (m d : ℕ) (Q : List (List ℕ)) → LowDigits m (d - 1 - m) Q → LowDigits m (d - m - 1) Q
  tail-low m d Q l = subst (λ (t : ℕ). LowDigits m t Q) (omega arith) l

  times_x-low : (q : List ℕ) (d e : ℕ) (Q : List (List ℕ)) → Digits Sym (length q) Q → (d ≡ 0 → e ≡ 0) → LowDigits (length q) (d - 1) Q → LowDigits (length q) d (times_x K q e Q)
  times_x-low q d e [] g z l = tt
  times_x-low q d e (s ∷ Q) g z l =
      let c : Low d (e ∷ s) = cons-low d e s z l.0 in
      (reduce_by_q-low q d e s g.0 c, times_x-low q (d - length q) (final e s) Q g.2 (λ t. final-low d e s (omega (arith, g.0)) c) (tail-low (length q) d Q l.1))

  carry-low : (m d e : ℕ) (Q : List (List ℕ)) → Digits Sym m Q → (d ≡ 0 → e ≡ 0) → LowDigits m (d - 1) Q → d ≤ length Q * m → carry e Q ≡ 0
  carry-low m d e [] g z l h = z (omega (arith, zero-mul m))
  carry-low m d e (s ∷ Q) g z l h =
      let c : Low d (e ∷ s) = cons-low d e s z l.0 in
      carry-low m (d - m) (final e s) Q g.2 (λ t. final-low d e s (omega (arith, g.0)) c) (tail-low m d Q l.1) (omega (arith, suc-mul (length Q) m))

  times_x-nil : (e x : ℕ) → e ≡ 0 → e ⊕ x ⊗ 0 ≡ 0
  times_x-nil e x z = simp (z, ring, F)

  times_x-apart : (e x y a v : ℕ) → e ⊕ x ⊗ (a ⊕ y ⊗ v) ≡ e ⊕ x ⊗ a ⊕ y ⊗ (x ⊗ v)
  times_x-apart e x y a v = simp (ring, F)

  times_x-join : (r l y x v : ℕ) → r ⊕ l ⊗ y ⊕ y ⊗ (x ⊗ v) ≡ r ⊕ y ⊗ (l ⊕ x ⊗ v)
  times_x-join r l y x v = simp (ring, F)

  times_x-step : (e x y a r l v w : ℕ) → e ⊕ x ⊗ a ≡ r ⊕ l ⊗ y → l ⊕ x ⊗ v ≡ w → e ⊕ x ⊗ (a ⊕ y ⊗ v) ≡ r ⊕ y ⊗ w
  times_x-step e x y a r l v w h k =
      times_x-apart e x y a v ∙ ap (λ (t : ℕ). t ⊕ y ⊗ (x ⊗ v)) h ∙ times_x-join r l y x v ∙ ap (λ (t : ℕ). r ⊕ y ⊗ t) k

  eval-times_x : (q : List ℕ) (e : ℕ) (Q : List (List ℕ)) (x : ℕ) → Sym e → Digits Sym (length q) Q → carry e Q ≡ 0
      → e ⊕ x ⊗ eval2 K Q x (eval_monic K q x) ≡ eval2 K (times_x K q e Q) x (eval_monic K q x)
  eval-times_x q e [] x se g z = times_x-nil e x z
  eval-times_x q e (s ∷ Q) x se g z =
      times_x-step e x (eval_monic K q x) _ _ (final e s) _ _ (eval-reduce_by_q q e s x g.0 se g.1) (eval-times_x q (final e s) Q x (final_sym e s se g.1) g.2 z)

  digits_low : (q : List ℕ) (n : ℕ) (p : List ℕ) → All Sym q → All Sym p → LowDigits (length q) (length p) (digits K q n p)
  digits_low q n [] sq sp = zero-digits-low n (length q)
  digits_low q n (c ∷ p) sq sp =
      times_x-low q (suc (length p)) c (digits K q n p) (digits-digits q n p sq sp.1) (λ t. absurd (omega arith))
      (subst (λ (d : ℕ). LowDigits (length q) d (digits K q n p)) (omega arith) (digits_low q n p sq sp.1))

  zero-value : (n m x y : ℕ) → eval2 K (replicate n (replicate m 0)) x y ≡ 0
  zero-value zero m x y = refl
  zero-value (suc n) m x y = ap₂ (λ (u v : ℕ). u ⊕ y ⊗ v) (eval-zeros F (replicate m 0) x (All-replicate IsZero m 0 refl)) (zero-value n m x y) ∙ times_x-nil 0 y refl

  -- P(x) = Q(x, q(x)) for the digits Q of P
  pub eval-digits : (q : List ℕ) (n : ℕ) (p : List ℕ) (x : ℕ) → All Sym q → All Sym p → length p ≤ n * length q
      → eval K p x ≡ eval2 K (digits K q n p) x (eval_monic K q x)
  eval-digits q n [] x sq sp h = sym (zero-value n (length q) x (eval_monic K q x))
  eval-digits q n (c ∷ p) x sq sp h =
      ap (λ (t : ℕ). c ⊕ x ⊗ t) (eval-digits q n p x sq sp.1 (omega arith))
      ∙ eval-times_x q c (digits K q n p) x sp.0 (digits-digits q n p sq sp.1)
      (carry-low (length q) (suc (length p)) c (digits K q n p) (digits-digits q n p sq sp.1) (λ t. absurd (omega arith))
      (subst (λ (d : ℕ). LowDigits (length q) d (digits K q n p)) (omega arith) (digits_low q n p sq sp.1))
      (omega (arith, ap (λ (t : ℕ). t * length q) (length_digits K q n p))))
