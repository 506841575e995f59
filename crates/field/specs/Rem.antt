-- Division with remainder of polynomials over GF(2), by a polynomial m that is not 0. Assumes nothing.
use Rattle.std.specs.Prelude.{◌≡◌, refl, ◌⊎◌, Bool, cond, ℕ, suc, ◌+◌, ◌*◌, ◌/◌, ◌%◌, ◌^◌, ◌≤◌, ◌<◌}
use Rattle.std.proofs.Common.{sym, ap, ap₂, ◌∙◌, subst, inl, inr, le_trans, lt_of_lt_of_le, lt_irrefl, mod-lt, zero-lt-suc, pow-suc, eq-zero-or-pos, arith, le-leb, pow_pos, pow_mono}
use Rattle.std.proofs.Math.Decide.{dec_le}
use Rattle.std.proofs.lemmas.Bool.{lt-leb}
use Rattle.std.proofs.Math.Arith.{bin_ind}
use Rattle.field.specs.Binary.{◌⊕◌, clmul, degree, reduce, rem}
use Rattle.field.specs.Xor.{xor-laws, xor_assoc, xor_zero_left, xor_zero_right, xor_swap, xor_move, xor_low, xor_digits, xor_double, xor_below, xor_zero→eq}
use Rattle.field.specs.Clmul.{horner-step, clmul-zero-left, clmul-one-left, clmul_xor_left, clmul_double_left, clmul_comm, clmul_assoc}
use Rattle.field.specs.Degree.{degree-right, xor_same-degree, clmul-degree}

pub le-or-lt : (a b : ℕ) → (a ≤ b) ⊎ (b < a)
le-or-lt a b = elim (dec_le a b) [ yes h ↦ inl h | no h ↦ inr (omega arith) ]

pub rem-zero : (m : ℕ) → rem m 0 ≡ 0
unfolding rem
rem-zero m = refl

-- ---- one step

pub reduce-high : (m : ℕ) {r : ℕ} → 2 ^ degree m ≤ r → reduce m r ≡ r ⊕ m
unfolding reduce
reduce-high m {r} h = ap (λ (b : Bool). cond b (r ⊕ m) r) (le-leb (2 ^ degree m) r h)

pub reduce-low : (m : ℕ) {r : ℕ} → r < 2 ^ degree m → reduce m r ≡ r
unfolding reduce
reduce-low m {r} h = ap (λ (b : Bool). cond b (r ⊕ m) r) (lt-leb (2 ^ degree m) r h)

pub rem-step : (m v : ℕ) → rem m v ≡ reduce m (rem m (v / 2) * 2 + v % 2)
unfolding rem
rem-step m = horner-step (λ r d. reduce m (r * 2 + d)) (reduce-low m (pow_pos (degree m)))

module _ (m : ℕ) (pos : 0 < m) where
  pub reduce-below : (r : ℕ) → r < 2 ^ suc (degree m) → reduce m r < 2 ^ degree m
  reduce-below r h = go (le-or-lt (2 ^ degree m) r)
    where
      go : (2 ^ degree m ≤ r) ⊎ (r < 2 ^ degree m) → reduce m r < 2 ^ degree m
      go (inl l) = subst (λ (x : ℕ). x < 2 ^ degree m) (sym (reduce-high m l)) (xor_same-degree (record { low = l; high = h }) (degree-right m pos))
      go (inr l) = subst (λ (x : ℕ). x < 2 ^ degree m) (sym (reduce-low m l)) l

  -- the step takes a multiple of m away
  reduce_divides : (r : ℕ) → (c : ℕ) × (r ≡ clmul c m ⊕ reduce m r)
  reduce_divides r = go (le-or-lt (2 ^ degree m) r)
    where
      go : (2 ^ degree m ≤ r) ⊎ (r < 2 ^ degree m) → (c : ℕ) × (r ≡ clmul c m ⊕ reduce m r)
      go (inl l) = (1, simp (reduce-high m l, clmul-one-left, xor-laws))
      go (inr l) = (0, simp (reduce-low m l, clmul-zero-left, xor-laws))

  -- ---- the remainder

  pub rem_below : (v : ℕ) → rem m v < 2 ^ degree m
  rem_below =
      bin_ind (λ (v : ℕ). rem m v < 2 ^ degree m) (subst (λ (x : ℕ). x < 2 ^ degree m) (sym (rem-zero m)) (pow_pos (degree m)))
      (λ v ih. subst (λ (x : ℕ). x < 2 ^ degree m) (sym (rem-step m v))
      (reduce-below (rem m (v / 2) * 2 + v % 2) (omega (arith, ih, pow-suc 2 (degree m)))))

  -- ---- division

  -- a quotient of v from one of its half
  quotient_step : (v q r c s : ℕ) → v / 2 ≡ clmul q m ⊕ r → r * 2 + v % 2 ≡ clmul c m ⊕ s → v ≡ clmul (q * 2 ⊕ c) m ⊕ s
  quotient_step v q r c s e f =
      sym (xor_digits v) ∙ ap (λ (x : ℕ). x * 2 ⊕ v % 2) e ∙ ap (λ (x : ℕ). x ⊕ v % 2) (sym (xor_double (clmul q m) r))
      ∙ xor_assoc (clmul q m * 2) (r * 2) (v % 2)
      ∙ ap (λ (x : ℕ). clmul q m * 2 ⊕ x) (xor_low r (v % 2) (mod-lt v (zero-lt-suc 1)) ∙ f)
      ∙ sym (xor_assoc (clmul q m * 2) (clmul c m) s)
      ∙ ap (λ (x : ℕ). x ⊕ s) (sym (clmul_xor_left (q * 2) c m ∙ ap (λ (x : ℕ). x ⊕ clmul c m) (clmul_double_left q m)))

  pub divide : (v : ℕ) → (q : ℕ) × (v ≡ clmul q m ⊕ rem m v)
  divide =
      bin_ind (λ (v : ℕ). (q : ℕ) × (v ≡ clmul q m ⊕ rem m v))
      (0, simp (rem-zero, clmul-zero-left, xor_zero_left))
      (λ v d. step v d (reduce_divides (rem m (v / 2) * 2 + v % 2)))
    where
      step : (v : ℕ) → (q : ℕ) × (v / 2 ≡ clmul q m ⊕ rem m (v / 2)) → (c : ℕ) × (rem m (v / 2) * 2 + v % 2 ≡ clmul c m ⊕ reduce m (rem m (v / 2) * 2 + v % 2)) → (q : ℕ) × (v ≡ clmul q m ⊕ rem m v)
      step v d c = (d.0 * 2 ⊕ c.0, rw (rem-step m v) (quotient_step v d.0 (rem m (v / 2)) c.0 (reduce m (rem m (v / 2) * 2 + v % 2)) d.1 c.1))

  -- ---- the remainder is unique

  multiple_below : (q : ℕ) → clmul q m < 2 ^ degree m → q ≡ 0
  multiple_below q h = go (eq-zero-or-pos q)
    where
      go : (q ≡ 0) ⊎ (0 < q) → q ≡ 0
      go (inl z) = z
      go (inr p) = absurd (lt_irrefl (clmul q m) (lt_of_lt_of_le h (le_trans (pow_mono (omega arith)) (clmul-degree (degree m) (degree-right q p) (degree-right m pos)).low)))

  difference : (v a b r s : ℕ) → v ≡ a ⊕ r → v ≡ b ⊕ s → a ⊕ b ≡ r ⊕ s
  difference v a b r s e f = ap₂ ◌⊕◌ (xor_move a r (sym e)) (xor_move b s (sym f)) ∙ simp xor-laws

  pub rem_unique : (v q : ℕ) {r : ℕ} → v ≡ clmul q m ⊕ r → r < 2 ^ degree m → rem m v ≡ r
  rem_unique v q {r} e h = sym (xor_zero→eq r (rem m v) (sym apart ∙ ap (λ (x : ℕ). clmul x m) no_multiple ∙ clmul-zero-left m))
    where
      p : ℕ
      p = (divide v).0

      apart : clmul (q ⊕ p) m ≡ r ⊕ rem m v
      apart = clmul_xor_left q p m ∙ difference v (clmul q m) (clmul p m) r (rem m v) e (divide v).1

      no_multiple : q ⊕ p ≡ 0
      no_multiple = multiple_below (q ⊕ p) (subst (λ (x : ℕ). x < 2 ^ degree m) (sym apart) (xor_below (degree m) h (rem_below v)))

  pub rem-small : {v : ℕ} → v < 2 ^ degree m → rem m v ≡ v
  rem-small {v} h = rem_unique v 0 (simp (clmul-zero-left, xor_zero_left)) h

  -- one step divides a number that is at most one digit too long
  pub reduce-rem : {r : ℕ} → r < 2 ^ suc (degree m) → reduce m r ≡ rem m r
  reduce-rem {r} h = sym (rem_unique r (reduce_divides r).0 (reduce_divides r).1 (reduce-below r h))

  pub rem_multiple : (q : ℕ) → rem m (clmul q m) ≡ 0
  rem_multiple q = rem_unique (clmul q m) q (simp xor_zero_right) (pow_pos (degree m))

  pub rem_xor : (a b : ℕ) → rem m (a ⊕ b) ≡ rem m a ⊕ rem m b
  rem_xor a b =
      rem_unique (a ⊕ b) ((divide a).0 ⊕ (divide b).0)
      (ap₂ ◌⊕◌ (divide a).1 (divide b).1 ∙ xor_swap (clmul (divide a).0 m) (rem m a) (clmul (divide b).0 m) (rem m b)
      ∙ ap (λ (x : ℕ). x ⊕ (rem m a ⊕ rem m b)) (sym (clmul_xor_left (divide a).0 (divide b).0 m)))
      (xor_below (degree m) (rem_below a) (rem_below b))

  -- a multiple of m leaves nothing
  rem_multiple_left : (q b : ℕ) → rem m (clmul (clmul q m) b) ≡ 0
  rem_multiple_left q b = ap (rem m) (clmul_assoc q m b ∙ ap (clmul q) (clmul_comm m b) ∙ sym (clmul_assoc q b m)) ∙ rem_multiple (clmul q b)

  pub rem-clmul-left : (a b : ℕ) → rem m (clmul (rem m a) b) ≡ rem m (clmul a b)
  rem-clmul-left a b =
      sym (ap (λ (x : ℕ). rem m (clmul x b)) (divide a).1 ∙ ap (rem m) (clmul_xor_left (clmul (divide a).0 m) (rem m a) b)
      ∙ rem_xor (clmul (clmul (divide a).0 m) b) (clmul (rem m a) b)
      ∙ ap (λ (x : ℕ). x ⊕ rem m (clmul (rem m a) b)) (rem_multiple_left (divide a).0 b) ∙ xor_zero_left (rem m (clmul (rem m a) b)))

  pub rem-clmul-right : (a b : ℕ) → rem m (clmul a (rem m b)) ≡ rem m (clmul a b)
  rem-clmul-right a b = ap (rem m) (clmul_comm a (rem m b)) ∙ rem-clmul-left b a ∙ ap (rem m) (clmul_comm b a)
