-- The result of a division, and one step of a long division. Assumes nothing.
use Rattle.std.specs.Prelude.{◌≡◌, ◌⊎◌, ℕ, zero, suc, ◌+◌, ◌*◌, ◌/◌, ◌%◌, ◌^◌, ◌≤◌, ◌<◌}
use Rattle.std.proofs.Common.{sym, ap, ◌∙◌, subst, inl, inr, pow-suc, mul-one, one-mul, zero-mul, add-zero, add-suc, mul_assoc, mod-eq_of_lt, eq-zero-or-pos, lt_of_lt_of_le, add-one, arith, pow_mono, pow_pos}
use Rattle.std.proofs.Math.Nat.{div-eq_of_lt, div-eq_of_lt-le}
use Rattle.std.specs.Int.Count.{count_leading_zeros}
use Rattle.std.proofs.lemmas.Nat.{leading_top}
use Rattle.std.proofs.Math.Pow.{pow-lt}
use Rattle.field.specs.Binary.{◌⊕◌, clmul, degree, rem}
use Rattle.field.specs.Xor.{xor-laws, xor_zero_right}
use Rattle.field.specs.Clmul.{clmul-zero-left, clmul-one-left, clmul_xor_left, clmul_double_left}
use Rattle.field.specs.Degree.{HasDegree, degree-right, degree_unique, degree-below, double_degree, xor_same-degree}
use Rattle.field.specs.Rem.{le-or-lt, rem_unique}

-- q is a quotient of v by d, and r the remainder
pub record Divided (v d q r : ℕ) : Type 0 where
  pub remainder : r ≡ rem d v
  pub whole : v ≡ clmul q d ⊕ r

-- ---- the degree, of 0 too

pub degree-high : (v : ℕ) → v < 2 ^ (degree v + 1)
degree-high v = go (eq-zero-or-pos v)
  where
    go : (v ≡ 0) ⊎ (0 < v) → v < 2 ^ (degree v + 1)
    go (inl z) = omega (arith, pow_pos (degree v + 1))
    go (inr p) = rw (add-one (degree v)) (degree-right v p).high

pub degree-less : (v j : ℕ) → 0 < j → v < 2 ^ j → degree v < j
unfolding degree
degree-less v j l h = go (eq-zero-or-pos v)
  where
    go : (v ≡ 0) ⊎ (0 < v) → degree v < j
    go (inl z) = rw z l
    go (inr p) = degree-below j (degree-right v p) h

-- ---- the degree by leading zeros

pub leading-degree : (v : ℕ) → 0 < v → v < 2 ^ 32 → count_leading_zeros 32 v + suc (degree v) ≡ 32
leading-degree v p h =
    let t = leading_top 32 v p h in
    omega (arith, t.1, degree_unique (degree-right v p) (record { low = t.2; high = t.3 }))

-- ---- shifted polynomials

pub clmul_shift : (a b s : ℕ) → clmul (a * 2 ^ s) b ≡ clmul a b * 2 ^ s
clmul_shift a b zero = ap (λ (x : ℕ). clmul x b) (mul-one a) ∙ sym (mul-one (clmul a b))
clmul_shift a b (suc s) =
    ap (λ (x : ℕ). clmul x b) (next a) ∙ clmul_double_left (a * 2 ^ s) b ∙ ap (λ (x : ℕ). x * 2) (clmul_shift a b s) ∙ sym (next (clmul a b))
  where
    next : (x : ℕ) → x * 2 ^ suc s ≡ x * 2 ^ s * 2
    next x = ap (λ (p : ℕ). x * p) (pow-suc 2 s) ∙ sym (mul_assoc x (2 ^ s) 2)

pub shift_degree : {a i : ℕ} (s : ℕ) → HasDegree a i → HasDegree (a * 2 ^ s) (i + s)
shift_degree {a} {i} zero d = rw (mul-one a, add-zero i) d
shift_degree {a} {i} (suc s) d =
    rw (pow-suc 2 s, ← mul_assoc a (2 ^ s) 2, add-suc i s) (double_degree (shift_degree s d))

-- ---- one step: the bit at the place j of x is taken away with a multiple of d

module _ (d : ℕ) (pos : 0 < d) where
  -- the bit t, times the shifted divisor
  bit_multiple : (t s : ℕ) → t < 2 → clmul (t * 2 ^ s) d ≡ t * (d * 2 ^ s)
  bit_multiple zero s h = clmul_shift 0 d s ∙ simp (clmul-zero-left, zero-mul)
  bit_multiple (suc zero) s h = clmul_shift 1 d s ∙ simp (clmul-one-left, one-mul)
  bit_multiple (suc (suc t)) s h = absurd (omega arith)

  pub step-whole : (v q x t s : ℕ) → t < 2 → v ≡ clmul q d ⊕ x → v ≡ clmul (q ⊕ t * 2 ^ s) d ⊕ (x ⊕ t * (d * 2 ^ s))
  step-whole v q x t s h e =
      e ∙ sum (clmul q d) x (t * (d * 2 ^ s))
      ∙ ap (λ (y : ℕ). clmul q d ⊕ y ⊕ (x ⊕ t * (d * 2 ^ s))) (sym (bit_multiple t s h))
      ∙ ap (λ (y : ℕ). y ⊕ (x ⊕ t * (d * 2 ^ s))) (sym (clmul_xor_left q (t * 2 ^ s) d))
    where
      sum : (a b c : ℕ) → a ⊕ b ≡ a ⊕ c ⊕ (b ⊕ c)
      sum a b c = simp xor-laws

  pub step-below : (x j s : ℕ) → j ≡ degree d + s → x < 2 ^ suc j → x ⊕ x / 2 ^ j % 2 * (d * 2 ^ s) < 2 ^ j
  step-below x j s e h = go (le-or-lt (2 ^ j) x)
    where
      Less : ℕ → Type 0
      Less t = x ⊕ t * (d * 2 ^ s) < 2 ^ j

      shifted : HasDegree (d * 2 ^ s) j
      shifted = subst (λ (k : ℕ). HasDegree (d * 2 ^ s) k) (sym e) (shift_degree s (degree-right d pos))

      go : (2 ^ j ≤ x) ⊎ (x < 2 ^ j) → Less (x / 2 ^ j % 2)
      go (inl l) =
          let one : x / 2 ^ j ≡ 1 = div-eq_of_lt-le (2 ^ j) (omega arith) (omega (arith, pow-suc 2 j)) in
          let bit : x / 2 ^ j % 2 ≡ 1 = omega arith in
          rw (bit, one-mul (d * 2 ^ s)) (xor_same-degree (record { low = l; high = h }) shifted)
      go (inr l) =
          let none : x / 2 ^ j ≡ 0 = div-eq_of_lt l in
          let bit : x / 2 ^ j % 2 ≡ 0 = omega arith in
          rw (bit, zero-mul (d * 2 ^ s), xor_zero_right x) l

  shifted-small : (j s : ℕ) → j ≡ degree d + s → j < 17 → d * 2 ^ s < 131072
  shifted-small j s e h =
      lt_of_lt_of_le (shift_degree s (degree-right d pos)).high (pow_mono {j = 17} (omega arith))

  pub bit_shifted-small : (t j s : ℕ) → t < 2 → j ≡ degree d + s → j < 17 → t * (d * 2 ^ s % 4294967296) < 131072
  bit_shifted-small zero j s b e h = omega (arith, zero-mul (d * 2 ^ s % 4294967296))
  bit_shifted-small (suc zero) j s b e h = omega (arith, one-mul (d * 2 ^ s % 4294967296), shifted-small j s e h)
  bit_shifted-small (suc (suc t)) j s b e h = absurd (omega arith)

  -- the step as the code makes it, on 32 bits: nothing is cut off
  pub turn : (v q x j s : ℕ) → j ≡ degree d + s → j < 17 → x < 2 ^ suc j → v ≡ clmul q d ⊕ x
      → (x ⊕ x / 2 ^ j % 2 * (d * 2 ^ s % 4294967296) < 2 ^ j)
      × (v ≡ clmul (q ⊕ x / 2 ^ j % 2 * 2 ^ s % 4294967296) d ⊕ (x ⊕ x / 2 ^ j % 2 * (d * 2 ^ s % 4294967296)))
  turn v q x j s e l h w =
      let bit : x / 2 ^ j % 2 < 2 = omega arith in
      rw (mod-eq_of_lt {n = d * 2 ^ s} {m = 4294967296} (omega (arith, shifted-small j s e l)), mod-eq_of_lt {n = x / 2 ^ j % 2 * 2 ^ s} {m = 4294967296} (cut (x / 2 ^ j % 2) bit))
      (step-below x j s e h, step-whole v q x (x / 2 ^ j % 2) s bit w)
    where
      cut : (t : ℕ) → t < 2 → t * 2 ^ s < 4294967296
      cut zero b = omega (arith, zero-mul (2 ^ s))
      cut (suc zero) b = omega (arith, one-mul (2 ^ s), pow-lt {i = s} {j = 32} (omega arith))
      cut (suc (suc t)) b = absurd (omega arith)

  -- where no bit is left above the degree of d, x is the remainder
  pub divided : (v q x i : ℕ) → v ≡ clmul q d ⊕ x → x < 2 ^ i → i ≤ degree d → Divided v d q x
  divided v q x i e h l = record { remainder = sym (rem_unique d pos v q e (lt_of_lt_of_le h (pow_mono l))); whole = e }

-- ---- where trial division ends, as a shift of 2 on 32 bits

pub trials_end : (m : ℕ) → degree m < 17
    → (2 * 2 ^ (degree m / 2) % 4294967296 ≡ 2 ^ (degree m / 2 + 1)) × (2 * 2 ^ (degree m / 2) % 4294967296 ≤ 512)
trials_end m h = (omega (arith, next, small), omega (arith, next, small))
  where
    next : 2 ^ (degree m / 2 + 1) ≡ 2 ^ (degree m / 2) * 2
    next = rw (add-one (degree m / 2), pow-suc 2 (degree m / 2))

    small : 2 ^ (degree m / 2 + 1) ≤ 512
    small = pow_mono {j = 9} (omega arith)
