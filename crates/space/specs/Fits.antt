-- The basis of a sound setting has no more elements than the modulus has degree: k ≤ l. Assumes nothing.
use Rattle.std.specs.Prelude.{◌≡◌, List, ℕ, zero, suc, ◌^◌, ◌≤◌, ◌<◌, length}
use Rattle.std.proofs.Common.{sym, ◌∙◌, arith}
use Rattle.std.proofs.Math.Decide.{ℕ_discrete, dec_le}
use Rattle.std.proofs.Math.Pow.{pow-lt}
use Rattle.field.specs.Binary.{degree}
use Rattle.field.specs.Symbols.{symbols}
use Rattle.poly.proofs.Codeword.{basis_distinct}
use Rattle.poly.specs.Poly.{Distinct}
use Rattle.poly.specs.Span.{elem}
use Rattle.poly.proofs.Span.{elem_sym}
use Rattle.space.specs.Sound.{Sound, sound_field}

-- x, or y where x is m
abbrev instead : {x m : ℕ} → Dec (x ≡ m) → ℕ → ℕ → ℕ
instead (yes e) x y = y
instead (no n) x y = x

-- n different numbers below m
distinct_fits : (n m : ℕ) (f : ℕ → ℕ) → Distinct n f → ((i : ℕ) → i < n → f i < m) → n ≤ m
distinct_fits zero m f d h = omega arith
distinct_fits (suc n) zero f d h = absurd (omega (arith, h 0 (omega arith)))
distinct_fits (suc n) (suc m) f d h = up (distinct_fits n m g differ below)
  where
    g : ℕ → ℕ
    g i = instead (ℕ_discrete (f i) m) (f i) (f n)

    up : n ≤ m → suc n ≤ suc m
    up l = omega arith

    under : (i : ℕ) → i < n → (t : Dec (f i ≡ m)) → instead t (f i) (f n) < m
    under i l (yes e) = by (ℕ_discrete (f n) m)
      where
        by : Dec (f n ≡ m) → f n < m
        by (yes z) = absurd (omega (arith, d i n (omega arith) (omega arith) (e ∙ sym z)))
        by (no z) = omega (arith, h n (omega arith))
    under i l (no e) = omega (arith, h i (omega arith))

    below : (i : ℕ) → i < n → g i < m
    below i l = under i l (ℕ_discrete (f i) m)

    apart : (i j : ℕ) → i < n → j < n → (t : Dec (f i ≡ m)) (u : Dec (f j ≡ m)) → instead t (f i) (f n) ≡ instead u (f j) (f n) → i ≡ j
    apart i j hi hj (yes e) (yes z) s = d i j (omega arith) (omega arith) (e ∙ sym z)
    apart i j hi hj (yes e) (no z) s = absurd (omega (arith, d n j (omega arith) (omega arith) s))
    apart i j hi hj (no e) (yes z) s = absurd (omega (arith, d i n (omega arith) (omega arith) s))
    apart i j hi hj (no e) (no z) s = d i j (omega arith) (omega arith) s

    differ : Distinct n g
    differ i j hi hj s = apart i j hi hj (ℕ_discrete (f i) m) (ℕ_discrete (f j) m) s

-- k ≤ l
pub sound_fits : {m : ℕ} {bs : List ℕ} {σ : ℕ} → Sound m bs σ → length bs ≤ degree m
sound_fits {m} {bs} s = by (dec_le (length bs) (degree m))
  where
    few : 2 ^ length bs ≤ 2 ^ degree m
    few =
        distinct_fits (2 ^ length bs) (2 ^ degree m) (elem (symbols m) bs) (basis_distinct (sound_field s) (length bs) bs s.basis)
        (λ i h. elem_sym (sound_field s) bs i s.basis.elements)

    by : Dec (length bs ≤ degree m) → length bs ≤ degree m
    by (yes h) = h
    by (no h) = absurd (omega (arith, few, pow-lt {i = degree m} {j = length bs} (omega arith)))
