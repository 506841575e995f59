-- The numbers of refused calls with their meanings: one list, which README and the C header repeat. A request that adds a number adds a row.
use Rattle.std.specs.Prelude.{◌≡◌, refl, ◌⊎◌, List, [], ◌∷◌, ℕ, suc, ◌+◌, ◌<◌, ◌≤◌, length}
use Rattle.std.proofs.Common.{inl, inr, arith}
use Prim.Native.String.{String}
use Rattle.std.proofs.Math.Decide.{ℕ_discrete}

abbrev pub numbers : List (ℕ × String)
numbers =
    (1, "the modulus is below 8 or above 131071")
    ∷ (2, "the modulus is reducible")
    ∷ (3, "the basis has fewer than 3 or more than 14 elements")
    ∷ (4, "a basis element or the shift is not below 2^l, l being the degree of the modulus")
    ∷ (5, "the basis is dependent (a zero or a repeat included)")
    ∷ (6, "a lent list has another length than the setting fixes, or a file is above its limit")
    ∷ (7, "the scratch is shorter than the call takes")
    ∷ (8, "the coin is not below 2^R")
    ∷ (9, "a symbol that the call reads is not below 2^l")
    ∷ (10, "the word given to prover or decoder is not a codeword")
    ∷ (11, "a file ends before its last record is whole, or a mark differs")
    ∷ (12, "a count is not the one that the setting fixes, or bytes follow the last record")
    ∷ (13, "no codeword differs from the word in at most 7/16 of its positions")
    ∷ (14, "a file of form 2 to be moved to form 1 has a shift other than 0")
    ∷ []

-- the rows have a row of number n
abbrev pub Among : ℕ → List (ℕ × String) → Type 0
Among n [] = ⊥
Among n ((k, m) ∷ rows) = (n ≡ k) ⊎ Among n rows

-- n is one of the numbers
abbrev pub Listed : ℕ → Type 0
Listed n = Among n numbers

-- the rows have the numbers from i on, in order: so no number has two meanings
abbrev pub InOrder : ℕ → List (ℕ × String) → Type 0
InOrder i [] = Unit {0}
InOrder i ((k, m) ∷ rows) = (k ≡ i) × InOrder (suc i) rows

-- The numbers are 1, 2, 3 and so on.
pub in_order : InOrder 1 numbers
in_order = (refl, (refl, (refl, (refl, (refl, (refl, (refl, (refl, (refl, (refl, (refl, (refl, (refl, (refl, tt))))))))))))))

among : (rows : List (ℕ × String)) (i n : ℕ) → InOrder i rows → i ≤ n → n < i + length rows → Among n rows
among [] i n o l h = absurd (omega arith)
among ((k, m) ∷ rows) i n o l h = by (ℕ_discrete n k) (among rows (suc i) n o.1)
  where
    by : Dec (n ≡ k) → (suc i ≤ n → n < suc i + length rows → Among n rows) → Among n ((k, m) ∷ rows)
    by (yes e) rest = inl e
    by (no d) rest = inr (rest (omega (arith, o.0, d)) (omega (arith, h)))

-- A number from 1 on that is not above the last is one of them.
pub listed : (n : ℕ) → 0 < n → n ≤ length numbers → Listed n
listed n l h = among numbers 1 n in_order (omega arith) (omega arith)
