-- What the public calls answer: checks 1, 2 and 9, and then a value.
use Rattle.std.specs.Prelude.{◌≡◌, refl, ◌⊎◌, [], ◌∷◌, ◌++◌, ℕ, ◌^◌, ◌≤◌, ◌<◌, Result}
use Rattle.std.proofs.Common.{inl, inr, lt_of_not-le, arith}
use Rattle.lists.specs.Answers.{Checks, Answers, Passes, Numbered, answers-after, passes-each}
use Rattle.field.specs.Binary.{degree}
use Rattle.field.specs.Checks.{modulus_checks, GoodModulus, modulus_passed}
use Rattle.refusals.specs.Gives.{Gives}
use Rattle.refusals.specs.declared.Refusal.{Refusal}

-- a or b is not below 2^l
abbrev pub NoSymbols : ℕ → ℕ → ℕ → Type 0
NoSymbols m a b = (2 ^ degree m ≤ a) ⊎ (2 ^ degree m ≤ b)

abbrev pub field_checks : ℕ → ℕ → ℕ → Checks
field_checks m a b = modulus_checks m ++ ((9, NoSymbols m a b) ∷ [])

-- the answer is v where the checks pass, and else the first that refuses
abbrev pub Told : Checks → ℕ → Result ℕ Refusal → Type 0
Told cs v = Gives cs (λ x. x ≡ v)

-- the numbers of checks 1 and 2
pub modulus_numbered : (m : ℕ) → Numbered (modulus_checks m)
modulus_numbered m = (omega arith, (omega arith, tt))

-- what a call that passes works on
pub record Passed (m a b : ℕ) : Type 0 where
  pub modulus : GoodModulus m
  pub first : a < 2 ^ degree m
  pub second : b < 2 ^ degree m

pub passed : (m a b : ℕ) → Passes (field_checks m a b) → Passed m a b
passed m a b p = go parts.1
  where
    parts : Passes (modulus_checks m) × Passes ((9, NoSymbols m a b) ∷ [])
    parts = passes-each (modulus_checks m) ((9, NoSymbols m a b) ∷ []) (modulus_numbered m) p

    go : Passes ((9, NoSymbols m a b) ∷ []) → Passed m a b
    go (inl s) = absurd (omega arith)
    go (inr s) =
        record { modulus = modulus_passed m parts.0; first = lt_of_not-le (λ h. s.0 (inl h)); second = lt_of_not-le (λ h. s.0 (inr h)) }

-- ---- past checks 1 and 2

module _ (m a b : ℕ) (p : Passes (modulus_checks m)) where
  pub no-symbols : NoSymbols m a b → Answers (field_checks m a b) 9
  no-symbols n = answers-after (modulus_checks m) ((9, NoSymbols m a b) ∷ []) 9 (modulus_numbered m) p (inl (n, refl))

  pub two-symbols : a < 2 ^ degree m → b < 2 ^ degree m → Passes (field_checks m a b)
  two-symbols ha hb = answers-after (modulus_checks m) ((9, NoSymbols m a b) ∷ []) 0 (modulus_numbered m) p (inr (neither, refl))
    where
      neither : NoSymbols m a b → ⊥
      neither (inl h) = omega arith
      neither (inr h) = omega arith
