-- Check 6 of two lengths and check 7 of a third. Assumes nothing.
use Rattle.std.specs.Prelude.{◌≡◌, refl, ◌⊎◌, ◌≢◌, [], ◌∷◌, ℕ, ◌≤◌, ◌<◌}
use Rattle.std.proofs.Common.{inl, inr, arith}
use Rattle.lists.specs.Answers.{Checks, Answers, Passes}
use Rattle.lists.specs.Decides.{equal_stable}

-- a is to be x, b is to be y, and s is to be t or more
module _ (a x b y s t : ℕ) where
  abbrev lengths : Checks
  lengths = (6, (a ≢ x) ⊎ (b ≢ y)) ∷ (7, s < t) ∷ []

  neither : a ≡ x → b ≡ y → (a ≢ x) ⊎ (b ≢ y) → ⊥
  neither ea eb (inl h) = h ea
  neither ea eb (inr h) = h eb

  pub six-first : a ≢ x → Answers lengths 6
  six-first h = inl (inl h, refl)

  pub six-second : b ≢ y → Answers lengths 6
  six-second h = inl (inr h, refl)

  pub seven : a ≡ x → b ≡ y → s < t → Answers lengths 7
  seven ea eb h = inr (neither ea eb, inl (h, refl))

  pub lengths-right : a ≡ x → b ≡ y → t ≤ s → Passes lengths
  lengths-right ea eb h = inr (neither ea eb, inr ((λ l. omega arith), refl))

  pub lengths-passed : Passes lengths → (a ≡ x) × (b ≡ y) × (t ≤ s)
  lengths-passed (inl p) = absurd (omega arith)
  lengths-passed (inr (n, inl p)) = absurd (omega arith)
  lengths-passed (inr (n, inr p)) = (equal_stable a x (λ f. n (inl f)), equal_stable b y (λ f. n (inr f)), omega (arith, p.0))
