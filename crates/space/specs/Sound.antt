-- A setting is sound when it passes checks 1 to 5: what that says. Assumes nothing.
use Rattle.std.specs.Prelude.{◌≡◌, refl, ◌⊎◌, ◌↔◌, List, [], ◌∷◌, ℕ, ◌^◌, ◌≤◌, ◌<◌, length}
use Rattle.std.proofs.Common.{inl, inr, arith}
use Rattle.std.proofs.Math.Decide.{ℕ_discrete}
use Rattle.lists.specs.All.{Below, below_stable}
use Rattle.lists.specs.Answers.{Passes, Numbered, answers-after, passes-each}
use Rattle.field.specs.Binary.{degree}
use Rattle.field.specs.Calls.{modulus_numbered}
use Rattle.field.specs.Checks.{modulus_checks, GoodModulus, modulus_passed, good_passes, not-less}
use Rattle.field.specs.Laws.{IsField}
use Rattle.field.specs.Symbols.{symbols, symbols-field}
use Rattle.poly.specs.Codeword.{Basis}
use Rattle.poly.specs.Span.{Independent}
use Rattle.space.specs.Setting.{basis_checks, span_checks, space_checks, setting_checks}
use Rattle.space.specs.Sizes.{max_dim}

pub record Sound (m : ℕ) (bs : List ℕ) (σ : ℕ) : Type 0 where
  pub modulus : GoodModulus m
  pub low : 3 ≤ length bs
  pub high : length bs ≤ max_dim
  pub basis : Basis (symbols m) (length bs) bs
  pub shift : (symbols m).Sym σ

-- what checks 3 and 4 say
pub record Bounded (m : ℕ) (bs : List ℕ) (σ : ℕ) : Type 0 where
  pub low : 3 ≤ length bs
  pub high : length bs ≤ max_dim
  pub elements : Below (2 ^ degree m) bs
  pub shift : σ < 2 ^ degree m

pub basis_numbered : (m : ℕ) (bs : List ℕ) (σ : ℕ) → Numbered (basis_checks m bs σ)
basis_numbered m bs σ = (omega arith, (omega arith, (omega arith, tt)))

pub setting_numbered : (m : ℕ) (bs : List ℕ) (σ : ℕ) → Numbered (setting_checks m bs σ)
setting_numbered m bs σ = (omega arith, (omega arith, (omega arith, (omega arith, (omega arith, (omega arith, tt))))))

pub outside : {n : ℕ} → 3 ≤ n → n ≤ max_dim → (n < 3) ⊎ (max_dim < n) → ⊥
outside {n} l h (inl a) = omega arith
outside {n} l h (inr a) = omega arith

pub bounded : (m : ℕ) (bs : List ℕ) (σ : ℕ) → Passes (basis_checks m bs σ) → Bounded m bs σ
bounded m bs σ (inl a) = absurd (omega arith)
bounded m bs σ (inr (a, inl b)) = absurd (omega arith)
bounded m bs σ (inr (a, inr (b, inl c))) = absurd (omega arith)
bounded m bs σ (inr (a, inr (b, inr c))) =
    record { low = not-less (λ h. a (inl h)); high = not-less (λ h. a (inr h)); elements = below_stable (2 ^ degree m) bs b; shift = (below_stable (2 ^ degree m) (σ ∷ []) (λ f. c.0 (λ h. f (h, tt)))).0 }

module _ (m : ℕ) (bs : List ℕ) (σ : ℕ) where
  independent_stable : ((Independent (symbols m) bs → ⊥) → ⊥) → Independent (symbols m) bs
  independent_stable f i h e = by (ℕ_discrete i 0)
    where
      by : Dec (i ≡ 0) → i ≡ 0
      by (yes z) = z
      by (no n) = absurd (f (λ ind. n (ind i h e)))

  pub sound : Passes (setting_checks m bs σ) → Sound m bs σ
  sound p =
      let parts = passes-each (modulus_checks m) (space_checks m bs σ) (modulus_numbered m) p in
      let two = passes-each (basis_checks m bs σ) (span_checks m bs) (basis_numbered m bs σ) parts.1 in
      go (modulus_passed m parts.0) (bounded m bs σ two.0) two.1
    where
      go : GoodModulus m → Bounded m bs σ → Passes (span_checks m bs) → Sound m bs σ
      go g b (inl a) = absurd (omega arith)
      go g b (inr a) = record { modulus = g; low = b.low; high = b.high; basis = record { count = refl; elements = b.elements; independent = independent_stable a.0 }; shift = b.shift }

  pub sound_passes : Sound m bs σ → Passes (setting_checks m bs σ)
  sound_passes s =
      answers-after (modulus_checks m) (space_checks m bs σ) 0 (modulus_numbered m) (good_passes m s.modulus)
      (inr (outside s.low s.high, inr ((λ f. f s.basis.elements), inr ((λ f. f s.shift), inr ((λ f. f s.basis.independent), refl)))))

  pub sound_iff : Passes (setting_checks m bs σ) ↔ Sound m bs σ
  sound_iff = (sound, sound_passes)

-- the field of a sound setting
pub sound_field : {m : ℕ} {bs : List ℕ} {σ : ℕ} → Sound m bs σ → IsField (symbols m)
sound_field {m} s = symbols-field m s.modulus.irreducible
