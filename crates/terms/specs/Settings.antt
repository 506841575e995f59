-- Sound settings, and pairs that are accepted: the theorems of this crate are not about nothing.
use Rattle.std.specs.Prelude.{◌≡◌, refl, Ok, List, [], ◌∷◌, ℕ, ◌^◌, ◌-◌, ◌≤◌, ◌<◌, T, length, get_or}
use Rattle.std.proofs.Common.{sym, ap, ◌∙◌, arith}
use Rattle.lists.specs.All.{All, Below}
use Rattle.lists.specs.Tables.{tab, get_or_tab, length_tab}
use Rattle.field.specs.Binary.{◌⊕◌, degree, irreducible?}
use Rattle.field.specs.Decide.{irreducible_of_test}
use Rattle.field.specs.Symbols.{symbols}
use Rattle.poly.specs.Shift.{word_at, shift_p}
use Rattle.poly.specs.Poly.{eval}
use Rattle.poly.specs.Span.{elem}
use Rattle.space.specs.Sizes.{max_dim}
use Rattle.space.specs.Sound.{Sound}
use Rattle.proximity.specs.Cases.{basis_8, basis_16}
use Rattle.proximity.specs.Dim.{dim, R}
use Rattle.proximity.specs.Layout.{length_proof}
use Rattle.proximity.specs.Proof.{proof_of}
use Rattle.verifier.specs.Checker.{Told}
use Rattle.verifier.specs.declared.Verdict.TheVariants.{Accept}
use Rattle.terms.specs.Terms.{accepted_exactly}

-- a setting in which element i is i, for an irreducible modulus
counting_sound : (m : ℕ) (bs : List ℕ) (σ : ℕ) → σ < 2 ^ degree m → 8 ≤ m → m < 131072 → T (irreducible? m) → 3 ≤ length bs → length bs ≤ max_dim → Below (2 ^ degree m) bs
    → tab (2 ^ length bs) (elem (symbols m) bs) ≡ tab (2 ^ length bs) (λ i. i) → Sound m bs σ
counting_sound m bs σ hσ lm hm t lb hb e counts =
    record {
      modulus = record { low = lm; high = hm; irreducible = irreducible_of_test m t };
      low = lb;
      high = hb;
      basis =
          record {
            count = refl;
            elements = e;
            independent =
                λ i h z. sym (get_or_tab (2 ^ length bs) (λ j. j) i 0 h) ∙ ap (λ (l : List ℕ). get_or l i 0) (sym counts) ∙ get_or_tab (2 ^ length bs) (elem (symbols m) bs) i 0 h ∙ z;
          };
      shift = hσ;
    }

-- The setting of P5: modulus 11 with 1, 2, 4, at each shift.
pub sound_11 : (σ : ℕ) → σ < 8 → Sound 11 basis_8 σ
unfolding irreducible? degree ◌⊕◌
sound_11 σ h = counting_sound 11 basis_8 σ h (omega arith) (omega arith) tt (omega arith) (omega arith) (omega arith, (omega arith, (omega arith, tt))) refl

-- The setting of P6: modulus 19 with 1, 2, 4, 8, at each shift.
pub sound_19 : (σ : ℕ) → σ < 16 → Sound 19 basis_16 σ
unfolding irreducible? degree ◌⊕◌
sound_19 σ h = counting_sound 19 basis_16 σ h (omega arith) (omega arith) tt (omega arith) (omega arith) (omega arith, (omega arith, (omega arith, (omega arith, tt)))) refl

abbrev pub basis_128 : List ℕ
basis_128 = 1 ∷ 2 ∷ 4 ∷ 8 ∷ 16 ∷ 32 ∷ 64 ∷ []

-- A setting with rows and columns: modulus 283, the field of FIPS 197, with 1, 2, .., 64, at each shift.
pub sound_283 : (σ : ℕ) → σ < 256 → Sound 283 basis_128 σ
unfolding irreducible? degree ◌⊕◌
sound_283 σ h =
    counting_sound 283 basis_128 σ h (omega arith) (omega arith) tt (omega arith) (omega arith)
    (omega arith, (omega arith, (omega arith, (omega arith, (omega arith, (omega arith, (omega arith, tt))))))) refl

-- In every sound setting each polynomial P of degree below n/8 has a pair that is accepted at every coin: its word at the shifted elements and
-- the proof laid out for P(x + σ).
pub accepted_pair : (m : ℕ) (bs : List ℕ) (σ : ℕ) → Sound m bs σ → (P : List ℕ) → length P ≡ 2 ^ (length bs - 3) → All (symbols m).Sym P → (coin : ℕ) → coin < 2 ^ R (length bs)
    → (reads : ℕ) × Told m bs σ (word_at (symbols m) σ (length bs) bs P) (proof_of (symbols m) (dim (length bs)) bs (shift_p (symbols m) σ P)) coin (Ok (Accept reads))
accepted_pair m bs σ s P l e =
    (accepted_exactly m bs σ s _ _ (length_tab (2 ^ length bs) (λ i. eval (symbols m) P ((symbols m).◌⊕◌ σ (elem (symbols m) bs i))))
    (length_proof (symbols m) (length bs) bs (shift_p (symbols m) σ P))).1 (P, record { count = l; elements = e; word = refl; proof = refl })
