-- The one byte string of a form, and that a file converted there and back is what it was. Assumes nothing.
use Rattle.std.specs.Prelude.{◌≡◌, refl, List, [], ◌∷◌, ℕ, ◌≤◌, ◌<◌, length}
use Rattle.std.proofs.Common.{sym, ap, ◌∙◌, inl, inr, arith, pow_pos}
use Rattle.lists.specs.All.{Below}
use Rattle.lists.specs.Answers.{Checks, Answers, Passes, Numbered, answers-after, refused_first, passes-each, numbered_append}
use Rattle.lists.specs.Decides.{equal_stable}
use Rattle.field.specs.Binary.{degree}
use Rattle.space.specs.Fits.{sound_fits}
use Rattle.stored.proofs.Accepted.{file_numbered, accepted}
use Rattle.stored.specs.File.{Carries, file_of, file_end, file_limit, form_in, modulus_in, degree_in, dim_in, basis_in, shift_in, word_in, proof_in}
use Rattle.stored.specs.Passed.{length_basis}
use Rattle.stored.specs.Reader.{file_checks}
use Rattle.stored.specs.Short.{small-file, short-file}
use Rattle.stored.specs.Whole.{Delivery, Gives}
use Rattle.stored.proofs.Whole.{accepted_delivery, accepted_file}
use Rattle.stored.proofs.Written.{length_file, file_accepted, file_gives}
use Rattle.stored.specs.declared.Form.{Form}
use Rattle.stored.specs.declared.Form.TheVariants.{One, Two}
use Rattle.filing.specs.Convert.{other, converted, converted_end, shift_checks, convert_checks}

-- a file that is accepted and gives a form, a setting, a word and a proof is the byte string of them
pub one-file : {f : List ℕ} {form : Form} {m : ℕ} {bs : List ℕ} {σ : ℕ} {w π : List ℕ} → Below 256 f → Passes (file_checks f) → Gives f form m bs σ w π → f ≡ file_of form m bs σ w π
one-file {f} b p g = accepted_file f b p ∙ λ i. file_of (g.form i) (g.modulus i) (g.basis i) (g.shift i) (g.word i) (g.proof i)

other-back : (g : Form) → other (other g) ≡ g
other-back One = refl
other-back Two = refl

-- each form carries the shift 0
carries_none : (g : Form) → Carries g 0
carries_none One = refl
carries_none Two = tt

-- ---- the file of the other form

module _ (f : List ℕ) (p : Passes (file_checks f)) where
  -- word and proof are a delivery at the shift 0 too
  unshifted : Delivery (modulus_in f) (basis_in f) 0 (word_in f) (proof_in f)
  unshifted =
      let d = accepted_delivery f p in
      let s = d.setting in
      record {
        setting = record { modulus = s.modulus; low = s.low; high = s.high; basis = s.basis; shift = pow_pos (degree (modulus_in f)) };
        word = d.word;
        proof = d.proof;
        word-symbols = d.word-symbols;
        proof-symbols = d.proof-symbols;
      }

  pub converted_accepted : Passes (file_checks (converted f))
  converted_accepted = file_accepted (other (form_in f)) (modulus_in f) (basis_in f) 0 (word_in f) (proof_in f) unshifted (carries_none (other (form_in f)))

  pub converted_gives : Gives (converted f) (other (form_in f)) (modulus_in f) (basis_in f) 0 (word_in f) (proof_in f)
  converted_gives = file_gives (other (form_in f)) (modulus_in f) (basis_in f) 0 (word_in f) (proof_in f) unshifted (carries_none (other (form_in f)))

  pub length_converted : length (converted f) ≡ converted_end f
  length_converted =
      length_file (other (form_in f)) (modulus_in f) (basis_in f) 0 (word_in f) (proof_in f) unshifted (carries_none (other (form_in f)))
      ∙ ap (file_end (other (form_in f)) (degree_in f)) (length_basis f)

  -- at the shift 0, there and back gives the first bytes
  pub there_and_back : Below 256 f → shift_in f ≡ 0 → converted (converted f) ≡ f
  there_and_back b z =
      (λ i. file_of (other (converted_gives.form i)) (converted_gives.modulus i) (converted_gives.basis i) 0 (converted_gives.word i) (converted_gives.proof i))
      ∙ ap (λ (g : Form). file_of g (modulus_in f) (basis_in f) 0 (word_in f) (proof_in f)) (other-back (form_in f))
      ∙ sym (one-file b p (record { form = refl; modulus = refl; basis = refl; shift = z; word = refl; proof = refl }))

  -- a file within the limit has its other form within the limit
  pub converted-short : length f ≤ file_limit → converted_end f ≤ file_limit
  converted-short h =
      let a = accepted f p in
      let fits : dim_in f ≤ degree_in f = omega (arith, sound_fits a.records.setting, length_basis f) in
      small-file (other (form_in f)) (degree_in f) (dim_in f) (short-file (form_in f) (degree_in f) (dim_in f) fits a.records.head.high (omega (arith, a.whole)))

-- ---- the checks, stage by stage

module _ (f : List ℕ) where
  abbrev fourteen : Checks
  fourteen = (14, (shift_in f ≡ 0 → ⊥)) ∷ []

  pub shift_numbered : Numbered (shift_checks f)
  shift_numbered = numbered_append (file_checks f) fourteen (file_numbered f) (omega arith, tt)

  pub file_refused : (n : ℕ) → 0 < n → Answers (file_checks f) n → Answers (shift_checks f) n
  file_refused n l a = refused_first (file_checks f) fourteen n l a

  pub shift_refused : Passes (file_checks f) → (shift_in f ≡ 0 → ⊥) → Answers (shift_checks f) 14
  shift_refused p n = answers-after (file_checks f) fourteen 14 (file_numbered f) p (inl (n, refl))

  pub shift_passes : Passes (file_checks f) → shift_in f ≡ 0 → Passes (shift_checks f)
  shift_passes p z = answers-after (file_checks f) fourteen 0 (file_numbered f) p (inr ((λ g. g z), refl))

  pub shift_passed : Passes (shift_checks f) → Passes (file_checks f) × (shift_in f ≡ 0)
  shift_passed p = go (passes-each (file_checks f) fourteen (file_numbered f) p)
    where
      go : Passes (file_checks f) × Passes fourteen → Passes (file_checks f) × (shift_in f ≡ 0)
      go (q, inl a) = absurd (omega arith)
      go (q, inr (a, z)) = (q, equal_stable (shift_in f) 0 a)

  module _ (out : ℕ) where
    abbrev six : Checks
    six = (6, (out ≡ converted_end f → ⊥)) ∷ []

    pub convert_refused : (n : ℕ) → 0 < n → Answers (shift_checks f) n → Answers (convert_checks f out) n
    convert_refused n l a = refused_first (shift_checks f) six n l a

    pub convert_long : Passes (shift_checks f) → (out ≡ converted_end f → ⊥) → Answers (convert_checks f out) 6
    convert_long p n = answers-after (shift_checks f) six 6 shift_numbered p (inl (n, refl))

    pub convert_passes : Passes (shift_checks f) → out ≡ converted_end f → Passes (convert_checks f out)
    convert_passes p e = answers-after (shift_checks f) six 0 shift_numbered p (inr ((λ g. g e), refl))

    pub convert_passed : Passes (convert_checks f out) → Passes (file_checks f) × (shift_in f ≡ 0) × (out ≡ converted_end f)
    convert_passed p = go (passes-each (shift_checks f) six shift_numbered p)
      where
        go : Passes (shift_checks f) × Passes six → Passes (file_checks f) × (shift_in f ≡ 0) × (out ≡ converted_end f)
        go (q, inl a) = absurd (omega arith)
        go (q, inr (a, z)) = let s = shift_passed q in (s.0, s.1, equal_stable out (converted_end f) a)
