-- The writer's checks, stage by stage; and that what was written is accepted and gives back what was written. Assumes nothing.
use Rattle.std.specs.Prelude.{◌≡◌, refl, ◌⊎◌, List, ◌++◌, ℕ, ◌^◌, ◌<◌, length}
use Rattle.std.proofs.Common.{inl, inr, arith}
use Rattle.lists.specs.All.{below_stable}
use Rattle.lists.specs.Answers.{Checks, Answers, Passes, Numbered, answers-after, refused_first, passes-each, numbered_append}
use Rattle.lists.specs.Decides.{equal_stable}
use Rattle.field.specs.Binary.{degree}
use Rattle.space.specs.Setting.{setting_checks}
use Rattle.space.specs.Sound.{sound, sound_passes, setting_numbered}
use Rattle.proximity.specs.Dim.{S}
use Rattle.stored.specs.File.{Carries, file_of, file_end}
use Rattle.stored.specs.Reader.{file_checks}
use Rattle.stored.specs.Whole.{Delivery, Gives}
use Rattle.stored.proofs.Written.{file_accepted, file_gives}
use Rattle.stored.specs.declared.Form.{Form}
use Rattle.filing.specs.Writer.{length_checks, range_checks, writer_checks}

module _ (form : Form) (m : ℕ) (bs : List ℕ) (σ : ℕ) (w π : List ℕ) (out : ℕ) where
  abbrev setting : Checks
  setting = setting_checks m bs σ

  abbrev lengths : Checks
  lengths = length_checks form (degree m) (length bs) (length w) (length π) out

  abbrev ranges : Checks
  ranges = range_checks m w π

  length_numbered : Numbered lengths
  length_numbered = (omega arith, tt)

  pub setting_refused : (n : ℕ) → 0 < n → Answers setting n → Answers (writer_checks form m bs σ w π out) n
  setting_refused n l a = refused_first (setting ++ lengths) ranges n l (refused_first setting lengths n l a)

  pub length_refused : Passes setting → (n : ℕ) → 0 < n → Answers lengths n → Answers (writer_checks form m bs σ w π out) n
  length_refused p n l a = refused_first (setting ++ lengths) ranges n l (answers-after setting lengths n (setting_numbered m bs σ) p a)

  pub range_answer : Passes setting → Passes lengths → (n : ℕ) → Answers ranges n → Answers (writer_checks form m bs σ w π out) n
  range_answer p q n a =
      answers-after (setting ++ lengths) ranges n (numbered_append setting lengths (setting_numbered m bs σ) length_numbered)
      (answers-after setting lengths 0 (setting_numbered m bs σ) p q) a

  -- what passed can be written
  pub writer_passed : Passes (writer_checks form m bs σ w π out) → Delivery m bs σ w π × (out ≡ file_end form (degree m) (length bs))
  writer_passed p = go (passes-each setting lengths (setting_numbered m bs σ) parts.0) parts.1
    where
      parts : Passes (setting ++ lengths) × Passes ranges
      parts = passes-each (setting ++ lengths) ranges (numbered_append setting lengths (setting_numbered m bs σ) length_numbered) p

      go : Passes setting × Passes lengths → Passes ranges → Delivery m bs σ w π × (out ≡ file_end form (degree m) (length bs))
      go (a, inl b) r = absurd (omega arith)
      go (a, inr b) (inl r) = absurd (omega arith)
      go (a, inr (b, z)) (inr (r, y)) = (
        record {
          setting = sound m bs σ a;
          word = equal_stable (length w) (2 ^ length bs) (λ n. b (inl n));
          proof = equal_stable (length π) (S (length bs)) (λ n. b (inr (inl n)));
          word-symbols = below_stable (2 ^ degree m) w (λ n. r (λ t. n t.0));
          proof-symbols = below_stable (2 ^ degree m) π (λ n. r (λ t. n t.1));
        },
        equal_stable out (file_end form (degree m) (length bs)) (λ n. b (inr (inr n))),
      )

  -- and what can be written passes
  pub writer_passes : Delivery m bs σ w π → out ≡ file_end form (degree m) (length bs) → Passes (writer_checks form m bs σ w π out)
  writer_passes d e = range_answer (sound_passes m bs σ d.setting) (inr (fits, refl)) 0 (inr ((λ n. n (d.word-symbols, d.proof-symbols)), refl))
    where
      fits : (length w ≡ 2 ^ length bs → ⊥) ⊎ ((length π ≡ S (length bs) → ⊥) ⊎ (out ≡ file_end form (degree m) (length bs) → ⊥)) → ⊥
      fits (inl n) = n d.word
      fits (inr (inl n)) = n d.proof
      fits (inr (inr n)) = n e

  -- reading what was written gives it back
  pub written_back : Passes (writer_checks form m bs σ w π out) → Carries form σ → Passes (file_checks (file_of form m bs σ w π)) × Gives (file_of form m bs σ w π) form m bs σ w π
  written_back p c = let d = (writer_passed p).0 in (file_accepted form m bs σ w π d c, file_gives form m bs σ w π d c)
