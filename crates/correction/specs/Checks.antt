-- Checks 1 to 7 as one table, and what the answers say. Assumes nothing.
use Rattle.std.specs.Prelude.{◌≡◌, Ok, List, ◌++◌, ℕ, ◌^◌, ◌≤◌, length}
use Rattle.std.proofs.Common.{arith}
use Rattle.lists.specs.Answers.{Checks, Passes, Numbered, passes-each}
use Rattle.field.specs.Symbols.{symbols}
use Rattle.space.specs.Setting.{setting_checks}
use Rattle.space.specs.Sound.{Sound, sound, sound_field, setting_numbered}
use Rattle.lists.specs.Lengths.{lengths-passed}
use Rattle.correction.specs.Calls.{length_checks, near_checks, CorrectedWord}
use Rattle.correction.specs.Near.{Near, NearAt, near_shift, one_near}
use Rattle.correction.specs.Scratch.{correction_scratch}

module _ (m : ℕ) (bs : List ℕ) (σ a b s : ℕ) where
  abbrev pub early_checks : Checks
  early_checks = setting_checks m bs σ ++ length_checks (length bs) a b s

  pub early_numbered : Numbered early_checks
  early_numbered = (omega arith, (omega arith, (omega arith, (omega arith, (omega arith, (omega arith, (omega arith, (omega arith, tt))))))))

module _ (m : ℕ) (bs : List ℕ) (σ : ℕ) (word : List ℕ) where
  -- what an answered call passed
  module _ (old new scratch left : List ℕ) (n : ℕ) (d : CorrectedWord m bs σ word old new scratch left (Ok n)) where
    setting-passed : Passes (setting_checks m bs σ) × ((length word ≡ 2 ^ length bs) × (length old ≡ 2 ^ length bs) × (correction_scratch (length bs) ≤ length scratch))
    setting-passed =
        let both = passes-each (early_checks m bs σ (length word) (length old) (length scratch)) (near_checks m bs σ word) (early_numbered m bs σ (length word) (length old) (length scratch)) d.passes in
        let first = passes-each (setting_checks m bs σ) (length_checks (length bs) (length word) (length old) (length scratch)) (setting_numbered m bs σ) both.0 in
        (first.0, lengths-passed (length word) (2 ^ length bs) (length old) (2 ^ length bs) (length scratch) (correction_scratch (length bs)) first.1)

    pub corrected_sound : Sound m bs σ
    corrected_sound = sound m bs σ setting-passed.0

    -- it is the only codeword that near
    pub only_one : (c : List ℕ) → NearAt (symbols m) σ (length bs) bs word c → c ≡ new
    only_one c near =
        one_near (sound_field corrected_sound) (length bs) corrected_sound.low bs corrected_sound.basis word setting-passed.1.0 c new (unshifted c near) (unshifted new d.right.near)
      where
        unshifted : (x : List ℕ) → NearAt (symbols m) σ (length bs) bs word x → Near (symbols m) (length bs) bs word x
        unshifted x = (near_shift (sound_field corrected_sound) σ corrected_sound.shift (length bs) bs word x).0
