-- What a caller of `check` knows: of a setting that passed, and of a refusal. Assumes nothing.
use Rattle.std.specs.Prelude.{◌≡◌, refl, List, ◌++◌, ℕ, ◌^◌, ◌<◌, length, Result, Ok, Err}
use Rattle.std.proofs.Common.{sym, subst, arith}
use Rattle.std.proofs.Math.Path.{ap}
use Rattle.lists.specs.All.{Below}
use Rattle.lists.specs.Answers.{Checks, Answers, Passes, Refuses, Numbered}
use Rattle.lists.specs.Tables.{All-tab}
use Rattle.field.specs.Binary.{degree}
use Rattle.field.specs.Checks.{degree_range}
use Rattle.field.specs.Laws.{IsField}
use Rattle.field.specs.Products.{Sized}
use Rattle.field.specs.Symbols.{symbols}
use Rattle.poly.specs.Novel.{step}
use Rattle.poly.proofs.Novel.{step_sym}
use Rattle.refusals.specs.Gives.{gives-answer, gives_after, gives_first}
use Rattle.refusals.specs.Refusal.{number, answer_of}
use Rattle.refusals.specs.declared.Refusal.{Refusal}
use Rattle.space.specs.Images.{Images}
use Rattle.space.specs.Setting.{setting_checks, setting_of, steps_of, inverses_of, SettledBy, Settled}
use Rattle.space.specs.Sound.{Sound, sound, sound_field}
use Rattle.space.specs.Table.{sound_images}
use Rattle.space.specs.declared.Setting.{Setting}

-- s is the setting of the modulus m and the basis bs, which are sound with its shift
pub record Ready (m : ℕ) (bs : List ℕ) (s : Setting) : Type 0 where
  pub sound : Sound m bs s.shift
  pub modulus : s.field.modulus ≡ m
  pub sized : Sized s.field
  pub dimension : s.space.k ≡ length bs
  pub images : Images (symbols m) bs s.space.images
  pub steps : s.steps ≡ steps_of (symbols m) bs
  pub inverses : s.inverses ≡ inverses_of (symbols m) bs

ready_setting : {m : ℕ} {bs : List ℕ} {σ : ℕ} → Sound m bs σ → Ready m bs (setting_of m bs σ)
unfolding setting_of
ready_setting {m} {bs} s =
    let d = degree_range m s.modulus in
    record {
      sound = s;
      modulus = refl;
      sized = record { right = refl; positive = omega (arith, d.0); small = d.1 };
      dimension = refl;
      images = sound_images s;
      steps = refl;
      inverses = refl;
    }

-- ---- one table of checks after another

module _ (cs ds : Checks) (m : ℕ) (bs : List ℕ) (σ : ℕ) where
  pub settled_after : (r : Result Setting Refusal) → Numbered cs → Passes cs → SettledBy ds m bs σ r → SettledBy (cs ++ ds) m bs σ r
  settled_after = gives_after (λ s. s ≡ setting_of m bs σ) cs ds

  pub settled_first : (e : Refusal) → Refuses cs (number e) → SettledBy (cs ++ ds) m bs σ (Err e)
  settled_first = gives_first (λ s. s ≡ setting_of m bs σ) cs ds

module _ (m : ℕ) (bs : List ℕ) (σ : ℕ) where
  pub ready : (s : Setting) → Settled m bs σ (Ok s) → Ready m bs s
  ready s (p, e) = subst (Ready m bs) (sym e) (ready_setting (sound m bs σ p))

  pub settled_shift : (s : Setting) → Settled m bs σ (Ok s) → s.shift ≡ σ
  unfolding setting_of
  settled_shift s (p, e) = ap (λ (s : Setting). s.shift) e

  pub settled_answer : (r : Result Setting Refusal) → Settled m bs σ r → Answers (setting_checks m bs σ) (answer_of r)
  settled_answer = gives-answer (λ s. s ≡ setting_of m bs σ) (setting_checks m bs σ)

-- the steps and their inverses are symbols
module _ {m : ℕ} {bs : List ℕ} {s : Setting} (r : Ready m bs s) where
  pub steps-below : Below (2 ^ degree m) s.steps
  steps-below = subst (Below (2 ^ degree m)) (sym r.steps) (All-tab (λ (x : ℕ). x < 2 ^ degree m) 16 (step (symbols m) bs) (λ j h. step_sym F bs r.sound.basis.elements j))
    where
      F : IsField (symbols m)
      F = sound_field r.sound

  pub inverses_below : Below (2 ^ degree m) s.inverses
  inverses_below =
      subst (Below (2 ^ degree m)) (sym r.inverses)
      (All-tab (λ (x : ℕ). x < 2 ^ degree m) 16 (λ j. (symbols m).inv (step (symbols m) bs j)) (λ j h. F.sym_inv (step_sym F bs r.sound.basis.elements j)))
    where
      F : IsField (symbols m)
      F = sound_field r.sound
