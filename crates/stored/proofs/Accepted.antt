-- What an accepted file holds. Assumes nothing.
use Rattle.std.specs.Prelude.{◌≡◌, refl, Bool, Ok, Err, List, [], ◌∷◌, ℕ, ◌^◌, ◌≤◌, ◌<◌, length}
use Rattle.std.proofs.Common.{◌∙◌, inl}
use Rattle.std.proofs.Math.Path.{ap}
use Rattle.std.proofs.Math.Logic.{inr}
use native.Mathlib.Omega.{arith}
use Rattle.lists.specs.Answers.{Passes, Numbered, answers-after, passes-each, numbered_append}
use Rattle.field.specs.Calls.{modulus_numbered}
use Rattle.field.specs.Checks.{modulus_checks, good_passes, not-less}
use Rattle.space.specs.Ready.{Ready, ready}
use Rattle.space.specs.Setting.{space_checks, setting_of}
use Rattle.space.specs.Sound.{Sound, sound, sound_passes}
use Rattle.refusals.specs.Gives.{gives_first}
use Rattle.refusals.specs.declared.Refusal.{Refusal}
use Rattle.refusals.specs.declared.Refusal.TheVariants.{WrongCount}
use Rattle.space.specs.declared.Setting.{Setting}
use Rattle.proximity.specs.Dim.{S}
use Rattle.stored.specs.File.{word_mark, proof_mark, word_record_at, proof_record_at, layout_of, form_in, modulus_in, degree_in, dim_in, basis_in, shift_in, narrow_in, end_in}
use Rattle.stored.specs.Passed.{Head, length_basis, head_numbered, head_passed, head-passes, to_four}
use Rattle.stored.proofs.Passed.{record_numbered, record_passed, record_passes}
use Rattle.stored.specs.Reader.{head_checks, basis_checks, setting_checks, word_checks, proof_checks, symbol_checks, prefix_checks, file_checks, SettingRead, read_of, Told}
use Rattle.stored.specs.declared.Form.{Form}
use Rattle.stored.specs.declared.Layout.{Layout}
use Rattle.stored.specs.declared.Reading.{Reading}
use Rattle.stored.specs.Accepted.{Prefix, Accepted, Places}

pub setting_numbered : (f : List ℕ) → Numbered (setting_checks f)
setting_numbered f = (omega arith, (omega arith, (omega arith, (omega arith, (omega arith, (omega arith, (omega arith, (omega arith, tt))))))))

module _ (f : List ℕ) where
  sound_after : Head f → Passes (basis_checks f) → Sound (modulus_in f) (basis_in f) (shift_in f)
  sound_after t p =
      sound (modulus_in f) (basis_in f) (shift_in f)
      (answers-after (modulus_checks (modulus_in f)) (space_checks (modulus_in f) (basis_in f) (shift_in f)) 0
      (modulus_numbered (modulus_in f)) (good_passes (modulus_in f) t.modulus) (to_four f t p))

  pub setting-passed : Passes (setting_checks f) → Head f × Sound (modulus_in f) (basis_in f) (shift_in f)
  setting-passed p =
      let parts = passes-each (head_checks f) (basis_checks f) (head_numbered f) p in
      let t = head_passed f parts.0 in
      (t, sound_after t parts.1)

  pub setting-passes : Head f → Sound (modulus_in f) (basis_in f) (shift_in f) → Passes (setting_checks f)
  setting-passes t s =
      answers-after (head_checks f) (basis_checks f) 0 (head_numbered f) (head-passes f t)
      (inr ((λ n. n s.basis.elements), inr ((λ n. n s.shift), inr ((λ n. n s.basis.independent), refl))))

  -- the setting that was read
  pub setting_ready : (s : Setting) → SettingRead f s → Ready (modulus_in f) (basis_in f) s
  setting_ready s (p, e) = ready (modulus_in f) (basis_in f) (shift_in f) s (sound_passes (modulus_in f) (basis_in f) (shift_in f) (setting-passed p).1, e)

  pub setting_dimension : (s : Setting) → SettingRead f s → s.space.k ≡ dim_in f
  setting_dimension s r = (setting_ready s r).dimension ∙ length_basis f

  abbrev form : Form
  form = form_in f

  abbrev k : ℕ
  k = dim_in f

  abbrev l : ℕ
  l = degree_in f

  abbrev t : Bool
  t = narrow_in f

  word_numbered : Numbered (word_checks form f k l)
  word_numbered = record_numbered t f (word_record_at form k) 87 (word_mark form) (2 ^ k) l

  pub prefix-passed : Passes (prefix_checks f) → Prefix f
  prefix-passed p =
      let parts = passes-each (setting_checks f) (symbol_checks form f k l) (setting_numbered f) p in
      let two = passes-each (word_checks form f k l) (proof_checks form f k l) word_numbered parts.1 in
      record {
        head = (setting-passed parts.0).0;
        setting = (setting-passed parts.0).1;
        word = record_passed t f (word_record_at form k) 87 (word_mark form) (2 ^ k) l two.0;
        proof = record_passed t f (proof_record_at form l k) 80 (proof_mark form) (S k) l two.1;
      }

  pub prefix-passes : Prefix f → Passes (prefix_checks f)
  prefix-passes r =
      answers-after (setting_checks f) (symbol_checks form f k l) 0 (setting_numbered f) (setting-passes r.head r.setting)
      (answers-after (word_checks form f k l) (proof_checks form f k l) 0 word_numbered (record_passes t f (word_record_at form k) 87 (word_mark form) (2 ^ k) l r.word)
      (record_passes t f (proof_record_at form l k) 80 (proof_mark form) (S k) l r.proof))

  pub prefix_numbered : Numbered (prefix_checks f)
  prefix_numbered =
      numbered_append (setting_checks f) (symbol_checks form f k l) (setting_numbered f)
      (numbered_append (word_checks form f k l) (proof_checks form f k l) word_numbered (record_numbered t f (proof_record_at form l k) 80 (proof_mark form) (S k) l))

  pub file_numbered : Numbered (file_checks f)
  file_numbered = numbered_append (prefix_checks f) ((12, end_in f < length f) ∷ []) prefix_numbered (omega arith, tt)

  pub accepted : Passes (file_checks f) → Accepted f
  accepted p = go (passes-each (prefix_checks f) ((12, end_in f < length f) ∷ []) prefix_numbered p)
    where
      go : Passes (prefix_checks f) × Passes ((12, end_in f < length f) ∷ []) → Accepted f
      go (q, inl a) = absurd (omega arith)
      go (q, inr (a, z)) =
          let r = prefix-passed q in record { records = r; whole = omega (arith, not-less a, r.proof.present) }

  pub accepted_passes : Accepted f → Passes (file_checks f)
  accepted_passes a =
      answers-after (prefix_checks f) ((12, end_in f < length f) ∷ []) 0 prefix_numbered (prefix-passes a.records)
      (inr ((λ h. omega (arith, a.whole)), refl))

  -- ---- what the reader told

  -- the last check, past the records
  abbrev last : List (ℕ × Type 0)
  last = (12, end_in f < length f) ∷ []

  pub told-prefix_refused : (e : Refusal) → Told (prefix_checks f) f (Err e) → Told (file_checks f) f (Err e)
  told-prefix_refused e = gives_first (λ r. r ≡ read_of f) (prefix_checks f) last e

  module _ (r : Reading) (t : Told (prefix_checks f) f (Ok r)) where
    pub told-end : r.end ≡ end_in f
    unfolding read_of
    told-end = ap (λ (x : Reading). x.end) t.1

    pub told-longer : end_in f < length f → Told (file_checks f) f (Err WrongCount)
    told-longer h = (omega arith, answers-after (prefix_checks f) last 12 prefix_numbered t.0 (inl (h, refl)))

    pub told-whole : length f ≤ end_in f → Told (file_checks f) f (Ok r)
    told-whole h = (answers-after (prefix_checks f) last 0 prefix_numbered t.0 (inr ((λ l. omega arith), refl)), t.1)

  pub read_places : (r : Reading) → Told (file_checks f) f (Ok r) → Places f r
  unfolding read_of
  read_places r (p, e) =
      record {
        form = ap (λ (x : Reading). x.form) e;
        narrow = ap (λ (x : Reading). x.narrow) e;
        word = ap (λ (x : Reading). x.word) e;
        proof = ap (λ (x : Reading). x.proof) e;
        end = ap (λ (x : Reading). x.end) e;
        whole = (accepted p).whole;
      }

  -- the reading of the setting s with the layout p
  pub read_made : (g : Form) (s : Setting) (p : Layout) → g ≡ form → s ≡ setting_of (modulus_in f) (basis_in f) (shift_in f) → p ≡ layout_of form l k
      → record { form = g; setting = s; narrow = p.narrow; word = p.word; proof = p.proof; end = p.end } ≡ read_of f
  unfolding read_of
  read_made g s p eg es ep = λ i. record { form = eg i; setting = es i; narrow = (ep i).narrow; word = (ep i).word; proof = (ep i).proof; end = (ep i).end }
