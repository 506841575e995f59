-- What a message that passes its checks holds, and the answers on the way. Assumes nothing.
use Rattle.std.specs.Prelude.{◌≡◌, refl, ◌⊎◌, false, Result, Ok, Err, List, [], ◌∷◌, ℕ, ◌-◌, ◌^◌, ◌≤◌, ◌<◌, length}
use Rattle.std.proofs.Common.{ap, ◌∙◌, sym, inl, inr, arith}
use Rattle.lists.specs.Answers.{Checks, Answers, Passes, Numbered, answers-after, refused_first, passes-each}
use Rattle.refusals.specs.declared.Refusal.{Refusal}
use Rattle.field.specs.Binary.{degree}
use Rattle.field.specs.Checks.{not-less}
use Rattle.space.specs.Fits.{sound_fits}
use Rattle.space.specs.Ready.{settled_first}
use Rattle.space.specs.Setting.{SettledBy}
use Rattle.space.specs.declared.Setting.{Setting}
use Rattle.stored.proofs.Accepted.{setting_numbered, setting-passed, setting_ready, setting_dimension}
use Rattle.stored.specs.File.{Carries, layout_of, file_limit, form_in, modulus_in, degree_in, dim_in, basis_in, shift_at, shift_in, end_in}
use Rattle.stored.specs.Packed.{length_numbers}
use Rattle.stored.specs.Passed.{length_basis}
use Rattle.stored.proofs.Passed.{record_numbered, record_passed}
use Rattle.stored.specs.Reader.{setting_checks, record_checks, SettingRead}
use Rattle.stored.specs.Short.{short-file}
use Rattle.stored.specs.declared.Form.{Form}
use Rattle.stored.specs.declared.Form.TheVariants.{One, Two}
use Rattle.stored.specs.declared.Layout.{Layout}
use Rattle.delivery.specs.Parts.{Coefficients, Passed}
use Rattle.delivery.specs.Message.{coefficient_record_at, coefficients_at, message_end, coefficients_in, room_checks, coefficient_checks, rest_checks, message_checks}

-- the form of a message carries its shift
pub message_carries : (t : List ℕ) → Carries (form_in t) (shift_in t)
unfolding shift_in
message_carries t = by (form_in t)
  where
    by : (form : Form) → Carries form (shift_at form t)
    by One = refl
    by Two = tt

-- ---- check 6

module _ (end room : ℕ) where
  pub room_numbered : Numbered (room_checks end room)
  room_numbered = (omega arith, tt)

  pub room-right : end ≤ file_limit → end ≤ room → Passes (room_checks end room)
  room-right a b = inr (neither, refl)
    where
      neither : (file_limit < end) ⊎ (room < end) → ⊥
      neither (inl h) = omega arith
      neither (inr h) = omega arith

  pub room-passed : Passes (room_checks end room) → (end ≤ file_limit) × (end ≤ room)
  room-passed (inl a) = absurd (omega arith)
  room-passed (inr (n, z)) = (not-less (λ h. n (inl h)), not-less (λ h. n (inr h)))

-- ---- the coefficient record

module _ (form : Form) (t : List ℕ) (k l : ℕ) where
  abbrev held : Checks
  held = record_checks false t (coefficient_record_at form k) 67 79 (2 ^ (k - 3)) l

  abbrev last : Checks
  last = (12, message_end form k < length t) ∷ []

  held_numbered : Numbered held
  held_numbered = record_numbered false t (coefficient_record_at form k) 67 79 (2 ^ (k - 3)) l

  pub record_refused : (n : ℕ) → 0 < n → Answers held n → Answers (coefficient_checks form t k l) n
  record_refused n h a = refused_first held last n h a

  pub record_after : (n : ℕ) → Passes held → Answers last n → Answers (coefficient_checks form t k l) n
  record_after n p a = answers-after held last n held_numbered p a

-- ---- the message

module _ (t : List ℕ) (room : ℕ) where
  abbrev form : Form
  form = form_in t

  abbrev k : ℕ
  k = dim_in t

  abbrev l : ℕ
  l = degree_in t

  pub room_refused : (n : ℕ) → 0 < n → Answers (room_checks (end_in t) room) n → Answers (rest_checks t room) n
  room_refused n h a = refused_first (room_checks (end_in t) room) (coefficient_checks form t k l) n h a

  pub coefficient-answer : (n : ℕ) → Passes (room_checks (end_in t) room) → Answers (coefficient_checks form t k l) n → Answers (rest_checks t room) n
  coefficient-answer n q a = answers-after (room_checks (end_in t) room) (coefficient_checks form t k l) n (room_numbered (end_in t) room) q a

  pub rest-answer : (n : ℕ) → Passes (setting_checks t) → Answers (rest_checks t room) n → Answers (message_checks t room) n
  rest-answer n p a = answers-after (setting_checks t) (rest_checks t room) n (setting_numbered t) p a

  pub message_passed : Passes (message_checks t room) → Passed t × (end_in t ≤ room)
  message_passed p =
      let one = passes-each (setting_checks t) (rest_checks t room) (setting_numbered t) p in
      let two = passes-each (room_checks (end_in t) room) (coefficient_checks form t k l) (room_numbered (end_in t) room) one.1 in
      let three = passes-each (held form t k l) (last form t k l) (held_numbered form t k l) two.1 in
      let h = setting-passed t one.0 in
      let r = room-passed (end_in t) room two.0 in
      let fits : k ≤ l = omega (arith, length_basis t, sound_fits h.1) in (
        record {
          head = h.0;
          setting = record { sound = h.1; few = omega (arith, length_basis t, short-file form l k fits h.0.high r.0) };
          coefficients = record_passed false t (coefficient_record_at form k) 67 79 (2 ^ (k - 3)) l three.0;
        },
        r.1,
      )

-- ---- the setting of a message, or the check that refuses it

module _ (t : List ℕ) (room : ℕ) where
  abbrev Settled : Checks → Result Setting Refusal → Type 0
  Settled cs = SettledBy cs (modulus_in t) (basis_in t) (shift_in t)

  pub setting_refused : (e : Refusal) → Settled (setting_checks t) (Err e) → Settled (message_checks t room) (Err e)
  setting_refused = settled_first (setting_checks t) (rest_checks t room) (modulus_in t) (basis_in t) (shift_in t)

  pub message_read : (s : Setting) → Settled (message_checks t room) (Ok s) → Passes (message_checks t room) × SettingRead t s
  message_read s (p, e) = (p, ((passes-each (setting_checks t) (rest_checks t room) (setting_numbered t) p).0, e))

-- where the stored file ends, by the layout of the setting that was read
pub layout-end : (t : List ℕ) (s : Setting) (form : Form) (p : Layout) → SettingRead t s → form ≡ form_in t → p ≡ layout_of form (degree s.field.modulus) s.space.k → p.end ≡ end_in t
layout-end t s _ p r g e =
    ap (λ (x : Layout). x.end) (e ∙ λ i. layout_of (g i) (degree ((setting_ready t s r).modulus i)) (setting_dimension t s r i))

-- ---- the coefficients of a message that passes

pub message_coefficients : (t : List ℕ) → Passed t → Coefficients (modulus_in t) (basis_in t) (coefficients_in t)
unfolding coefficients_in
message_coefficients t p =
    record {
      count = length_numbers false t (coefficients_at (form_in t) (dim_in t)) (2 ^ (dim_in t - 3)) ∙ ap (λ (k : ℕ). 2 ^ (k - 3)) (sym (length_basis t));
      symbols = p.coefficients.symbols;
    }
