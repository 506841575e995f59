-- What the checks of a stored file say where they pass, up to the setting, and what a record of symbols is. Assumes nothing.
use Rattle.std.specs.Prelude.{◌≡◌, refl, ◌⊎◌, Bool, false, Result, Ok, Err, List, ℕ, ◌+◌, ◌*◌, ◌^◌, ◌≤◌, ◌<◌, length, get_or}
use Rattle.std.proofs.Common.{inl, inr, arith, eq-eqb, ne_eqb}
use Rattle.std.proofs.Math.Decide.{dec_le}
use Rattle.lists.specs.All.{Below}
use Rattle.lists.specs.Answers.{Answers, Passes, Numbered, answers-after, refused_first, passes-each}
use Rattle.lists.specs.Decides.{equal_stable}
use Rattle.lists.specs.Pick.{pick_true, pick_false}
use Rattle.lists.specs.Tables.{length_tab}
use Rattle.field.specs.Calls.{modulus_numbered}
use Rattle.field.specs.Checks.{modulus_checks, GoodModulus, modulus_passed, good_passes, not-less}
use Rattle.space.specs.Ready.{settled_after}
use Rattle.space.specs.Setting.{space_checks, SettledBy}
use Rattle.space.specs.Sizes.{max_dim}
use Rattle.space.specs.Sound.{outside}
use Rattle.refusals.specs.declared.Refusal.{Refusal}
use Rattle.space.specs.declared.Setting.{Setting}
use Rattle.stored.specs.Bytes.{packed_size, four_at, number_at, numbers_at}
use Rattle.stored.specs.File.{setting_mark, word_record_at, form_in, modulus_in, dim_in, basis_in, shift_in, Opens}
use Rattle.stored.specs.Reader.{late_checks, head_checks, basis_checks, setting_checks}
use Rattle.stored.specs.declared.Form.{Form}
use Rattle.stored.specs.declared.Form.TheVariants.{One, Two}

pub opens_stable : (f : List ℕ) (p n a b : ℕ) → ((Opens f p n a b → ⊥) → ⊥) → Opens f p n a b
opens_stable f p n a b g =
    record {
      present = by_le (dec_le (p + n) (length f)) (λ k. g (λ o. k o.present));
      first = equal_stable (get_or f p 0) a (λ k. g (λ o. k o.first));
      second = equal_stable (get_or f (p + 1) 0) b (λ k. g (λ o. k o.second));
    }
  where
    by_le : {x y : ℕ} → Dec (x ≤ y) → ((x ≤ y → ⊥) → ⊥) → x ≤ y
    by_le (yes h) k = h
    by_le (no h) k = absurd (k h)

-- ---- the setting record

-- the form, by the second byte
pub form-two : (f : List ℕ) → get_or f 1 0 ≡ setting_mark Two → form_in f ≡ Two
unfolding form_in
form-two f e = pick_true Two One (eq-eqb (get_or f 1 0) (setting_mark Two) e)

pub form-one : (f : List ℕ) → (get_or f 1 0 ≡ setting_mark Two → ⊥) → form_in f ≡ One
unfolding form_in
form-one f e = pick_false Two One (ne_eqb (get_or f 1 0) (setting_mark Two) e)

-- the basis stands in front of the word's record, in either form
pub basis-first : (form : Form) (k : ℕ) → 7 + 2 * k ≤ word_record_at form k
basis-first One k = omega arith
basis-first Two k = omega arith

pub record_size : (form : Form) (k : ℕ) → word_record_at form k ≤ 9 + 2 * k
record_size One k = omega arith
record_size Two k = omega arith

-- up to the presence of basis and shift
pub record Head (f : List ℕ) : Type 0 where
  pub opened : Opens f 0 7 83 (setting_mark (form_in f))
  pub modulus : GoodModulus (modulus_in f)
  pub low : 3 ≤ dim_in f
  pub high : dim_in f ≤ max_dim
  pub basis : word_record_at (form_in f) (dim_in f) ≤ length f

pub head_numbered : (f : List ℕ) → Numbered (head_checks f)
head_numbered f = (omega arith, (omega arith, (omega arith, (omega arith, (omega arith, tt)))))

pub length_basis : (f : List ℕ) → length (basis_in f) ≡ dim_in f
unfolding basis_in
length_basis f = length_tab (dim_in f) (λ i. number_at false f 7 i)

module _ (f : List ℕ) where
  pub head_passed : Passes (head_checks f) → Head f
  head_passed (inl a) = absurd (omega arith)
  head_passed (inr (o, r)) = go (passes-each (modulus_checks (modulus_in f)) (late_checks f) (modulus_numbered (modulus_in f)) r)
    where
      go : Passes (modulus_checks (modulus_in f)) × Passes (late_checks f) → Head f
      go (q, inl a) = absurd (omega arith)
      go (q, inr (a, inl b)) = absurd (omega arith)
      go (q, inr (a, inr b)) =
          record {
            opened = opens_stable f 0 7 83 (setting_mark (form_in f)) o;
            modulus = modulus_passed (modulus_in f) q;
            low = not-less (λ h. a (inl h));
            high = not-less (λ h. a (inr h));
            basis = not-less b.0;
          }

  -- the answers on the way, past the mark
  module _ (o : Opens f 0 7 83 (setting_mark (form_in f))) where
    pub head_modulus : (r : ℕ) → 0 < r → Answers (modulus_checks (modulus_in f)) r → Answers (head_checks f) r
    head_modulus r l a = inr ((λ g. g o), refused_first (modulus_checks (modulus_in f)) (late_checks f) r l a)

    pub head-late : (r : ℕ) → Passes (modulus_checks (modulus_in f)) → Answers (late_checks f) r → Answers (head_checks f) r
    head-late r p a = inr ((λ g. g o), answers-after (modulus_checks (modulus_in f)) (late_checks f) r (modulus_numbered (modulus_in f)) p a)

  pub head-passes : Head f → Passes (head_checks f)
  head-passes h = head-late h.opened 0 (good_passes (modulus_in f) h.modulus) (inr (outside h.low h.high, inr ((λ l. omega (arith, h.basis)), refl)))

  -- past the head the checks of the setting go on at 4
  module _ (h : Head f) where
    in_range : (length (basis_in f) < 3) ⊎ (max_dim < length (basis_in f)) → ⊥
    in_range = rw length_basis (outside h.low h.high)

    from_four : {r : ℕ} → Answers (space_checks (modulus_in f) (basis_in f) (shift_in f)) r → Answers (basis_checks f) r
    from_four (inl d) = absurd (in_range d.0)
    from_four (inr (d, e)) = e

    pub to_four : {r : ℕ} → Answers (basis_checks f) r → Answers (space_checks (modulus_in f) (basis_in f) (shift_in f)) r
    to_four e = inr (in_range, e)

    pub settled_after-head : (r : Result Setting Refusal) → SettledBy (space_checks (modulus_in f) (basis_in f) (shift_in f)) (modulus_in f) (basis_in f) (shift_in f) r
        → SettledBy (setting_checks f) (modulus_in f) (basis_in f) (shift_in f) r
    settled_after-head r s = settled_after (head_checks f) (basis_checks f) (modulus_in f) (basis_in f) (shift_in f) r (head_numbered f) (head-passes h) (go r s)
      where
        go : (r : Result Setting Refusal) → SettledBy (space_checks (modulus_in f) (basis_in f) (shift_in f)) (modulus_in f) (basis_in f) (shift_in f) r → SettledBy (basis_checks f) (modulus_in f) (basis_in f) (shift_in f) r
        go (Ok s) (p, e) = (from_four p, e)
        go (Err d) (l, a) = (l, from_four a)

-- ---- a record of symbols

pub record Held (t : Bool) (f : List ℕ) (p a b n l : ℕ) : Type 0 where
  pub opened : Opens f p 6 a b
  pub count : four_at f (p + 2) ≡ n
  pub present : p + 6 + packed_size t n ≤ length f
  pub symbols : Below (2 ^ l) (numbers_at t f (p + 6) n)
