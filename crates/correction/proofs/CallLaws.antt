-- The checks of the call, and what each exit leaves. Assumes nothing.
use mathlib.Core.Path.{◌≡◌, refl, sym, ap, ◌∙◌, subst}
use mathlib.Core.Logic.{inl, inr, ◌↔◌}
use mathlib.Core.List.{List, ◌++◌}
use Prim.Native.Nat.{ℕ, ◌^◌, ◌<◌}
use native.Mathlib.Omega.{arith}
use lib.ListN.{length}
use Rattle.std.specs.Prelude.{Result, Ok, Err}
use Rattle.lists.specs.All.{Below}
use Rattle.lists.specs.Answers.{Checks, Answers, Passes, Refuses, Numbered}
use Rattle.lists.specs.Calls.{zeros, RefusedWith, Within, refused_late, accepted}
use Rattle.lists.specs.Lengths.{lengths-passed}
use Rattle.field.specs.Binary.{degree}
use Rattle.field.specs.Symbols.{symbols}
use Rattle.refusals.specs.Gives.{number_positive}
use Rattle.refusals.specs.Refusal.{number, answer_of}
use Rattle.refusals.specs.declared.Refusal.{Refusal}
use Rattle.space.specs.Early.{early-passes, setting_refused, length_refused}
use Rattle.space.specs.Ready.{Ready, ready, settled_shift}
use Rattle.space.specs.Setting.{setting_checks, Settled}
use Rattle.space.specs.Sound.{sound_field}
use Rattle.space.specs.declared.Setting.{Setting}
use Rattle.space.specs.Usable.{own_ready}
use Rattle.correction.specs.Calls.{length_checks, near_checks, Corrects, CorrectedWord}
use Rattle.correction.specs.Checks.{early_checks, early_numbered}
use Rattle.correction.specs.Near.{Near, NearAt, near_shift}
use Rattle.correction.specs.Nearest.{CorrectedWith, InPlaces}
use Rattle.correction.specs.Scratch.{correction_scratch}

pub early-within : (m : ℕ) (bs : List ℕ) (σ a b s : ℕ) → Within 7 (early_checks m bs σ a b s)
early-within m bs σ a b s = (omega arith, (omega arith, (omega arith, (omega arith, (omega arith, (omega arith, (omega arith, (omega arith, tt))))))))

module _ (m : ℕ) (bs : List ℕ) (σ : ℕ) (word old scratch : List ℕ) where
  abbrev lengths : Checks
  lengths = length_checks (length bs) (length word) (length old) (length scratch)

  -- a refusal by the setting, and by a length
  pub setting_told : (e : Refusal) → Refuses (setting_checks m bs σ) (number e) → CorrectedWord m bs σ word old old scratch scratch (Err e)
  setting_told e r = setting_refused m bs σ lengths (early-within m bs σ (length word) (length old) (length scratch)) (near_checks m bs σ word) (number e) old scratch r

  pub length_told : (e : Refusal) → Passes (setting_checks m bs σ) → Answers lengths (number e) → CorrectedWord m bs σ word old old scratch scratch (Err e)
  length_told e p a =
      length_refused m bs σ lengths (early-within m bs σ (length word) (length old) (length scratch)) (near_checks m bs σ word) (number e) old scratch p (number_positive e, a)

  -- ---- past check 7

  module _ (s : Setting) (g : Settled m bs σ (Ok s)) (l : Passes lengths) where
    set : Ready m bs s
    set = ready m bs σ s g

    pub in_places : InPlaces s word old scratch
    in_places =
        let (w, c, room) = lengths-passed (length word) (2 ^ length bs) (length old) (2 ^ length bs) (length scratch) (correction_scratch (length bs)) l in
        record { basis = bs; ready = own_ready set; whole = w ∙ ap (λ (i : ℕ). 2 ^ i) (sym set.dimension); same = c ∙ sym w; room = omega arith }

    below_word : Below (2 ^ degree s.field.modulus) word → Below (2 ^ degree m) word
    below_word h = subst (λ (i : ℕ). Below (2 ^ degree i) word) set.modulus h

    -- the shift is a symbol
    shifted : (x : List ℕ) → NearAt (symbols m) σ (length bs) bs word x ↔ Near (symbols m) (length bs) bs word x
    shifted = near_shift (sound_field set.sound) σ (subst (symbols m).Sym (settled_shift m bs σ s g) set.sound.shift) (length bs) bs word

    near_word : (x : List ℕ) → NearAt (symbols m) σ (length bs) bs word x → Near (symbols s.field.modulus) (length bs) bs word x
    near_word x h = subst (λ (i : ℕ). Near (symbols i) (length bs) bs word x) (sym set.modulus) ((shifted x).0 h)

    near_given : (x : List ℕ) → Near (symbols s.field.modulus) (length bs) bs word x → NearAt (symbols m) σ (length bs) bs word x
    near_given x h = (shifted x).1 (subst (λ (i : ℕ). Near (symbols i) (length bs) bs word x) set.modulus h)

    module _ (new left : List ℕ) (z : left ≡ zeros (length scratch)) where
      abbrev first : Checks
      first = early_checks m bs σ (length word) (length old) (length scratch)

      abbrev near : Checks
      near = near_checks m bs σ word

      numbered : Numbered first
      numbered = early_numbered m bs σ (length word) (length old) (length scratch)

      passes : Passes first
      passes = early-passes m bs σ lengths g.0 l

      late : (n : ℕ) → 7 < n → Answers near n → new ≡ old → RefusedWith (first ++ near) n old new scratch left
      late n k a d = refused_late first near numbered passes n old new scratch left k a d z

      pub told_of : (u : Result ℕ Refusal) → CorrectedWith s word old new u → CorrectedWord m bs σ word old new scratch left u
      told_of (Ok k) (inl (h, w)) =
          let close : NearAt (symbols m) σ (length bs) bs word new = near_given new (w.0 bs (own_ready set)) in
          accepted first near numbered passes (Corrects m bs σ word k) new scratch left (inr ((λ f. f (below_word h)), inr ((λ f. f new close), refl))) (record { near = close; count = w.1 }) z
      told_of (Ok k) (inr (e, h, d)) = absurd (let q : ◌≡◌ {A = ℕ} 0 9 = ap answer_of e in omega arith)
      told_of (Err e) (inl (h, w)) =
          let q : number e ≡ 13 = ap number w.0 in
          late (number e) (omega arith) (inr ((λ f. f (below_word h)), inl ((λ x g. w.1 bs (own_ready set) x (near_word x g)), q))) w.2
      told_of (Err e) (inr (x, h, d)) =
          let q : number e ≡ 9 = ap answer_of x in
          late (number e) (omega arith) (inl (subst (λ (i : ℕ). Below (2 ^ degree i) word → ⊥) set.modulus h, q)) d
