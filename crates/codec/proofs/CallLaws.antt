-- The checks of a call with output and scratch, and what each exit leaves. Assumes nothing.
use mathlib.Core.Path.{◌≡◌, refl, sym, ap, ◌∙◌, subst}
use mathlib.Core.Logic.{inl, inr}
use mathlib.Core.List.{List, [], ◌∷◌, ◌++◌}
use Prim.Native.Nat.{ℕ, ◌/◌, ◌-◌, ◌^◌, ◌≤◌, ◌<◌}
use native.Mathlib.Omega.{arith}
use lib.ListN.{length}
use Rattle.std.specs.Prelude.{Result, Ok, Err}
use Rattle.lists.specs.All.{Below}
use Rattle.lists.specs.Answers.{Checks, Answers, Passes, Numbered}
use Rattle.lists.specs.Calls.{zeros, RefusedWith, Within, refused_late, accepted}
use Rattle.lists.specs.Lengths.{lengths-passed}
use Rattle.field.specs.Binary.{degree}
use Rattle.field.specs.Symbols.{symbols}
use Rattle.poly.specs.Shift.{word_at, CodewordAt}
use Rattle.refusals.specs.Gives.{number_positive}
use Rattle.refusals.specs.Refusal.{number}
use Rattle.refusals.specs.declared.Refusal.{Refusal}
use Rattle.refusals.specs.declared.Refusal.TheVariants.{NoSymbol, NoCodeword}
use Rattle.space.specs.Early.{early-passes, setting_refused, length_refused}
use Rattle.space.specs.Ready.{Ready, ready}
use Rattle.space.specs.Setting.{setting_checks, setting_of, Settled}
use Rattle.space.specs.Usable.{Usable, usable, own_ready}
use Rattle.space.specs.declared.Setting.{Setting}
use Rattle.transform.proofs.BlockLaws.{eight}
use Rattle.codec.specs.Calls.{Told, length_checks, symbol_checks, word_checks, Encoded, CoefficientsAt, Decoded}
use Rattle.codec.specs.Scratch.{scratch_for}
use Rattle.codec.specs.Words.{Lengths, EncodedWith, DecodedWith}

-- an eighth of the word
pub eighth_is : (k n : ℕ) → 3 ≤ k → n ≡ 2 ^ k → n / 8 ≡ 2 ^ (k - 3)
eighth_is k n h e = omega (arith, eight k h)

-- ---- the checks of the setting, then 6 and 7 of lengths, and then ds

-- what is said past check 7: of the checks ds, and of the output
abbrev pub Late : Checks → (List ℕ → Type 0) → List ℕ → List ℕ → Result (Unit {0}) Refusal → Type 0
Late ds Right old new (Ok u) = Passes ds × Right new
Late ds Right old new (Err e) = (7 < number e) × Answers ds (number e) × (new ≡ old)

module _ (m : ℕ) (bs : List ℕ) (σ : ℕ) (P Q : Type 0) (ds : Checks) where
  abbrev lengths : Checks
  lengths = (6, P) ∷ (7, Q) ∷ []

  abbrev early : Checks
  early = setting_checks m bs σ ++ lengths

  within : Within 7 early
  within = (omega arith, (omega arith, (omega arith, (omega arith, (omega arith, (omega arith, (omega arith, (omega arith, tt))))))))

  numbered : Numbered early
  numbered = (omega arith, (omega arith, (omega arith, (omega arith, (omega arith, (omega arith, (omega arith, (omega arith, tt))))))))

  -- the setting is refused
  pub refused_setting : (e : Refusal) → Settled m bs σ (Err e) → (old scratch : List ℕ) → RefusedWith (early ++ ds) (number e) old old scratch scratch
  refused_setting e g old scratch = setting_refused m bs σ lengths within ds (number e) old scratch g

  module _ (s : Setting) (g : Settled m bs σ (Ok s)) where
    -- check 6 or 7 refuses
    pub refused_lengths : (e : Refusal) → Answers lengths (number e) → (old scratch : List ℕ) → RefusedWith (early ++ ds) (number e) old old scratch scratch
    refused_lengths e a old scratch = length_refused m bs σ lengths within ds (number e) old scratch g.0 (number_positive e, a)

    -- they pass
    module _ (q : Passes lengths) (Right : List ℕ → Type 0) (old new scratch left : List ℕ) (z : left ≡ zeros (length scratch)) where
      pub told_late : (r : Result (Unit {0}) Refusal) → Late ds Right old new r → Told (early ++ ds) Right old new scratch left r
      told_late (Ok u) (a, w) = accepted early ds numbered (early-passes m bs σ lengths g.0 q) Right new scratch left a w z
      told_late (Err e) (h, a, w) = refused_late early ds numbered (early-passes m bs σ lengths g.0 q) (number e) old new scratch left h a w z

-- ---- checks 9 and 10 of a word

module _ (m : ℕ) (bs : List ℕ) (σ : ℕ) (word : List ℕ) (Right : List ℕ → Type 0) (old new : List ℕ) where
  pub late_right : Below (2 ^ degree m) word → CodewordAt (symbols m) σ (length bs) bs word → Right new → Late (word_checks m bs σ word) Right old new (Ok tt)
  late_right b c r = (inr ((λ f. f b), inr ((λ f. f c), refl)), r)

  module _ (e : Refusal) where
    pub late_symbol : e ≡ NoSymbol → (Below (2 ^ degree m) word → ⊥) → new ≡ old → Late (word_checks m bs σ word) Right old new (Err e)
    late_symbol h b w = (omega (arith, ap number h), inl (b, ap number h), w)

    pub late_codeword : e ≡ NoCodeword → Below (2 ^ degree m) word → (CodewordAt (symbols m) σ (length bs) bs word → ⊥) → new ≡ old → Late (word_checks m bs σ word) Right old new (Err e)
    late_codeword h b c w = (omega (arith, ap number h), inr ((λ f. f b), inl (c, ap number h)), w)

-- ---- past check 7, where what is said of the setting is said of its modulus, its basis and its shift

pub own_setting : (m : ℕ) (bs : List ℕ) (σ : ℕ) → Passes (setting_checks m bs σ) → Ready (setting_of m bs σ).field.modulus bs (setting_of m bs σ)
own_setting m bs σ p = own_ready (ready m bs σ (setting_of m bs σ) (p, refl))

-- the encoder and the decoder
module _ (m : ℕ) (bs : List ℕ) (σ : ℕ) (s : Setting) (g : Settled m bs σ (Ok s)) (coefficients word scratch : List ℕ) (q : Passes (length_checks (length bs) (length coefficients) (length word) (length scratch))) where
  pub with_requires : Usable s × Lengths s coefficients word scratch
  with_requires =
      let r = ready m bs σ s g in
      let (e, w, l) = lengths-passed (length coefficients) (2 ^ (length bs - 3)) (length word) (2 ^ length bs) (length scratch) (scratch_for (length bs)) q in (
        usable (own_ready r),
        record {
          eighth = e ∙ ap (λ (i : ℕ). 2 ^ (i - 3)) (sym r.dimension);
          whole = w ∙ ap (λ (i : ℕ). 2 ^ i) (sym r.dimension);
          room = subst (λ (i : ℕ). scratch_for i ≤ length scratch) (sym r.dimension) l;
        },
      )

  module _ (new left : List ℕ) (z : left ≡ zeros (length scratch)) (r : Result (Unit {0}) Refusal) where
    abbrev WordOf : List ℕ → Type 0
    WordOf w = w ≡ word_at (symbols m) σ (length bs) bs coefficients

    encode_late : (r : Result (Unit {0}) Refusal) → EncodedWith (setting_of m bs σ) coefficients word new r → Late (symbol_checks m coefficients) WordOf word new r
    unfolding setting_of
    encode_late (Ok u) (b, w) = (inr ((λ f. f b), refl), w bs (own_setting m bs σ g.0))
    encode_late (Err e) (h, b, w) = (omega (arith, ap number h), inl (b, ap number h), w)

    pub encode_told : EncodedWith s coefficients word new r → Encoded m bs σ coefficients word new scratch left r
    encode_told e =
        told_late m bs σ _ _ (symbol_checks m coefficients) s g q WordOf word new scratch left z r
        (encode_late r (subst (λ (t : Setting). EncodedWith t coefficients word new r) g.1 e))

    decode_late : (r : Result (Unit {0}) Refusal) → DecodedWith (setting_of m bs σ) word coefficients new r → Late (word_checks m bs σ word) (CoefficientsAt m bs σ word) coefficients new r
    unfolding setting_of
    decode_late (Ok u) (b, w) = let c = w bs (own_setting m bs σ g.0) in late_right m bs σ word (CoefficientsAt m bs σ word) coefficients new b (new, c.count, c.elements, c.word-is) c
    decode_late (Err e) (inl (h, b, w)) = late_symbol m bs σ word (CoefficientsAt m bs σ word) coefficients new e h b w
    decode_late (Err e) (inr (h, b, f, w)) = late_codeword m bs σ word (CoefficientsAt m bs σ word) coefficients new e h b (f bs (own_setting m bs σ g.0)) w

    pub decode_told : DecodedWith s word coefficients new r → Decoded m bs σ word coefficients new scratch left r
    decode_told e =
        told_late m bs σ _ _ (word_checks m bs σ word) s g q (CoefficientsAt m bs σ word) coefficients new scratch left z r
        (decode_late r (subst (λ (t : Setting). DecodedWith t word coefficients new r) g.1 e))
