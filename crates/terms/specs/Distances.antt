-- How far the word of a counted file is from the codewords: the counter's `off`. `Told f (Ok c)` is the contract of coins' `count` for its totals c
-- on the file f.
use Rattle.std.specs.Prelude.{◌≡◌, refl, ◌↔◌, Option, Some, None, Result, Ok, Err, List, [], ◌∷◌, ℕ, suc, ◌^◌, ◌≤◌, ◌<◌, length, set}
use Rattle.std.proofs.Common.{sym, ap, ◌∙◌, subst, arith}
use Rattle.std.proofs.Math.Path.{transport}
use Rattle.std.proofs.lemmas.List.{get_or-replicate}
use Rattle.lists.specs.All.{Below}
use Rattle.lists.specs.Tables.{length_tab}
use Rattle.refusals.specs.declared.Refusal.{Refusal}
use Rattle.refusals.specs.declared.Refusal.TheVariants.{Far}
use Rattle.field.specs.Binary.{◌⊕◌, product, degree}
use Rattle.field.specs.Checks.{not-less}
use Rattle.field.specs.Symbols.{symbols}
use Rattle.poly.specs.Codeword.{Codeword}
use Rattle.poly.specs.Poly.{eval}
use Rattle.poly.proofs.Shift.{codeword_shift}
use Rattle.poly.specs.Span.{elem}
use Rattle.space.specs.Sound.{Sound, sound_field}
use Rattle.proximity.specs.Cases.{basis_8, fives}
use Rattle.correction.specs.Calls.{CorrectedWord}
use Rattle.correction.specs.Differences.{differences, differences_self, differences-set, differences-none}
use Rattle.correction.specs.Near as correction
use Rattle.correction.specs.Near.{radius, near_shift}
use Rattle.correction.specs.Scratch.{correction_scratch}
use Rattle.stored.proofs.Accepted.{accepted}
use Rattle.stored.specs.File.{modulus_in, basis_in, shift_in, word_in}
use Rattle.coins.specs.Answer.{counted-file, word_length}
use Rattle.coins.specs.OffLaws.{off_one}
use Rattle.coins.specs.Totals.{Off, Told}
use Rattle.coins.specs.declared.Counts.{Counts}
use Rattle.terms.specs.Corrections.{early-right, near_found, thirteen_exactly}
use Rattle.terms.specs.Counts.{no_rejects_exactly}

-- what correction answers for a word so far off
abbrev pub correction_at : Option ℕ → Result ℕ Refusal
correction_at (Some n) = Ok n
correction_at None = Err Far

-- a word in a sound setting
module _ (m : ℕ) (bs : List ℕ) (σ : ℕ) (s : Sound m bs σ) (w : List ℕ) (lw : length w ≡ 2 ^ length bs) where
  abbrev IsCodeword : List ℕ → Type 0
  IsCodeword c = Codeword (symbols m) (length bs) bs c

  abbrev bound : ℕ
  bound = radius (2 ^ length bs)

  -- near at the shift
  at_shift : (c : List ℕ) → correction.NearAt (symbols m) σ (length bs) bs w c ↔ correction.Near (symbols m) (length bs) bs w c
  at_shift = near_shift (sound_field s) σ s.shift (length bs) bs w

  as_corrected : Below (2 ^ degree m) w → (d : Option ℕ) → Off m bs w d → (old new scratch left : List ℕ) (u : Result ℕ Refusal) → length old ≡ 2 ^ length bs
      → correction_scratch (length bs) ≤ length scratch → CorrectedWord m bs σ w old new scratch left u → u ≡ correction_at d
  as_corrected h (Some n) (c, x) old new scratch left u lo ls t =
      (near_found m bs σ w old new scratch left (early-right m bs σ s w old scratch lw lo ls) h c ((at_shift c).1 x.near) u t).0 ∙ ap Ok (sym x.count)
  as_corrected h None none old new scratch left u lo ls t = (thirteen_exactly m bs σ w old new scratch left (early-right m bs σ s w old scratch lw lo ls) h u t).1 (λ c x. none c ((at_shift c).0 x))

  near_off : (d : Option ℕ) → Off m bs w d → (c : List ℕ) → IsCodeword c → differences w c ≤ bound → d ≡ Some (differences w c)
  near_off d o c g h = off_one m bs s w lw d (Some (differences w c)) o (c, record { near = record { codeword = g; close = h }; count = refl })

  far_off : (d : Option ℕ) → Off m bs w d → (d ≡ None) ↔ ((c : List ℕ) → IsCodeword c → bound < differences w c)
  far_off d o = (
    (λ e c g. not-less {x = differences w c} {y = suc bound} (λ h. subst (Off m bs w) e o c (record { codeword = g; close = omega arith }))),
    λ f. off_one m bs s w lw d None o (λ c x. let l = f c x.codeword in omega (arith, x.close)),
  )

  none_off : (d : Option ℕ) → Off m bs w d → (d ≡ Some 0) ↔ IsCodeword w
  none_off d o = (
    (λ e. by (subst (Off m bs w) e o)),
    λ c. near_off d o w c (omega (arith, differences_self w)) ∙ ap Some (differences_self w),
  )
    where
      by : Off m bs w (Some 0) → IsCodeword w
      by (c, x) =
          let (p, lp, sp, e) = x.near.codeword in
          subst (Codeword (symbols m) (length bs) bs) (sym (differences-none w c (lw ∙ sym (ap length e ∙ length_tab (2 ^ length bs) (λ i. eval (symbols m) p (elem (symbols m) bs i)))) (sym x.count))) x.near.codeword

  few_off : (n : ℕ) → Off m bs w (Some n) → n ≤ bound
  few_off n (c, x) = omega (arith, x.count, x.near.close)

-- a file that the counter does not refuse, and what it answers
module _ (f : List ℕ) (c : Counts) (t : Told f (Ok c)) where
  setting : Sound (modulus_in f) (basis_in f) (shift_in f)
  setting = (accepted f (counted-file f t.0)).records.setting

  in_range : Below (2 ^ degree (modulus_in f)) (word_in f)
  unfolding word_in
  in_range = (accepted f (counted-file f t.0)).records.word.symbols

  off : Off (modulus_in f) (basis_in f) (word_in f) c.off
  off = t.1.off

  -- It is what correction answers for the word of the file, by a call with room enough: the number of differences, or none for `Far`.
  pub off_as_corrected : (old new scratch left : List ℕ) (u : Result ℕ Refusal) → length old ≡ length (word_in f) → correction_scratch (length (basis_in f)) ≤ length scratch
      → CorrectedWord (modulus_in f) (basis_in f) (shift_in f) (word_in f) old new scratch left u → u ≡ correction_at c.off
  off_as_corrected old new scratch left u lo =
      as_corrected (modulus_in f) (basis_in f) (shift_in f) setting (word_in f) (word_length f) in_range c.off off old new scratch left u (lo ∙ word_length f)

  -- A word that differs from a codeword at no more positions than the radius is off by their number, wherever they are;
  pub damage_told : (v : List ℕ) → Codeword (symbols (modulus_in f)) (length (basis_in f)) (basis_in f) v → differences (word_in f) v ≤ radius (2 ^ length (basis_in f))
      → c.off ≡ Some (differences (word_in f) v)
  damage_told = near_off (modulus_in f) (basis_in f) (shift_in f) setting (word_in f) (word_length f) c.off off

  -- it is none exactly where it differs from each at more.
  pub far_exactly : (c.off ≡ None)
      ↔ ((v : List ℕ) → Codeword (symbols (modulus_in f)) (length (basis_in f)) (basis_in f) v → radius (2 ^ length (basis_in f)) < differences (word_in f) v)
  far_exactly = far_off (modulus_in f) (basis_in f) (shift_in f) setting (word_in f) (word_length f) c.off off

  -- A number is within the radius;
  pub off_within : (n : ℕ) → c.off ≡ Some n → n ≤ radius (2 ^ length (basis_in f))
  off_within n e = few_off (modulus_in f) (basis_in f) (shift_in f) setting (word_in f) (word_length f) n (subst (Off (modulus_in f) (basis_in f) (word_in f)) e off)

  -- it is 0 exactly for a codeword,
  pub zero_off_exactly : (c.off ≡ Some 0) ↔ Codeword (symbols (modulus_in f)) (length (basis_in f)) (basis_in f) (word_in f)
  zero_off_exactly = none_off (modulus_in f) (basis_in f) (shift_in f) setting (word_in f) (word_length f) c.off off

  -- so where no coin rejects.
  pub no_rejects_off : c.sweep.rejects ≡ 0 → c.off ≡ Some 0
  no_rejects_off e =
      let (P, h) = (no_rejects_exactly f c t).0 e in
      zero_off_exactly.1 ((codeword_shift (sound_field setting) (shift_in f) setting.shift (length (basis_in f)) (basis_in f) (word_in f)).0 (P, h.count, h.elements, h.word))

-- The word alone decides, with its setting: two counted files that have them in common are equally far off, whatever their proofs hold.
pub off_by-word : (f g : List ℕ) (c d : Counts) → Told f (Ok c) → Told g (Ok d)
    → modulus_in f ≡ modulus_in g → basis_in f ≡ basis_in g → word_in f ≡ word_in g → c.off ≡ d.off
off_by-word f g c d t u modulus basis word =
    off_one (modulus_in g) (basis_in g) (setting g d u) (word_in g) (word_length g) c.off d.off
    (transport (λ i. Off (modulus i) (basis i) (word i) c.off) (off f c t)) (off g d u)

-- The case of the request, by modulus 11 and basis 1, 2, 4: a word of 5 with one 6, at any position, is off by 1.
pub one-six : (i : ℕ) → i < 8 → Off 11 basis_8 (set fives i 6) (Some 1)
unfolding ◌⊕◌ product degree
one-six i h =
    let one : differences (set fives i 6) fives ≡ 1 = differences-set fives i 6 h (λ e. omega (arith, get_or-replicate {A = ℕ} 8 i 5 0 h)) in
    (fives, record { near = record { codeword = (5 ∷ [], refl, (omega arith, tt), refl); close = omega arith }; count = sym one })
