-- An accepted file is the byte string of the form, the setting, the word and the proof that are read from it. Assumes nothing.
use Rattle.std.specs.Prelude.{◌≡◌, Bool}
use Rattle.std.proofs.Math.Path.{refl, sym, ap, ap₂}
use Rattle.std.proofs.Common.{◌∙◌, arith}
use Rattle.std.proofs.Math.Bool.{false}
use mathlib.Core.List.{List, [], ◌∷◌, ◌++◌, append-nil, append_assoc}
use Prim.Native.Nat.{ℕ, suc, ◌+◌, ◌*◌, ◌^◌, ◌≤◌, ◌<◌}
use Rattle.std.proofs.Math.ListN.{length, get_or, drop, drop_of_length-le}
use Rattle.std.proofs.Math.Seq.{drop-cons}
use Rattle.lists.specs.All.{Below, All-at}
use Rattle.lists.specs.Answers.{Passes}
use Rattle.proximity.specs.Dim.{S}
use Rattle.stored.proofs.Accepted.{accepted}
use Rattle.stored.specs.ByteLaws.{four_bytes_lem, cut}
use Rattle.stored.specs.Bytes.{two_bytes, four_bytes, packed, packed_size, two_at, four_at, numbers_at}
use Rattle.stored.specs.File.{setting_mark, word_mark, proof_mark, shift_bytes, setting_record, symbol_record, word_record, proof_record, file_of, word_record_at, word_start, proof_record_at, proof_start, form_in, modulus_in, degree_in, dim_in, basis_in, shift_at, shift_in, narrow_in, word_in, proof_in, end_in, Opens}
use Rattle.stored.specs.Packed.{length_numbers, packed-read}
use Rattle.stored.specs.Passed.{basis-first, Head, length_basis, Held}
use Rattle.stored.specs.Reader.{file_checks}
use Rattle.stored.specs.declared.Form.{Form}
use Rattle.stored.specs.declared.Form.TheVariants.{One, Two}
use Rattle.stored.specs.Whole.{Delivery}

-- ---- an accepted file

pub accepted_delivery : (f : List ℕ) → Passes (file_checks f) → Delivery (modulus_in f) (basis_in f) (shift_in f) (word_in f) (proof_in f)
unfolding word_in proof_in
accepted_delivery f p =
    let r = (accepted f p).records in
    let e = length_basis f in
    record {
      setting = r.setting;
      word = length_numbers (narrow_in f) f (word_start (form_in f) (dim_in f)) (2 ^ dim_in f) ∙ ap (λ (k : ℕ). 2 ^ k) (sym e);
      proof = length_numbers (narrow_in f) f (proof_start (form_in f) (degree_in f) (dim_in f)) (S (dim_in f)) ∙ ap S (sym e);
      word-symbols = r.word.symbols;
      proof-symbols = r.proof.symbols;
    }

module _ (f : List ℕ) (b : Below 256 f) where
  byte : (i : ℕ) → get_or f i 0 < 256
  byte i = All-at (λ (x : ℕ). x < 256) f 0 b (omega arith) i

  -- the four-byte number at p, in bytes
  four_read : (p q : ℕ) → q ≡ p + 4 → q ≤ length f → drop p f ≡ four_bytes (four_at f p) ++ drop q f
  unfolding two_at four_at
  four_read p q e h =
      next p (p + 1) (omega arith) (omega arith)
      ∙ ap (λ (t : List ℕ). get_or f p 0 ∷ t) (next (p + 1) (p + 2) (omega arith) (omega arith)
      ∙ ap (λ (t : List ℕ). get_or f (p + 1) 0 ∷ t) (next (p + 2) (p + 2 + 1) (omega arith) (omega arith)
      ∙ ap (λ (t : List ℕ). get_or f (p + 2) 0 ∷ t) (next (p + 2 + 1) q (omega arith) (omega arith))))
      ∙ ap (λ (t : List ℕ). t ++ drop q f) (sym (four_bytes_lem (get_or f p 0) (get_or f (p + 1) 0) (get_or f (p + 2) 0) (get_or f (p + 2 + 1) 0) (byte p) (byte (p + 1)) (byte (p + 2)) (byte (p + 2 + 1))))
    where
      next : (i j : ℕ) → j ≡ suc i → i < length f → drop i f ≡ get_or f i 0 ∷ drop j f
      next i j e h = drop-cons f i 0 h ∙ ap (λ (t : ℕ). get_or f i 0 ∷ drop t f) (sym e)

  -- two bytes of a mark
  mark_read : (p n x y : ℕ) → 2 ≤ n → Opens f p n x y → drop p f ≡ x ∷ y ∷ drop (p + 2) f
  mark_read p n x y l o =
      drop-cons f p 0 (omega (arith, o.present))
      ∙ ap₂ ◌∷◌ o.first (ap (λ (t : ℕ). drop t f) {x = suc p} {y = p + 1} (omega arith)
      ∙ drop-cons f (p + 1) 0 (omega (arith, o.present))
      ∙ ap₂ ◌∷◌ o.second (ap (λ (t : ℕ). drop t f) {x = suc (p + 1)} {y = p + 2} (omega arith)))

  record_read : (t : Bool) (p x y n l : ℕ) → Held t f p x y n l → drop p f ≡ symbol_record t x y (numbers_at t f (p + 6) n) ++ drop (p + 6 + packed_size t n) f
  record_read t p x y n l h =
      mark_read p 6 x y (omega arith) h.opened
      ∙ ap (λ (u : List ℕ). x ∷ y ∷ u)
      (four_read (p + 2) (p + 6) (omega arith) h.opened.present
      ∙ ap₂ (λ (c : ℕ) (u : List ℕ). four_bytes c ++ u) (h.count ∙ sym (length_numbers t f (p + 6) n))
      (cut f (p + 6) (packed_size t n) ∙ ap (λ (u : List ℕ). u ++ drop (p + 6 + packed_size t n) f) (packed-read t f (p + 6) n h.present b)))

  -- the shift, and what follows it
  shift_read : (form : Form) → word_record_at form (dim_in f) ≤ length f → drop (7 + 2 * dim_in f) f ≡ shift_bytes form (shift_at form f) ++ drop (word_record_at form (dim_in f)) f
  shift_read One h = refl
  shift_read Two h =
      cut f (7 + 2 * dim_in f) (2 * 1)
      ∙ ap₂ ◌++◌ (packed-read false f (7 + 2 * dim_in f) 1 (omega arith) b ∙ append-nil (two_bytes (two_at f (7 + 2 * dim_in f + 2 * 0))) ∙ ap (λ (p : ℕ). two_bytes (two_at f p)) {x = 7 + 2 * dim_in f + 2 * 0} {y = 7 + 2 * dim_in f} (omega arith))
      (ap (λ (p : ℕ). drop p f) {x = 7 + 2 * dim_in f + 2 * 1} {y = 9 + 2 * dim_in f} (omega arith))

  setting-read : Head f → f ≡ setting_record (form_in f) (modulus_in f) (basis_in f) (shift_in f) ++ drop (word_record_at (form_in f) (dim_in f)) f
  unfolding basis_in shift_in
  setting-read h =
      let form = form_in f in
      mark_read 0 7 83 (setting_mark form) (omega arith) h.opened
      ∙ ap (λ (t : List ℕ). 83 ∷ setting_mark form ∷ t)
      (four_read 2 6 refl (omega (arith, h.opened.present))
      ∙ ap (λ (t : List ℕ). four_bytes (modulus_in f) ++ t)
      (drop-cons f 6 0 h.opened.present
      ∙ ap₂ ◌∷◌ (sym (length_numbers false f 7 (dim_in f)))
      (cut f 7 (2 * dim_in f)
      ∙ ap₂ ◌++◌ (packed-read false f 7 (dim_in f) (omega (arith, h.basis, basis-first form (dim_in f))) b) (shift_read form h.basis)
      ∙ sym (append_assoc (packed false (numbers_at false f 7 (dim_in f))) (shift_bytes form (shift_at form f)) (drop (word_record_at form (dim_in f)) f)))))

  -- an accepted file is the byte string of what is read from it
  pub accepted_file : Passes (file_checks f) → f ≡ file_of (form_in f) (modulus_in f) (basis_in f) (shift_in f) (word_in f) (proof_in f)
  unfolding file_of word_in proof_in
  accepted_file p =
      let a = accepted f p in
      let r = a.records in
      let form = form_in f in
      let t = narrow_in f in
      let k = dim_in f in
      let l = degree_in f in
      let none : drop (end_in f) f ≡ [] = drop_of_length-le f {i = end_in f} (omega (arith, a.whole)) in
      setting-read r.head
      ∙ ap (λ (u : List ℕ). setting_record form (modulus_in f) (basis_in f) (shift_in f) ++ u)
      (record_read t (word_record_at form k) 87 (word_mark form) (2 ^ k) l r.word
      ∙ ap (λ (u : List ℕ). word_record form l (numbers_at t f (word_start form k) (2 ^ k)) ++ u)
      (record_read t (proof_record_at form l k) 80 (proof_mark form) (S k) l r.proof
      ∙ ap (λ (u : List ℕ). proof_record form l (numbers_at t f (proof_start form l k) (S k)) ++ u) none
      ∙ append-nil (proof_record form l (numbers_at t f (proof_start form l k) (S k)))))
