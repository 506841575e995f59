-- The byte string of a form, a setting, a word and a proof is accepted, and they are read from it. Assumes nothing.
use Rattle.std.specs.Prelude.{◌≡◌, Bool, ℕ, ◌+◌, ◌*◌, ◌^◌, ◌≤◌, ◌<◌}
use Rattle.std.proofs.Math.Path.{refl, sym, ap, subst, transport}
use Rattle.std.proofs.Common.{◌∙◌, lt_of_lt_of_le, length-append, pow_mono}
use Rattle.std.proofs.Math.Bool.{false}
use mathlib.Core.List.{List, [], ◌∷◌, ◌++◌, append-nil, append_assoc}
use native.Mathlib.Omega.{arith}
use Rattle.std.proofs.Math.ListN.{length}
use Rattle.lists.specs.All.{Below, All-append, All-of, All-inside}
use Rattle.lists.specs.Answers.{Passes}
use Rattle.lists.specs.Pick.{pick}
use Rattle.field.specs.Binary.{degree}
use Rattle.field.specs.Checks.{GoodModulus, degree_range}
use Rattle.space.specs.Sizes.{max_dim}
use Rattle.space.specs.Sound.{Sound}
use Rattle.proximity.specs.Dim.{S}
use Rattle.proximity.specs.LineLaws.{S-small}
use Rattle.stored.specs.Accepted.{Prefix}
use Rattle.stored.proofs.Accepted.{accepted_passes}
use Rattle.stored.specs.ByteLaws.{two_back, four_back, get_d_after, two-after, four_after, two-below, four_below}
use Rattle.stored.specs.Bytes.{two_bytes, four_bytes, packed, packed_size, two_at, four_at, numbers_at}
use Rattle.stored.specs.File.{setting_mark, word_mark, proof_mark, narrow_of, shift_bytes, Carries, setting_record, symbol_record, word_record, proof_record, file_of, word_record_at, word_start, proof_record_at, proof_start, file_end, form_in, modulus_in, dim_in, basis_in, shift_at, shift_in, word_in, proof_in}
use Rattle.stored.specs.Packed.{number_top, narrow_top, length_packed, numbers_after, numbers-front, packed-below}
use Rattle.stored.specs.Passed.{basis-first, Head, Held}
use Rattle.stored.specs.Reader.{file_checks}
use Rattle.stored.specs.Whole.{Delivery, Gives}
use Rattle.stored.specs.declared.Form.{Form}
use Rattle.stored.specs.declared.Form.TheVariants.{One, Two}

pub length_symbol_record : (t : Bool) (a b : ℕ) (xs : List ℕ) → length (symbol_record t a b xs) ≡ 6 + packed_size t (length xs)
length_symbol_record t a b xs = omega (arith, length_packed t xs)

pub length_setting_record : (form : Form) (m : ℕ) (bs : List ℕ) (σ : ℕ) → length (setting_record form m bs σ) ≡ word_record_at form (length bs)
length_setting_record One m bs σ = omega (arith, length-append (packed false bs) [], length_packed false bs)
length_setting_record Two m bs σ = omega (arith, length-append (packed false bs) (two_bytes σ), length_packed false bs)

-- a record of symbols below 2^l that stands after `front`
module _ (front rest xs : List ℕ) (t : Bool) (a b p l : ℕ) (at : p ≡ length front) (few : length xs < 4294967296) (short : Below (number_top t) xs) where
  abbrev file : List ℕ
  file = front ++ (symbol_record t a b xs ++ rest)

  pub numbers-written : numbers_at t file (p + 6) (length xs) ≡ xs
  numbers-written =
      numbers_after t front (symbol_record t a b xs ++ rest) 6 (p + 6) (length xs) (omega arith)
      ∙ numbers_after t (a ∷ b ∷ four_bytes (length xs)) (packed t xs ++ rest) 0 6 (length xs) refl
      ∙ numbers-front t xs rest short

  present : p + 6 + packed_size t (length xs) ≤ length file
  present = omega (arith, length-append front (symbol_record t a b xs ++ rest), length-append (symbol_record t a b xs) rest, length_symbol_record t a b xs)

  pub record_written : Below (2 ^ l) xs → Held t file p a b (length xs) l
  unfolding two_at four_at
  record_written s =
      record {
        opened = record {
          present = omega (arith, present);
          first = get_d_after front (symbol_record t a b xs ++ rest) 0 p (omega arith);
          second = get_d_after front (symbol_record t a b xs ++ rest) 1 (p + 1) (omega arith);
        };
        count = four_after front (symbol_record t a b xs ++ rest) 2 (p + 2) (omega arith) ∙ four_back (length xs) few;
        present = present;
        symbols = subst (Below (2 ^ l)) (sym numbers-written) s;
      }

-- the form that the second byte tells
pub form-told : (form : Form) (rest : List ℕ) → form_in (83 ∷ setting_mark form ∷ rest) ≡ form
unfolding form_in pick
form-told One rest = refl
form-told Two rest = refl

module _ (form : Form) (m : ℕ) (bs : List ℕ) (σ : ℕ) (w π : List ℕ) (d : Delivery m bs σ w π) (c : Carries form σ) where
  abbrev k : ℕ
  k = length bs

  abbrev t : Bool
  t = narrow_of form (degree m)

  abbrev f : List ℕ
  f = file_of form m bs σ w π

  symbols-small : 2 ^ degree m ≤ 65536
  symbols-small = pow_mono {i = degree m} {j = 16} (degree_range m d.setting.modulus).1

  below : (n : ℕ) → 2 ^ degree m ≤ n → (xs : List ℕ) → Below (2 ^ degree m) xs → Below n xs
  below n h xs b = All-of (λ (x : ℕ). x < n) xs 0 (λ i l. lt_of_lt_of_le (All-inside (λ (x : ℕ). x < 2 ^ degree m) xs 0 b i l) h)

  short : (xs : List ℕ) → Below (2 ^ degree m) xs → Below (number_top t) xs
  short = below (number_top t) (narrow_top form (degree m) (degree_range m d.setting.modulus).1)

  word_few : length w < 4294967296
  word_few = omega (arith, d.word, pow_mono {i = k} {j = max_dim} d.setting.high)

  proof_few : length π < 4294967296
  proof_few = omega (arith, d.proof, S-small k (omega (arith, d.setting.high)))

  pub file-form : form_in f ≡ form
  unfolding file_of
  file-form = form-told form (four_bytes m ++ (length bs ∷ packed false bs ++ shift_bytes form σ) ++ (word_record form (degree m) w ++ proof_record form (degree m) π))

  pub file-dim : dim_in f ≡ k
  unfolding file_of
  file-dim = refl

  pub file_modulus : modulus_in f ≡ m
  unfolding file_of two_at four_at
  file_modulus = four_back m (omega (arith, d.setting.modulus.high))

  abbrev front : List ℕ
  front = 83 ∷ setting_mark form ∷ four_bytes m ++ (length bs ∷ [])

  abbrev records : List ℕ
  records = word_record form (degree m) w ++ proof_record form (degree m) π

  grouped : f ≡ front ++ (packed false bs ++ (shift_bytes form σ ++ records))
  unfolding file_of
  grouped = ap (λ (u : List ℕ). front ++ u) (append_assoc (packed false bs) (shift_bytes form σ) records)

  basis-numbers : numbers_at false f 7 k ≡ bs
  basis-numbers =
      ap (λ (u : List ℕ). numbers_at false u 7 k) grouped
      ∙ numbers_after false front (packed false bs ++ (shift_bytes form σ ++ records)) 0 7 k refl
      ∙ numbers-front false bs (shift_bytes form σ ++ records) (below 65536 symbols-small bs d.setting.basis.elements)

  pub file-basis : basis_in f ≡ bs
  unfolding basis_in
  file-basis = ap (numbers_at false f 7) file-dim ∙ basis-numbers

  shift_first : two_at (two_bytes σ ++ records) 0 ≡ σ
  unfolding two_at
  shift_first = two_back σ (omega (arith, d.setting.shift, symbols-small))

  pub file_shift : shift_in f ≡ σ
  unfolding shift_in
  file_shift = ap (λ (g : Form). shift_at g f) file-form ∙ by form refl c
    where
      by : (g : Form) → form ≡ g → Carries g σ → shift_at g f ≡ σ
      by One e z = sym z
      by Two e z =
          ap (λ (u : List ℕ). two_at u (7 + 2 * dim_in f)) (grouped ∙ ap (λ (g : Form). front ++ (packed false bs ++ (shift_bytes g σ ++ records))) e)
          ∙ two-after front (packed false bs ++ (two_bytes σ ++ records)) (2 * dim_in f) (7 + 2 * dim_in f) (omega arith)
          ∙ two-after (packed false bs) (two_bytes σ ++ records) 0 (2 * dim_in f) (omega (arith, length_packed false bs, file-dim))
          ∙ shift_first

  -- the word's record and the proof's
  word_held : Held t f (word_record_at form k) 87 (word_mark form) (length w) (degree m)
  unfolding file_of
  word_held =
      record_written (setting_record form m bs σ) (proof_record form (degree m) π) w t 87 (word_mark form) (word_record_at form k) (degree m) (sym (length_setting_record form m bs σ)) word_few (short w d.word-symbols) d.word-symbols

  word-numbers : numbers_at t f (word_start form k) (length w) ≡ w
  unfolding file_of
  word-numbers =
      numbers-written (setting_record form m bs σ) (proof_record form (degree m) π) w t 87 (word_mark form) (word_record_at form k) (degree m) (sym (length_setting_record form m bs σ)) word_few (short w d.word-symbols)

  abbrev two : List ℕ
  two = setting_record form m bs σ ++ word_record form (degree m) w

  regroup : two ++ (proof_record form (degree m) π ++ []) ≡ f
  unfolding file_of
  regroup = ap (λ (u : List ℕ). two ++ u) (append-nil (proof_record form (degree m) π)) ∙ append_assoc (setting_record form m bs σ) (word_record form (degree m) w) (proof_record form (degree m) π)

  proof-place : proof_record_at form (degree m) k ≡ length two
  proof-place = omega (arith, length-append (setting_record form m bs σ) (word_record form (degree m) w), length_setting_record form m bs σ, length_symbol_record t 87 (word_mark form) w, ap (packed_size t) d.word)

  proof-held : Held t f (proof_record_at form (degree m) k) 80 (proof_mark form) (length π) (degree m)
  proof-held =
      subst (λ (u : List ℕ). Held t u (proof_record_at form (degree m) k) 80 (proof_mark form) (length π) (degree m)) regroup
      (record_written two [] π t 80 (proof_mark form) (proof_record_at form (degree m) k) (degree m) proof-place proof_few (short π d.proof-symbols) d.proof-symbols)

  proof-numbers : numbers_at t f (proof_start form (degree m) k) (length π) ≡ π
  proof-numbers =
      ap (λ (u : List ℕ). numbers_at t u (proof_start form (degree m) k) (length π)) (sym regroup)
      ∙ numbers-written two [] π t 80 (proof_mark form) (proof_record_at form (degree m) k) (degree m) proof-place proof_few (short π d.proof-symbols)

  pub length_file : length f ≡ file_end form (degree m) k
  length_file =
      ap length (sym regroup)
      ∙ omega (arith, length-append two (proof_record form (degree m) π ++ []), ap length (append-nil (proof_record form (degree m) π)), length_symbol_record t 80 (proof_mark form) π, proof-place, ap (packed_size t) d.proof)

  -- ---- what is read from the file

  -- a fact of the form, the dimension and the modulus holds of those in the file
  told : (T : Form → ℕ → ℕ → Type 0) → T form k m → T (form_in f) (dim_in f) (modulus_in f)
  told T x =
      subst (λ (g : Form). T g (dim_in f) (modulus_in f)) (sym file-form)
      (subst (λ (q : ℕ). T form (dim_in f) q) (sym file_modulus) (subst (λ (j : ℕ). T form j m) (sym file-dim) x))

  pub file_gives : Gives f form m bs σ w π
  unfolding word_in proof_in
  file_gives =
      record {
        form = file-form;
        modulus = file_modulus;
        basis = file-basis;
        shift = file_shift;
        word = told (λ g j q. numbers_at (narrow_of g (degree q)) f (word_start g j) (2 ^ j) ≡ w) (ap (numbers_at t f (word_start form k)) (sym d.word) ∙ word-numbers);
        proof = told (λ g j q. numbers_at (narrow_of g (degree q)) f (proof_start g (degree q) j) (S j) ≡ π) (ap (numbers_at t f (proof_start form (degree m) k)) (sym d.proof) ∙ proof-numbers);
      }

  head : Head f
  unfolding file_of
  head =
      record {
        opened = record { present = omega (arith, length_file, basis-first form k); first = refl; second = sym (ap setting_mark file-form) };
        modulus = subst GoodModulus (sym file_modulus) d.setting.modulus;
        low = d.setting.low;
        high = d.setting.high;
        basis = told (λ g j q. word_record_at g j ≤ length f) (omega (arith, length_file));
      }

  held : Prefix f
  held =
      record {
        head = head;
        setting = transport (λ i. Sound (sym file_modulus i) (sym file-basis i) (sym file_shift i)) d.setting;
        word = told (λ g j q. Held (narrow_of g (degree q)) f (word_record_at g j) 87 (word_mark g) (2 ^ j) (degree q))
            (subst (λ (c : ℕ). Held t f (word_record_at form k) 87 (word_mark form) c (degree m)) d.word word_held);
        proof = told (λ g j q. Held (narrow_of g (degree q)) f (proof_record_at g (degree q) j) 80 (proof_mark g) (S j) (degree q))
            (subst (λ (c : ℕ). Held t f (proof_record_at form (degree m) k) 80 (proof_mark form) c (degree m)) d.proof proof-held);
      }

  -- it is accepted
  pub file_accepted : Passes (file_checks f)
  file_accepted = accepted_passes f (record { records = held; whole = told (λ g j q. length f ≡ file_end g (degree q) j) length_file })

  -- it is made of bytes
  pub file_bytes : Below 256 f
  unfolding file_of
  file_bytes =
      All-append (λ (x : ℕ). x < 256) (setting_record form m bs σ) (word_record form (degree m) w ++ proof_record form (degree m) π) (
        omega arith,
        (
          mark_below form,
          All-append (λ (x : ℕ). x < 256) (four_bytes m) (k ∷ packed false bs ++ shift_bytes form σ) (four_below m)
              (omega (arith, d.setting.high), All-append (λ (x : ℕ). x < 256) (packed false bs) (shift_bytes form σ) (packed-below false bs (below 65536 symbols-small bs d.setting.basis.elements)) (shift_below form)),
        ),
      )
      (All-append (λ (x : ℕ). x < 256) (word_record form (degree m) w) (proof_record form (degree m) π) (symbols_bytes 87 (word_mark form) w (omega arith) (word_below form) (short w d.word-symbols))
      (symbols_bytes 80 (proof_mark form) π (omega arith) (proof-below form) (short π d.proof-symbols)))
    where
      mark_below : (g : Form) → setting_mark g < 256
      mark_below One = omega arith
      mark_below Two = omega arith

      word_below : (g : Form) → word_mark g < 256
      word_below One = omega arith
      word_below Two = omega arith

      proof-below : (g : Form) → proof_mark g < 256
      proof-below One = omega arith
      proof-below Two = omega arith

      shift_below : (g : Form) → Below 256 (shift_bytes g σ)
      shift_below One = tt
      shift_below Two = two-below σ

      symbols_bytes : (x y : ℕ) (xs : List ℕ) → x < 256 → y < 256 → Below (number_top t) xs → Below 256 (symbol_record t x y xs)
      symbols_bytes x y xs hx hy b = (hx, (hy, All-append (λ (u : ℕ). u < 256) (four_bytes (length xs)) (packed t xs) (four_below (length xs)) (packed-below t xs b)))
