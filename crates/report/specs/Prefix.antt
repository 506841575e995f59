-- The checks of the file at the front of a stream look at no byte past it. Assumes nothing.
use Rattle.std.specs.Prelude.{◌≡◌, refl, ◌⊎◌, ◌↔◌, Bool, true, List, ℕ, ◌+◌, ◌*◌, ◌^◌, ◌≤◌, ◌<◌, eqb, length, get_or, take}
use Rattle.std.proofs.Common.{sym, ◌∙◌, subst, inr, arith, length-take, get_or-take}
use Rattle.std.proofs.Math.Path.{ap, ap₂, transport}
use Rattle.std.proofs.Math.Bool.{false}
use Rattle.lists.specs.All.{Below}
use Rattle.lists.specs.Alike.{Alike, alike_path, alike_append, iff_not, iff_path}
use Rattle.lists.specs.Pick.{pick}
use Rattle.lists.specs.Tables.{tab_ext}
use Rattle.field.specs.Binary.{degree}
use Rattle.field.specs.Checks.{modulus_checks, not-less}
use Rattle.field.specs.Symbols.{symbols}
use Rattle.poly.specs.Span.{Independent}
use Rattle.space.specs.Setting.{setting_of}
use Rattle.space.specs.Sizes.{max_dim}
use Rattle.proximity.specs.Dim.{S}
use Rattle.stored.specs.Bytes.{packed_size, two_at, four_at, number_at, numbers_at}
use Rattle.stored.specs.File.{setting_mark, word_mark, proof_mark, narrow_of, word_record_at, word_start, proof_record_at, proof_start, file_end, form_in, modulus_in, degree_in, dim_in, basis_in, shift_at, shift_in, end_in, Opens}
use Rattle.stored.specs.Packed.{size-more}
use Rattle.stored.specs.Passed.{basis-first, head_passed}
use Rattle.stored.specs.Reader.{late_checks, head_checks, basis_checks, setting_checks, record_checks, word_checks, proof_checks, symbol_checks, read_of}
use Rattle.stored.specs.declared.Form.{Form}
use Rattle.stored.specs.declared.Form.TheVariants.{One, Two}

-- the first n bytes of the stream s
module _ (n : ℕ) (s : List ℕ) where
  abbrev f : List ℕ
  f = take n s

  byte : (i : ℕ) → i < n → get_or f i 0 ≡ get_or s i 0
  byte i h = get_or-take n s i 0 h

  two : (p : ℕ) → p + 2 ≤ n → two_at f p ≡ two_at s p
  unfolding two_at
  two p h = ap₂ (λ (a b : ℕ). a + 256 * b) (byte p (omega arith)) (byte (p + 1) (omega arith))

  four : (p : ℕ) → p + 4 ≤ n → four_at f p ≡ four_at s p
  unfolding four_at
  four p h = ap₂ (λ (a b : ℕ). a + 65536 * b) (two p (omega arith)) (two (p + 2) (omega arith))

  number : (t : Bool) (p i : ℕ) → p + packed_size t (i + 1) ≤ n → number_at t f p i ≡ number_at t s p i
  number true p i h = byte (p + i) (omega arith)
  number false p i h = two (p + 2 * i) (omega arith)

  numbers : (t : Bool) (p c : ℕ) → p + packed_size t c ≤ n → numbers_at t f p c ≡ numbers_at t s p c
  numbers t p c h = tab_ext c (λ i. number_at t f p i) (λ i. number_at t s p i) (λ i l. number t p i (omega (arith, size-more t l)))

  shorter : (p : ℕ) → p ≤ n → (length f < p) ↔ (length s < p)
  shorter p h = ((λ l. omega (arith, length-take n s)), λ l. omega (arith, length-take n s))

  opens : (p c a b : ℕ) → 2 ≤ c → p + c ≤ n → Opens f p c a b ↔ Opens s p c a b
  opens p c a b l h = (
    (λ o. record { present = omega (arith, o.present, length-take n s); first = sym (byte p (omega arith)) ∙ o.first; second = sym (byte (p + 1) (omega arith)) ∙ o.second }),
    λ o. record { present = omega (arith, o.present, length-take n s); first = byte p (omega arith) ∙ o.first; second = byte (p + 1) (omega arith) ∙ o.second },
  )

  record_alike : (t : Bool) (p a b c l : ℕ) → p + 6 + packed_size t c ≤ n → Alike (record_checks t f p a b c l) (record_checks t s p a b c l)
  record_alike t p a b c l h = (
    refl,
    iff_not (opens p 6 a b (omega arith) (omega arith)),
    λ _. (
      refl,
      iff_not (iff_path (λ x. x ≡ c) (four (p + 2) (omega arith))),
      λ _. (
        refl,
        shorter (p + 6 + packed_size t c) h,
        λ _. (refl, iff_not (same (numbers t (p + 6) c h)), λ _. tt),
      ),
    ),
  )
    where
      same : {xs ys : List ℕ} → xs ≡ ys → Below (2 ^ l) xs ↔ Below (2 ^ l) ys
      same e = (subst (Below (2 ^ l)) e, subst (Below (2 ^ l)) (sym e))

  records_alike : (g : Form) (k l : ℕ) → file_end g l k ≤ n → Alike (symbol_checks g f k l) (symbol_checks g s k l)
  records_alike g k l h =
      alike_append (word_checks g f k l) (word_checks g s k l) (proof_checks g f k l) (proof_checks g s k l)
      (record_alike (narrow_of g l) (word_record_at g k) 87 (word_mark g) (2 ^ k) l (omega arith))
      (λ _. record_alike (narrow_of g l) (proof_record_at g l k) 80 (proof_mark g) (S k) l h)

  -- mark, modulus and k are among them
  module _ (start : 7 ≤ n) where
    form : form_in f ≡ form_in s
    unfolding form_in
    form = ap (λ (b : ℕ). pick (eqb b (setting_mark Two)) Two One) (byte 1 (omega arith))

    modulus : modulus_in f ≡ modulus_in s
    modulus = four 2 (omega arith)

    pub dimension : dim_in f ≡ dim_in s
    dimension = byte 6 (omega arith)

    pub same_end : end_in f ≡ end_in s
    same_end = λ i. file_end (form i) (degree (modulus i)) (dimension i)

    -- the two records past the setting's
    pub symbol_alike : end_in s ≤ n → Alike (symbol_checks (form_in f) f (dim_in f) (degree_in f)) (symbol_checks (form_in s) s (dim_in s) (degree_in s))
    symbol_alike h =
        transport (λ i. Alike (symbol_checks (sym form i) f (sym dimension i) (degree (sym modulus i))) (symbol_checks (form_in s) s (dim_in s) (degree_in s)))
        (records_alike (form_in s) (dim_in s) (degree_in s) h)

    -- the setting record is among them
    module _ (h : word_record_at (form_in s) (dim_in s) ≤ n) where
      basis : basis_in f ≡ basis_in s
      unfolding basis_in
      basis = ap (numbers_at false f 7) dimension ∙ numbers false 7 (dim_in s) (omega (arith, basis-first (form_in s) (dim_in s)))

      shift_at_lem : (g : Form) → word_record_at g (dim_in s) ≤ n → shift_at g f ≡ shift_at g s
      shift_at_lem One l = refl
      shift_at_lem Two l = ap (λ (k : ℕ). two_at f (7 + 2 * k)) dimension ∙ two (7 + 2 * dim_in s) (omega arith)

      shift : shift_in f ≡ shift_in s
      unfolding shift_in
      shift = ap (λ (g : Form). shift_at g f) form ∙ shift_at_lem (form_in s) h

      basis_alike : Alike (basis_checks f) (basis_checks s)
      basis_alike = (
        refl,
        iff_not (all (λ m bs σ. Below (2 ^ degree m) bs)),
        λ _. (refl, iff_not (all (λ m bs σ. σ < 2 ^ degree m)), λ _. (refl, iff_not (all (λ m bs σ. Independent (symbols m) bs)), λ _. tt)),
      )
        where
          all : (T : ℕ → List ℕ → ℕ → Type 0) → T (modulus_in f) (basis_in f) (shift_in f) ↔ T (modulus_in s) (basis_in s) (shift_in s)
          all T = (transport (λ i. T (modulus i) (basis i) (shift i)), transport (λ i. T (sym modulus i) (sym basis i) (sym shift i)))

      -- what a reader hands back of them
      pub read_alike : read_of f ≡ read_of s
      unfolding read_of
      read_alike =
          let g = form in
          let m = modulus in
          let d = dimension in
          let b = basis in
          let σ = shift in
          λ i. record {
            form = g i;
            setting = setting_of (m i) (b i) (σ i);
            narrow = narrow_of (g i) (degree (m i));
            word = word_start (g i) (d i);
            proof = proof_start (g i) (degree (m i)) (d i);
            end = same_end i;
          }

    -- it is among them where its dimension is in range
    module _ (room : dim_in s ≤ max_dim → word_record_at (form_in s) (dim_in s) ≤ n) where
      late_alike : Alike (late_checks f) (late_checks s)
      late_alike = (
        refl,
        iff_path (λ k. (k < 3) ⊎ (max_dim < k)) dimension,
        λ g. (
          refl,
          let h : dim_in f ≤ max_dim = not-less (λ l. g (inr l)) in
              let w = shorter (word_record_at (form_in s) (dim_in s)) (room (omega (arith, dimension))) in
              let size : word_record_at (form_in f) (dim_in f) ≡ word_record_at (form_in s) (dim_in s) = ap₂ word_record_at form dimension in
              ((λ l. w.0 (omega (arith, size))), λ l. omega (arith, w.1 l, size)),
          λ _. tt,
        ),
      )

      head_alike : Alike (head_checks f) (head_checks s)
      head_alike = (
        refl,
        iff_not (subst (λ (g : Form). Opens f 0 7 83 (setting_mark g) ↔ Opens s 0 7 83 (setting_mark (form_in s))) (sym form) (opens 0 7 83 (setting_mark (form_in s)) (omega arith) (omega arith))),
        λ _. alike_append (modulus_checks (modulus_in f)) (modulus_checks (modulus_in s)) (late_checks f) (late_checks s) (alike_path modulus_checks modulus) (λ _. late_alike),
      )

      pub setting_alike : Alike (setting_checks f) (setting_checks s)
      setting_alike =
          alike_append (head_checks f) (head_checks s) (basis_checks f) (basis_checks s) head_alike
          (λ p. basis_alike (room (omega (arith, dimension, (head_passed f p).high))))
