-- Decoding after encoding gives the coefficients back, and encoding after decoding the word, at each modulus, each basis and each shift. Assumes nothing.
use Rattle.std.specs.Prelude.{◌≡◌, refl, List, ◌++◌, ℕ, ◌-◌, ◌^◌, ◌≤◌, length, Result, Ok, Err}
use Rattle.std.proofs.Common.{sym, ◌∙◌, subst, inl, inr, arith}
use Rattle.lists.specs.All.{All, Below, below_stable}
use Rattle.lists.specs.Answers.{Checks, Passes, not_refused, answers-after, passes-each}
use Rattle.lists.specs.Tables.{length_tab, All-tab}
use Rattle.field.specs.Binary.{degree}
use Rattle.field.specs.Laws.{IsField}
use Rattle.field.specs.Symbols.{symbols}
use Rattle.poly.specs.Poly.{eval}
use Rattle.poly.proofs.Poly.{eval_sym}
use Rattle.poly.specs.Span.{elem}
use Rattle.poly.proofs.Span.{elem_sym}
use Rattle.poly.specs.Shift.{word_at}
use Rattle.poly.proofs.Shift.{decode_unique_at}
use Rattle.space.specs.Setting.{setting_checks}
use Rattle.space.specs.Sound.{Sound, sound, sound_field, setting_numbered}
use Rattle.refusals.specs.declared.Refusal.{Refusal}
use Rattle.codec.specs.Calls.{length_checks, symbol_checks, word_checks, encode_checks, decode_checks, Encoded, Decoded}
use Rattle.codec.specs.Checks.{early_checks, early_numbered}
use Rattle.lists.specs.Lengths.{lengths-right, lengths-passed}
use Rattle.codec.specs.Scratch.{scratch_for}

module _ (m : ℕ) (bs : List ℕ) (σ : ℕ) where
  -- what passes checks 1 to 7
  record Past (a b s : ℕ) : Type 0 where
    setting : Passes (setting_checks m bs σ)
    lengths : (a ≡ 2 ^ (length bs - 3)) × (b ≡ 2 ^ length bs) × (scratch_for (length bs) ≤ s)

  past : (a b s : ℕ) (ds : Checks) → Passes (early_checks m bs σ a b s ++ ds) → Past a b s × Passes ds
  past a b s ds p =
      let both = passes-each (early_checks m bs σ a b s) ds (early_numbered m bs σ a b s) p in
      let first = passes-each (setting_checks m bs σ) (length_checks (length bs) a b s) (setting_numbered m bs σ) both.0 in
      (record { setting = first.0; lengths = lengths-passed a (2 ^ (length bs - 3)) b (2 ^ length bs) s (scratch_for (length bs)) first.1 }, both.1)

  passing : (a b s : ℕ) (ds : Checks) → Past a b s → Passes ds → Passes (early_checks m bs σ a b s ++ ds)
  passing a b s ds t p =
      answers-after (early_checks m bs σ a b s) ds 0 (early_numbered m bs σ a b s)
      (answers-after (setting_checks m bs σ) (length_checks (length bs) a b s) 0 (setting_numbered m bs σ) t.setting
      (lengths-right a (2 ^ (length bs - 3)) b (2 ^ length bs) s (scratch_for (length bs)) t.lengths.0 t.lengths.1 t.lengths.2))
      p

  symbols-passed : (xs : List ℕ) → Passes (symbol_checks m xs) → Below (2 ^ degree m) xs
  symbols-passed xs (inl p) = absurd (omega arith)
  symbols-passed xs (inr p) = below_stable (2 ^ degree m) xs p.0

  module _ (S : Sound m bs σ) where
    abbrev F : IsField (symbols m)
    F = sound_field S

    word-symbols : (p : List ℕ) → All (symbols m).Sym p → All (symbols m).Sym (word_at (symbols m) σ (length bs) bs p)
    word-symbols p sp =
        All-tab (symbols m).Sym (2 ^ length bs) (λ i. eval (symbols m) p ((symbols m).◌⊕◌ σ (elem (symbols m) bs i)))
        (λ i h. eval_sym F p ((symbols m).◌⊕◌ σ (elem (symbols m) bs i)) sp (F.sym_sum S.shift (elem_sym F bs i S.basis.elements)))

    -- the word of coefficients passes checks 9 and 10
    pub word-passes : (p w : List ℕ) → length p ≡ 2 ^ (length bs - 3) → All (symbols m).Sym p → w ≡ word_at (symbols m) σ (length bs) bs p → Passes (word_checks m bs σ w)
    word-passes p w lp sp e = inr ((λ f. f (subst (Below (2 ^ degree m)) (sym e) (word-symbols p sp))), inr ((λ f. f (p, lp, sp, e)), refl))

    pub length_word : (p w : List ℕ) → w ≡ word_at (symbols m) σ (length bs) bs p → length w ≡ 2 ^ length bs
    length_word p w e = subst (λ (l : List ℕ). length l ≡ 2 ^ length bs) (sym e) (length_tab (2 ^ length bs) (λ i. eval (symbols m) p ((symbols m).◌⊕◌ σ (elem (symbols m) bs i))))

  -- what is decoded from an encoded word, by a call with enough room, is the coefficients
  pub decode_encoded : (p w w' s s' c c' t t' : List ℕ) (r : Result (Unit {0}) Refusal) → Encoded m bs σ p w w' s s' (Ok tt)
      → length c ≡ 2 ^ (length bs - 3) → scratch_for (length bs) ≤ length t → Decoded m bs σ w' c c' t t' r → (r ≡ Ok tt) × (c' ≡ p)
  decode_encoded p w w' s s' c c' t t' r e lc lt = by r
    where
      before : Past (length p) (length w) (length s) × Passes (symbol_checks m p)
      before = past (length p) (length w) (length s) (symbol_checks m p) e.passes

      S : Sound m bs σ
      S = sound m bs σ before.0.setting

      sp : All (symbols m).Sym p
      sp = symbols-passed p before.1

      lp : length p ≡ 2 ^ (length bs - 3)
      lp = before.0.lengths.0

      fine : Passes (decode_checks m bs σ w' (length c) (length t))
      fine =
          passing (length c) (length w') (length t) (word_checks m bs σ w')
          (record { setting = before.0.setting; lengths = (lc, length_word S p w' e.right, lt) })
          (word-passes S p w' lp sp e.right)

      by : (r : Result (Unit {0}) Refusal) → Decoded m bs σ w' c c' t t' r → (r ≡ Ok tt) × (c' ≡ p)
      by (Ok u) d = (refl, decode_unique_at (sound_field S) σ S.shift (length bs) bs S.basis c' p d.right.count lp d.right.elements sp (sym d.right.word-is ∙ e.right))
      by (Err x) d = absurd (not_refused (decode_checks m bs σ w' (length c) (length t)) fine d.refuses)

  -- what is encoded from decoded coefficients, by a call with enough room, is the word
  pub encode_decoded : (w c c' s s' v v' t t' : List ℕ) (r : Result (Unit {0}) Refusal) → Decoded m bs σ w c c' s s' (Ok tt)
      → length v ≡ 2 ^ length bs → scratch_for (length bs) ≤ length t → Encoded m bs σ c' v v' t t' r → (r ≡ Ok tt) × (v' ≡ w)
  encode_decoded w c c' s s' v v' t t' r d lv lt = by r
    where
      before : Past (length c) (length w) (length s) × Passes (word_checks m bs σ w)
      before = past (length c) (length w) (length s) (word_checks m bs σ w) d.passes

      fine : Passes (encode_checks m bs σ c' (length v) (length t))
      fine =
          passing (length c') (length v) (length t) (symbol_checks m c')
          (record { setting = before.0.setting; lengths = (d.right.count, lv, lt) })
          (inr ((λ f. f d.right.elements), refl))

      by : (r : Result (Unit {0}) Refusal) → Encoded m bs σ c' v v' t t' r → (r ≡ Ok tt) × (v' ≡ w)
      by (Ok u) e = (refl, e.right ∙ sym d.right.word-is)
      by (Err x) e = absurd (not_refused (encode_checks m bs σ c' (length v) (length t)) fine e.refuses)
