-- The printed sentences for the two forms of a stored file. `Wrote form m bs σ w π old new u` is the contract of filing's `write` (form 1, the
-- shift 0) and `write_form_two`, `Converted f old new u` that of `convert`: the answer is u, the lent output is old before and new after.
-- `LengthTold f r` is that of `converted_length`. A list f of bytes has `Below 256 f`.
use Rattle.std.specs.Prelude.{◌≡◌, refl, ◌↔◌, Result, Ok, Err, List, [], ◌∷◌, map, ℕ, ◌+◌, ◌*◌, ◌≤◌, ◌<◌, length, get_or}
use Rattle.std.proofs.Common.{sym, ap, ◌∙◌, subst, inl, inr, arith}
use Rattle.std.proofs.Math.Decide.{ℕ_discrete}
use Rattle.lists.specs.All.{Below}
use Rattle.lists.specs.Answers.{Checks, Answers, Passes, Refuses, answers-after, answers_one, refused_first, not_refused}
use Rattle.refusals.specs.Gives.{one_reason}
use Rattle.refusals.specs.Refusal.{number}
use Rattle.refusals.specs.declared.Refusal.{Refusal}
use Rattle.refusals.specs.declared.Refusal.TheVariants.{Shifted}
use Rattle.field.specs.Checks.{GoodModulus, good_passes}
use Rattle.space.specs.Sizes.{max_dim}
use Rattle.space.specs.Sound.{outside}
use Rattle.proximity.specs.Dim.{dim}
use Rattle.proximity.specs.Verifier.{positions, read_at}
use Rattle.verifier.specs.declared.Verdict.{Verdict}
use Rattle.stored.proofs.Accepted.{setting_numbered, accepted}
use Rattle.stored.specs.Check.{AnsweredFile}
use Rattle.stored.specs.File.{setting_mark, word_mark, proof_mark, Carries, word_record_at, proof_record_at, file_end, form_in, modulus_in, degree_in, dim_in, basis_in, shift_at, shift_in, word_in, proof_in, end_in, Opens}
use Rattle.stored.specs.Passed.{form-two, length_basis, head-late}
use Rattle.stored.specs.Reader.{head_checks, basis_checks, setting_checks, word_checks, proof_checks, symbol_checks, prefix_checks, file_checks}
use Rattle.stored.specs.Whole.{Gives}
use Rattle.stored.proofs.Whole.{accepted_delivery}
use Rattle.stored.specs.declared.Form.{Form}
use Rattle.stored.specs.declared.Form.TheVariants.{One, Two}
use Rattle.filing.specs.Convert.{other, converted, converted_end, convert_checks, Converted, LengthTold}
use Rattle.filing.specs.ConvertLaws.{one-file, converted_accepted, converted_gives, length_converted, there_and_back, shift_refused, shift_passes, convert_refused, convert_long, convert_passes, convert_passed}
use Rattle.filing.specs.Filed.{Filed}
use Rattle.filing.specs.Writer.{Wrote, writer_checks}
use Rattle.filing.specs.WriterLaws as writer
use Rattle.terms.specs.Files.{alike_files}

-- the marks of the two forms differ
marks_differ : (g : Form) → (word_mark g ≡ word_mark (other g) → ⊥) × (proof_mark g ≡ proof_mark (other g) → ⊥)
marks_differ One = (λ e. absurd (omega arith), λ e. absurd (omega arith))
marks_differ Two = (λ e. absurd (omega arith), λ e. absurd (omega arith))

-- a call that no check refuses writes its file
filed : (cs : Checks) (file old new : List ℕ) (u : Result (Unit {0}) Refusal) → Passes cs → Filed cs file old new u → (u ≡ Ok tt) × (new ≡ file)
filed cs file old new (Ok x) p (q, e) = (refl, e)
filed cs file old new (Err x) p (r, e) = absurd (not_refused cs p r)

-- a call that a check refuses has its reason
refused_by : (cs : Checks) (file old new : List ℕ) (u : Result (Unit {0}) Refusal) (d : Refusal) → Refuses cs (number d) → Filed cs file old new u → u ≡ Err d
refused_by cs file old new (Ok x) d r (p, e) = absurd (not_refused cs p r)
refused_by cs file old new (Err x) d (l, a) ((k, b), e) = ap Err (one_reason {d = x} {e = d} (answers_one cs b a))

-- ---- the reader

module _ (f : List ℕ) where
  abbrev records : Checks
  records = symbol_checks (form_in f) f (dim_in f) (degree_in f)

  abbrev end : Checks
  end = (12, end_in f < length f) ∷ []

  -- A file of form 2 that ends before its shift is whole gets 11, whatever its basis holds.
  pub shift_missing : Opens f 0 7 83 (setting_mark Two) → GoodModulus (modulus_in f) → 3 ≤ dim_in f → dim_in f ≤ max_dim → length f < 9 + 2 * dim_in f → Answers (file_checks f) 11
  shift_missing o g l h short =
      refused_first (prefix_checks f) end 11 (omega arith)
      (refused_first (setting_checks f) records 11 (omega arith)
      (refused_first (head_checks f) (basis_checks f) 11 (omega arith)
      (head-late f (subst (λ (x : Form). Opens f 0 7 83 (setting_mark x)) (sym two) o) 11 (good_passes (modulus_in f) g)
      (inr (outside l h, inl (subst (λ (x : Form). length f < word_record_at x (dim_in f)) (sym two) short, refl))))))
    where
      two : form_in f ≡ Two
      two = form-two f o.second

  -- Past the setting's record, one of the word or of the proof with the mark of the other form gets 11.
  module _ (p : Passes (setting_checks f)) where
    late : Answers records 11 → Answers (file_checks f) 11
    late a = refused_first (prefix_checks f) end 11 (omega arith) (answers-after (setting_checks f) records 11 (setting_numbered f) p a)

    pub other-word_mark : get_or f (word_record_at (form_in f) (dim_in f) + 1) 0 ≡ word_mark (other (form_in f)) → Answers (file_checks f) 11
    other-word_mark e = late (inl ((λ o. (marks_differ (form_in f)).0 (sym o.second ∙ e)), refl))

    pub other-proof_mark : Passes (word_checks (form_in f) f (dim_in f) (degree_in f)) → get_or f (proof_record_at (form_in f) (degree_in f) (dim_in f) + 1) 0 ≡ proof_mark (other (form_in f)) → Answers (file_checks f) 11
    other-proof_mark q e =
        late (answers-after (word_checks (form_in f) f (dim_in f) (degree_in f)) (proof_checks (form_in f) f (dim_in f) (degree_in f)) 11
        (omega arith, (omega arith, (omega arith, (omega arith, tt)))) q (inl ((λ o. (marks_differ (form_in f)).1 (sym o.second ∙ e)), refl)))

-- ---- the writers

module _ (form : Form) (m : ℕ) (bs : List ℕ) (σ : ℕ) (w π old new : List ℕ) where
  -- What is written is read back: the form, the setting with its shift, the word and the proof.
  pub written_back : Carries form σ → Wrote form m bs σ w π old new (Ok tt) → Passes (file_checks new) × Gives new form m bs σ w π
  written_back c (p, e) =
      subst (λ (f : List ℕ). Passes (file_checks f) × Gives f form m bs σ w π) (sym e) (writer.written_back form m bs σ w π (length old) p c)

  -- It is the only byte string that the reader takes for them in that form.
  pub written-alone : (f : List ℕ) → Below 256 f → Passes (file_checks f) → Gives f form m bs σ w π → Wrote form m bs σ w π old new (Ok tt) → f ≡ new
  written-alone f b q g (p, e) = one-file b q g ∙ sym e

-- So each accepted file is what the writer makes, of the form, the setting, the word and the proof in it.
pub accepted_written : (f : List ℕ) → Below 256 f → Passes (file_checks f) → (old new : List ℕ) (u : Result (Unit {0}) Refusal) → length old ≡ length f
    → Wrote (form_in f) (modulus_in f) (basis_in f) (shift_in f) (word_in f) (proof_in f) old new u → (u ≡ Ok tt) × (new ≡ f)
accepted_written f b p old new u l t =
    let room : length old ≡ file_end (form_in f) (degree_in f) (length (basis_in f)) = l ∙ (accepted f p).whole ∙ ap (file_end (form_in f) (degree_in f)) (sym (length_basis f)) in
    let (e, w) = filed (writer_checks (form_in f) (modulus_in f) (basis_in f) (shift_in f) (word_in f) (proof_in f) (length old)) _ old new u (writer.writer_passes (form_in f) (modulus_in f) (basis_in f) (shift_in f) (word_in f) (proof_in f) (length old) (accepted_delivery f p) room) t in
    (e, w ∙ sym (one-file b p (record { form = refl; modulus = refl; basis = refl; shift = refl; word = refl; proof = refl })))

-- ---- the converter

-- A file of form 1 means the shift 0.
pub form-one_unshifted : (f : List ℕ) → form_in f ≡ One → shift_in f ≡ 0
unfolding shift_in
form-one_unshifted f e = ap (λ (g : Form). shift_at g f) e

module _ (f old new : List ℕ) where
  -- An accepted file gets `Shifted`, number 14, exactly where its shift is not 0, whatever the output's length;
  pub fourteen_exactly : Passes (file_checks f) → (u : Result (Unit {0}) Refusal) → Converted f old new u → (u ≡ Err Shifted) ↔ (shift_in f ≡ 0 → ⊥)
  fourteen_exactly p u t = (
    (λ e z. by (ℕ_discrete (length old) (converted_end f)) z (subst (Converted f old new) e t).0),
    λ n. refused_by (convert_checks f (length old)) (converted f) old new u Shifted (omega arith, convert_refused f (length old) 14 (omega arith) (shift_refused f p n)) t,
  )
    where
      by : Dec (length old ≡ converted_end f) → shift_in f ≡ 0 → Refuses (convert_checks f (length old)) 14 → ⊥
      by (yes e) z r = not_refused (convert_checks f (length old)) (convert_passes f (length old) (shift_passes f p z) e) r
      by (no n) z (l, a) = absurd (omega (arith, answers_one (convert_checks f (length old)) a (convert_long f (length old) (shift_passes f p z) n)))

  -- An output of the length that the length call tells is not refused.
  pub length_enough : (n : ℕ) → LengthTold f (Ok n) → length old ≡ n → (u : Result (Unit {0}) Refusal) → Converted f old new u → u ≡ Ok tt
  length_enough n (p, e) l u c = (filed (convert_checks f (length old)) (converted f) old new u (convert_passes f (length old) p (l ∙ e)) c).0

  module _ (c : Converted f old new (Ok tt)) where
    passed : Passes (file_checks f) × (shift_in f ≡ 0) × (length old ≡ converted_end f)
    passed = convert_passed f (length old) c.0

    -- What is converted is accepted, in the other form, with the same setting, word and proof.
    pub converted_holds : Passes (file_checks new) × Gives new (other (form_in f)) (modulus_in f) (basis_in f) 0 (word_in f) (proof_in f)
    converted_holds =
        subst (λ (g : List ℕ). Passes (file_checks g) × Gives g (other (form_in f)) (modulus_in f) (basis_in f) 0 (word_in f) (proof_in f)) (sym c.1)
        (converted_accepted f passed.0, converted_gives f passed.0)

    -- There and back gives the first bytes, from either form.
    pub converted-back : Below 256 f → (last final : List ℕ) (u : Result (Unit {0}) Refusal) → length last ≡ length f → Converted new last final u → (u ≡ Ok tt) × (final ≡ f)
    converted-back b last final u l d =
        let first : converted new ≡ f = ap converted c.1 ∙ there_and_back f passed.0 b passed.1 in
        let room : length last ≡ converted_end new = l ∙ ap length (sym first) ∙ length_converted new converted_holds.0 in
        let (e, w) = filed (convert_checks new (length last)) (converted new) last final u (convert_passes new (length last) (shift_passes new converted_holds.0 converted_holds.1.shift) room) d in
        (e, w ∙ first)

    -- Both files get the same answer at each coin.
    pub converted-answers : (coin : ℕ) (v : Result Verdict Refusal) → AnsweredFile f coin v ↔ AnsweredFile new coin v
    converted-answers coin v =
        let (q, g) = converted_holds in (
          alike_files f new passed.0 q (sym g.modulus) (sym g.basis) coin (λ i. map (read_at (sym g.word i) (sym g.proof i)) (positions (dim (dim_in f)) coin)) v,
          alike_files new f q passed.0 g.modulus g.basis coin (λ i. map (read_at (g.word i) (g.proof i)) (positions (dim (dim_in new)) coin)) v,
        )
