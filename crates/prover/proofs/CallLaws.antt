-- The checks of the call, and what each exit leaves. Assumes nothing.
use mathlib.Core.Path.{◌≡◌, sym, ap, ◌∙◌, subst}
use mathlib.Core.Logic.{inl, inr}
use mathlib.Core.List.{List}
use Prim.Native.Nat.{ℕ, ◌^◌, ◌≤◌}
use native.Mathlib.Omega.{arith}
use lib.ListN.{length}
use Rattle.std.specs.Prelude.{Result, Ok, Err}
use Rattle.lists.specs.Answers.{Passes}
use Rattle.lists.specs.Calls.{zeros}
use Rattle.lists.specs.Lengths.{lengths-passed}
use Rattle.refusals.specs.declared.Refusal.{Refusal}
use Rattle.field.specs.Laws.{IsField}
use Rattle.field.specs.Symbols.{symbols, symbols-field}
use Rattle.poly.specs.Codeword.{Codeword}
use Rattle.poly.proofs.Shift.{codeword_shift}
use Rattle.space.specs.Ready.{Ready, ready}
use Rattle.space.specs.Setting.{setting_of, Settled}
use Rattle.space.specs.Sound.{Sound, sound, sound_field}
use Rattle.space.specs.Usable.{ready_basis, own_ready}
use Rattle.space.specs.declared.Setting.{Setting}
use Rattle.proximity.specs.Dim.{dim, S}
use Rattle.proximity.specs.Prover.{written-proof}
use Rattle.codec.specs.Calls.{word_checks}
use Rattle.codec.specs.Scratch.{scratch_for}
use Rattle.codec.proofs.CallLaws.{Late, told_late, late_right, late_symbol, late_codeword, own_setting}
use Rattle.prover.specs.Prover.{Proving, Proved}
use Rattle.prover.specs.Calls.{length_checks, ProofAt, ProofOf, Proven, InSetting, ProvenWith}
use Rattle.prover.specs.Determined.{proof_shift}

-- ---- the proof

module _ {s : Setting} {bs : List ℕ} (r : Ready s.field.modulus bs s) (word : List ℕ) (c : Codeword (symbols s.field.modulus) s.space.k bs word) where
  pub proving : Proving s.field s.space.k s.space.images word
  proving =
      record {
        sized = r.sized;
        irreducible = r.sound.modulus.irreducible;
        low = omega (arith, r.dimension, r.sound.low);
        high = omega (arith, r.dimension, r.sound.high);
        basis = bs;
        right = ready_basis r;
        table = r.images;
        code = c;
      }

  pub proof_of_lem : (π : List ℕ) → length π ≡ S s.space.k → Proved s.field.modulus s.space.k s.space.images word π → ProofOf s.field.modulus bs word π
  proof_of_lem π l p = at s.space.k r.dimension c l p
    where
      F : IsField (symbols s.field.modulus)
      F = symbols-field s.field.modulus r.sound.modulus.irreducible

      at : (k : ℕ) → k ≡ length bs → Codeword (symbols s.field.modulus) k bs word → length π ≡ S k → Proved s.field.modulus k s.space.images word π → ProofOf s.field.modulus bs word π
      at k e c l p =
          let d : Codeword (symbols s.field.modulus) (length bs) bs word = subst (λ (i : ℕ). Codeword (symbols s.field.modulus) i bs word) e c in
          let W = subst (λ (i : ℕ). Proved s.field.modulus i s.space.images word π) e p bs r.sound.basis r.images d in (
            d.0,
            record {
              count = d.1;
              elements = d.2;
              word = d.3;
              proof = written-proof F (dim (length bs)) bs word π d.0 r.sound.basis d.1 d.2 d.3 (l ∙ ap S e) W;
            },
          )

-- ---- past check 7

module _ (m : ℕ) (bs : List ℕ) (σ : ℕ) (s : Setting) (g : Settled m bs σ (Ok s)) (word proof scratch : List ℕ) (q : Passes (length_checks (length bs) (length word) (length proof) (length scratch))) where
  pub in_setting : InSetting s word proof scratch
  in_setting =
      let r = ready m bs σ s g in
      let (w, p, l) = lengths-passed (length word) (2 ^ length bs) (length proof) (S (length bs)) (length scratch) (scratch_for (length bs)) q in
      record {
        basis = bs;
        ready = own_ready r;
        whole = w ∙ ap (λ (i : ℕ). 2 ^ i) (sym r.dimension);
        size = p ∙ ap S (sym r.dimension);
        room = subst (λ (i : ℕ). scratch_for i ≤ length scratch) (sym r.dimension) l;
      }

  module _ (new left : List ℕ) (z : left ≡ zeros (length scratch)) (r : Result (Unit {0}) Refusal) where
    valid : Sound m bs σ
    valid = sound m bs σ g.0

    prove_late : (r : Result (Unit {0}) Refusal) → ProvenWith (setting_of m bs σ) word proof new r → Late (word_checks m bs σ word) (ProofAt m bs σ word) proof new r
    unfolding setting_of
    prove_late (Ok u) (b, w) =
        let π : ProofAt m bs σ word new = (proof_shift valid word new).1 (w bs (own_setting m bs σ g.0)) in
        late_right m bs σ word (ProofAt m bs σ word) proof new b (π.0, π.1.count, π.1.elements, π.1.word) π
    prove_late (Err e) (inl (h, b, w)) = late_symbol m bs σ word (ProofAt m bs σ word) proof new e h b w
    prove_late (Err e) (inr (h, b, f, w)) =
        late_codeword m bs σ word (ProofAt m bs σ word) proof new e h b (λ c. f bs (own_setting m bs σ g.0) ((codeword_shift (sound_field valid) σ valid.shift (length bs) bs word).0 c)) w

    pub prove_told : ProvenWith s word proof new r → Proven m bs σ word proof new scratch left r
    prove_told e =
        told_late m bs σ _ _ (word_checks m bs σ word) s g q (ProofAt m bs σ word) proof new scratch left z r
        (prove_late r (subst (λ (t : Setting). ProvenWith t word proof new r) g.1 e))
