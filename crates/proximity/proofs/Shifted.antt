-- A word with its proof is that of a polynomial at each shift or at none. Assumes nothing.
use Rattle.std.specs.Prelude.{◌↔◌, List, ℕ}
use Rattle.std.proofs.Common.{sym, ap, ◌∙◌}
use Rattle.field.specs.Laws.{Ops, IsField}
use Rattle.poly.specs.Codeword.{Basis}
use Rattle.poly.specs.Shift.{shift_p, length_shift_p}
use Rattle.poly.proofs.Shift.{shift_p_sym, word_shift, word_unshift, shift_twice}
use Rattle.proximity.specs.Dim.{Dim}
use Rattle.proximity.specs.Proof.{proof_of, Honest}
use Rattle.proximity.specs.Shifted.{HonestAt}

module _ {K : Ops} (F : IsField K) (σ : ℕ) (sσ : K.Sym σ) {k : ℕ} (d : Dim k) (b : List ℕ) (B : Basis K k b) (w π : List ℕ) where
  to_unshifted : (P : List ℕ) → HonestAt K σ d b w π P → Honest K d b w π (shift_p K σ P)
  to_unshifted P H =
      record { count = length_shift_p K σ P ∙ H.count; elements = shift_p_sym F σ P sσ H.elements; word = H.word ∙ word_shift F σ k b P; proof = H.proof }

  to-shifted : (P : List ℕ) → Honest K d b w π P → HonestAt K σ d b w π (shift_p K σ P)
  to-shifted P H =
      record {
        count = length_shift_p K σ P ∙ H.count;
        elements = shift_p_sym F σ P sσ H.elements;
        word = H.word ∙ word_unshift F σ k b P;
        proof = H.proof ∙ ap (proof_of K d b) (sym (shift_twice F σ sσ k b B P H.count H.elements));
      }

  -- a pair is one of a polynomial at each shift or at none
  pub honest_shift : ((P : List ℕ) × HonestAt K σ d b w π P) ↔ ((P : List ℕ) × Honest K d b w π P)
  honest_shift = ((λ (P, H). (shift_p K σ P, to_unshifted P H)), λ (P, H). (shift_p K σ P, to-shifted P H))
