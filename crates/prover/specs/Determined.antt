-- What the prover leaves is determined: a word has one proof, and it is the same at each shift. Assumes nothing.
use Rattle.std.specs.Prelude.{◌≡◌, ◌↔◌, List, ℕ, length}
use Rattle.std.proofs.Common.{sym, ap, ◌∙◌}
use Rattle.field.specs.Laws.{IsField}
use Rattle.field.specs.Symbols.{symbols}
use Rattle.poly.proofs.Codeword.{decode_unique}
use Rattle.space.specs.Sound.{Sound, sound_field}
use Rattle.proximity.specs.Dim.{dim}
use Rattle.proximity.specs.Proof.{proof_of}
use Rattle.proximity.proofs.Shifted.{honest_shift}
use Rattle.prover.specs.Calls.{ProofOf, ProofAt}

module _ {m : ℕ} {bs : List ℕ} {σ : ℕ} (s : Sound m bs σ) (word : List ℕ) where
  F : IsField (symbols m)
  F = sound_field s

  pub proof_shift : (π : List ℕ) → ProofAt m bs σ word π ↔ ProofOf m bs word π
  proof_shift π = honest_shift F σ s.shift (dim (length bs)) bs s.basis word π

  pub one-proof : (π ρ : List ℕ) → ProofOf m bs word π → ProofOf m bs word ρ → π ≡ ρ
  one-proof π ρ (P, H) (Q, G) =
      H.proof
      ∙ ap (proof_of (symbols m) (dim (length bs)) bs)
      (decode_unique F (length bs) bs s.basis P Q H.count G.count H.elements G.elements (sym H.word ∙ G.word))
      ∙ sym G.proof

  pub one-proof-at : (π ρ : List ℕ) → ProofAt m bs σ word π → ProofAt m bs σ word ρ → π ≡ ρ
  one-proof-at π ρ a b = one-proof π ρ ((proof_shift π).0 a) ((proof_shift ρ).0 b)
