-- Word and proof in a setting with a shift: the word holds P at the shifted elements, and the proof is the one for P(x + shift) over the span. Assumes nothing.
use Rattle.std.specs.Prelude.{◌≡◌, List, ℕ, ◌^◌, ◌-◌, length}
use Rattle.lists.specs.All.{All}
use Rattle.field.specs.Laws.{Ops}
use Rattle.poly.specs.Shift.{word_at, shift_p}
use Rattle.proximity.specs.Dim.{Dim}
use Rattle.proximity.specs.Proof.{proof_of}

-- the word evaluates P, of degree below n/8, at the shifted elements, and the proof is that of P(x + σ)
pub record HonestAt (K : Ops) (σ : ℕ) {k : ℕ} (d : Dim k) (b w π P : List ℕ) : Type 0 where
  pub count : length P ≡ 2 ^ (k - 3)
  pub elements : All K.Sym P
  pub word : w ≡ word_at K σ k b P
  pub proof : π ≡ proof_of K d b (shift_p K σ P)
