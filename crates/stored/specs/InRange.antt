-- What a coin reads of a word and a proof whose symbols are in range is in range. Assumes nothing.
use Rattle.std.specs.Prelude.{refl, List, [], ◌∷◌, map, ℕ, ◌^◌, ◌<◌}
use Rattle.std.proofs.Common.{inr, pow_pos}
use Rattle.lists.specs.All.{Below, All-at}
use Rattle.lists.specs.Answers.{Passes}
use Rattle.field.specs.Binary.{degree}
use Rattle.field.specs.Symbols.{symbols}
use Rattle.proximity.specs.Dim.{dim}
use Rattle.proximity.specs.Verifier.{positions, read_at}
use Rattle.proximity.specs.declared.Place.{Place}
use Rattle.proximity.specs.declared.Place.TheVariants.{InWord, InProof}
use Rattle.verifier.specs.Checker.{read_checks}

-- the symbols read of symbols are symbols
pub symbols-below : (n : ℕ) (w π : List ℕ) → 0 < n → Below n w → Below n π → (ps : List Place) → Below n (map (read_at w π) ps)
symbols-below n w π z hw hp [] = tt
symbols-below n w π z hw hp (InWord i ∷ ps) = (All-at (λ (x : ℕ). x < n) w 0 hw z i, symbols-below n w π z hw hp ps)
symbols-below n w π z hw hp (InProof i ∷ ps) = (All-at (λ (x : ℕ). x < n) π 0 hp z i, symbols-below n w π z hw hp ps)

-- so check 9 passes
pub reads_pass : (m k : ℕ) (w π : List ℕ) (coin : ℕ) → Below (2 ^ degree m) w → Below (2 ^ degree m) π → Passes (read_checks (symbols m) k w π coin)
reads_pass m k w π coin hw hp = inr ((λ n. n (symbols-below (2 ^ degree m) w π (pow_pos (degree m)) hw hp (positions (dim k) coin))), refl)
