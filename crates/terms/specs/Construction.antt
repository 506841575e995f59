-- Sentence 2, what the definitions rest on: they are the construction of document 000, section 6.2.
use Rattle.std.specs.Prelude.{◌≡◌, ◌↔◌, List, ℕ, ◌+◌, ◌*◌, ◌-◌, ◌^◌, ◌≤◌, max, length, get_or}
use Rattle.lists.specs.All.{All}
use Rattle.lists.specs.Answers.{Passes}
use Rattle.lists.specs.Members.{NoRepeat}
use Rattle.field.specs.Symbols.{symbols}
use Rattle.space.specs.Setting.{setting_checks}
use Rattle.space.specs.Sound.{Sound, sound_iff, sound_field}
use Rattle.proximity.specs.Bivariate.{q_coeffs, bivariate}
use Rattle.proximity.specs.Dim.{half, row_dim, col_dim, dim, S, R}
use Rattle.proximity.specs.Formal.{SameCoefficients, formal, bivariate-alone}
use Rattle.proximity.specs.NoRepeats.{no_repeats}
use Rattle.proximity.specs.Proposition.{Splits, proposition}
use Rattle.proximity.specs.Tree.{S_node, R_node}
use Rattle.proximity.specs.TwoVariables.{Digits, compose}
use Rattle.proximity.specs.Verifier.{positions}

-- A setting is sound exactly when it passes checks 1 to 5.
pub sound_exactly : (m : ℕ) (bs : List ℕ) (σ : ℕ) → Passes (setting_checks m bs σ) ↔ Sound m bs σ
sound_exactly = sound_iff

-- Proposition 6.2: the Q from which the proof of P is laid out is the one polynomial with P(x) = Q(x, q(x)), degree in x below 2^h and degree in
-- y below 2^(c-3).
pub one-bivariate : (m : ℕ) (bs : List ℕ) (σ : ℕ) (s : Sound m bs σ) (k : 7 ≤ length bs) (P : List ℕ) → length P ≡ 2 ^ (length bs - 3) → All (symbols m).Sym P
    → Splits (sound_field s) (length bs) bs k s.basis P (bivariate (symbols m) (length bs) bs P)
    × ((Q : List (List ℕ)) → Splits (sound_field s) (length bs) bs k s.basis P Q → Q ≡ bivariate (symbols m) (length bs) bs P)
one-bivariate m bs σ s k = proposition (sound_field s) (length bs) bs k s.basis

-- The same of polynomials, and not of their values alone: `compose` multiplies Q(x, q(x)) out, and it is P, coefficient by coefficient;
module _ (m : ℕ) (bs : List ℕ) (σ : ℕ) (s : Sound m bs σ) (k : 7 ≤ length bs) (P : List ℕ) (l : length P ≡ 2 ^ (length bs - 3)) (e : All (symbols m).Sym P) where
  pub composed : compose (symbols m) (q_coeffs (symbols m) (length bs) bs) (bivariate (symbols m) (length bs) bs P) ≡ P
  composed = formal (sound_field s) (length bs) bs k s.basis P l e

  -- and no other Q of degree below 2^h in x gives P, whatever its degree in y: the coefficients of x^j y^i are the same for all i and j.
  pub one_composed : (Q : List (List ℕ)) → Digits (symbols m).Sym (2 ^ half (length bs)) Q
      → ((i : ℕ) → get_or (compose (symbols m) (q_coeffs (symbols m) (length bs) bs) Q) i 0 ≡ get_or P i 0)
      → SameCoefficients Q (bivariate (symbols m) (length bs) bs P)
  one_composed = bivariate-alone (sound_field s) (length bs) bs k s.basis P l e

-- The lengths of proofs and the coin bits, by their rules.
pub proof_length : (k : ℕ) → 7 ≤ k → S k ≡ 7 * 2 ^ k + 2 ^ col_dim k * S (row_dim k) + 2 ^ (half k + 2) * S (col_dim k)
proof_length = S_node

pub coin_bits_lem : (k : ℕ) → 7 ≤ k → R k ≡ 1 + max (col_dim k + R (row_dim k)) (half k + 2 + R (col_dim k))
coin_bits_lem = R_node

-- No position of a coin comes twice, so that the number of reads is that of different symbols.
pub different_positions : (k coin : ℕ) → NoRepeat (positions (dim k) coin)
different_positions k coin = no_repeats (dim k) coin
