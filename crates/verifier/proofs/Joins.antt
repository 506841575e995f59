-- A plain word and a row as words in two parts. Assumes nothing.
use mathlib.Core.Path.{◌≡◌, sym, ap, ap₂, ◌∙◌}
use mathlib.Core.List.{List, ◌++◌}
use Prim.Native.Nat.{ℕ, ◌+◌, ◌-◌, ◌*◌, ◌/◌, ◌^◌, ◌≤◌, ◌<◌}
use native.Mathlib.Nat.{zero-mul}
use native.Mathlib.Omega.{arith}
use lib.ListN.{length, take, drop, length-drop, take-append-drop}
use lib.Seq.{length-take-le}
use Rattle.lists.specs.Tables.{part, insert}
use Rattle.poly.specs.Blocks.{eighths}
use Rattle.proximity.specs.Dim.{half, row_dim, col_dim, S}
use Rattle.proximity.specs.Layout.{length_block, length_seven}
use Rattle.proximity.specs.Proof.{slot, row}
use Rattle.proximity.specs.Tree.{S_node}
use Rattle.verifier.specs.Parts.{Lent, joined}

-- a plain word: its first block and the others
module _ (k : ℕ) (h : 3 ≤ k) (w : List ℕ) (lw : length w ≡ 2 ^ k) (near far : List ℕ) (en : near ≡ take (length w / 8) w) (ef : far ≡ drop (length w / 8) w) where
  size : length w / 8 ≡ 2 ^ (k - 3)
  size = omega (arith, eighths k h)

  near_long : length near ≡ 2 ^ (k - 3)
  near_long = ap length en ∙ length-take-le (length w / 8) w (omega (arith, size)) ∙ size

  far-long : length far ≡ 7 * 2 ^ (k - 3)
  far-long = ap length ef ∙ length-drop (length w / 8) w ∙ omega (arith, eighths k h)

  pub plain-lent : (π : List ℕ) → length π ≡ S k → Lent k near far 0 π
  plain-lent π lπ = record { parts = record { seven = far-long ∙ ap (λ (n : ℕ). 7 * n) (sym near_long); inside = omega arith }; eighth = near_long; proof = lπ }

  pub plain-joined : joined near far 0 ≡ w
  unfolding joined
  plain-joined =
      ap (λ (s : ℕ). insert s near far) (zero-mul (length near)) ∙ ap₂ ◌++◌ en ef ∙ take-append-drop (length w / 8) w

-- a row: its block in the word and its seven stored blocks
module _ (k : ℕ) (h : 7 ≤ k) (w π : List ℕ) (lw : length w ≡ 2 ^ k) (lπ : length π ≡ S k) (r : ℕ) (hr : r < 2 ^ col_dim k)
    (near far : List ℕ) (en : near ≡ part (2 ^ half k) r w) (ef : far ≡ part (7 * 2 ^ half k) r π) where
  stored : 7 * 2 ^ k ≤ length π
  stored = omega (arith, S_node k h)

  row_near_long : length near ≡ 2 ^ half k
  row_near_long = ap length en ∙ length_block k w π lw stored r hr

  row-far-long : length far ≡ 7 * 2 ^ half k
  row-far-long = ap length ef ∙ length_seven k w π lw stored r hr

  pub row-lent : (ρ : List ℕ) → length ρ ≡ S (row_dim k) → Lent (row_dim k) near far (slot r) ρ
  row-lent ρ lρ =
      let e : half k ≡ half k + 3 - 3 = omega arith in
      record {
        parts = record { seven = row-far-long ∙ ap (λ (n : ℕ). 7 * n) (sym row_near_long); inside = omega arith };
        eighth = row_near_long ∙ ap (λ (n : ℕ). 2 ^ n) e;
        proof = lρ;
      }

  pub row-joined : joined near far (slot r) ≡ row k w π r
  unfolding joined
  row-joined = ap (λ (n : ℕ). insert (slot r * n) near far) row_near_long ∙ ap₂ (insert (slot r * 2 ^ half k)) en ef
