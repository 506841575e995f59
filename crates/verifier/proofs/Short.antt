-- A short word in lanes: its symbols, and the three answers. Assumes nothing.
use mathlib.Core.Path.{◌≡◌, sym, ap, ◌∙◌, subst}
use mathlib.Core.List.{List}
use Prim.Native.Nat.{ℕ, ◌+◌, ◌*◌, ◌<◌}
use native.Mathlib.Decide.{dec_lt}
use native.Mathlib.Omega.{arith}
use lib.ListN.{length, get_or}
use Rattle.lists.specs.All.{Below, All-at, All-of, zeros-at}
use Rattle.lists.specs.Lanes.{get_or_lane}
use Rattle.lists.specs.Tables.{get_d_part}
use Rattle.proximity.specs.Layout.{by_blocks}
use Rattle.transform.specs.Slices.{Transposed}
use Rattle.verifier.specs.Parts.{no_symbols}

-- a word whose eight blocks are the lanes of `read`, with zeros after them
module _ (size b : ℕ) (pos : 0 < size) (bp : 0 < b) (w read : List ℕ) (lw : length w ≡ 8 * size) (t : Transposed 8 size w no_symbols read) where
  -- symbol o of block r
  symbol : (r o : ℕ) → r < 8 → o < size → get_or read (o * 8 + r) 0 ≡ get_or w (r * size + o) 0
  symbol r o hr ho = sym (get_or_lane 8 r size read o ho) ∙ ap (λ (l : List ℕ). get_or l o 0) (t.lanes r hr) ∙ get_d_part size r o w 0 ho

  pub word_below : Below b read → Below b w
  word_below h =
      All-of (λ (x : ℕ). x < b) w 0
      (λ i l. by_blocks (λ (p : ℕ). get_or w p 0 < b) 8 size pos
      (λ r o hr ho. subst (λ (x : ℕ). x < b) (symbol r o hr ho) (All-at (λ (x : ℕ). x < b) read 0 h bp (o * 8 + r))) i (omega arith))

  pub read_below : Below b w → Below b read
  unfolding no_symbols
  read_below h = All-of (λ (x : ℕ). x < b) read 0 (λ p l. at p (dec_lt p (8 * size)))
    where
      at : (p : ℕ) → Dec (p < 8 * size) → get_or read p 0 < b
      at p (yes l) =
          by_blocks (λ (i : ℕ). get_or read i 0 < b) size 8 (omega arith)
          (λ o r ho hr. subst (λ (x : ℕ). x < b) (sym (symbol r o hr ho)) (All-at (λ (x : ℕ). x < b) w 0 h bp (r * size + o))) p (omega arith)
      at p (no l) = subst (λ (x : ℕ). x < b) (sym (t.beyond p (omega arith) ∙ zeros-at 64 p)) bp
