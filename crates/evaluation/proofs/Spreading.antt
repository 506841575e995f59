-- Each number of a list eight times, as eight equal lanes. Assumes nothing.
use mathlib.Core.Path.{◌≡◌, refl, ap, ◌∙◌}
use mathlib.Core.List.{List}
use Prim.Native.Nat.{ℕ, ◌+◌, ◌*◌, ◌/◌, ◌<◌}
use native.Mathlib.Omega.{arith}
use lib.ListN.{length, get_or}
use Rattle.lists.specs.All.{All, All-at}
use Rattle.lists.specs.Lanes.{lane, lane-is}
use Rattle.lists.specs.Tables.{length_tab, get_or_tab, All-tab}
use Rattle.evaluation.specs.Words.{spread_of}

module _ (n : ℕ) (d : List ℕ) where
  pub length_spread : length (spread_of n d) ≡ n
  unfolding spread_of
  length_spread = length_tab n (λ p. get_or d (p / 8) 0)

  pub get_or_spread : (p : ℕ) → p < n → get_or (spread_of n d) p 0 ≡ get_or d (p / 8) 0
  unfolding spread_of
  get_or_spread p h = get_or_tab n (λ p. get_or d (p / 8) 0) p 0 h

  pub spread_each : (P : ℕ → Type 0) → P 0 → All P d → All P (spread_of n d)
  unfolding spread_of
  spread_each P z h = All-tab P n (λ p. get_or d (p / 8) 0) (λ p l. All-at P d 0 h z (p / 8))

  pub spread_lane : n ≡ length d * 8 → (r : ℕ) → r < 8 → lane 8 r (length d) (spread_of n d) ≡ d
  spread_lane e r h =
      lane-is 8 r (length d) (spread_of n d) d refl
      (λ o l. let place : (o * 8 + r) / 8 ≡ o = omega arith in
      get_or_spread (o * 8 + r) (omega arith) ∙ ap (λ (i : ℕ). get_or d i 0) place)
