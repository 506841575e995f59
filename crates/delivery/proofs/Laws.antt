-- Small numbers, and a front part that was lent. Assumes nothing.
use mathlib.Core.Path.{◌≡◌, ◌∙◌}
use mathlib.Core.List.{List, ◌++◌}
use Prim.Native.Nat.{ℕ, ◌^◌, ◌≤◌}
use native.Mathlib.Omega.{arith}
use lib.ListN.{length, take, drop, length-append, length-drop}
use lib.Pow.{pow_mono}
use lib.Seq.{take_at}

-- a number that is 2^k is at most 2^j
pub at_most : {n k : ℕ} (j : ℕ) → n ≡ 2 ^ k → k ≤ j → n ≤ 2 ^ j
at_most {n} {k} j e h = omega (arith, pow_mono {i = k} {j = j} h)

-- the list once its first n entries were lent and became `new`
module _ (n : ℕ) (new old : List ℕ) (l : length new ≡ n) where
  pub length_back : n ≤ length old → length (new ++ drop n old) ≡ length old
  length_back h = length-append new (drop n old) ∙ omega (arith, length-drop n old)

  pub front-back : {j : ℕ} → n ≡ j → take j (new ++ drop n old) ≡ new
  front-back {j} e = take_at new (drop n old) j (l ∙ e)
