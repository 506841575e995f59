-- A list with zeros behind it, and the stretch behind its front. Assumes nothing.
use mathlib.Core.Path.{◌≡◌, refl, sym, ap, ◌∙◌, subst}
use mathlib.Core.List.{List, ◌++◌}
use Prim.Native.Nat.{ℕ, ◌+◌, ◌-◌, ◌≤◌, ◌<◌}
use native.Mathlib.Omega.{arith}
use lib.ListN.{length, take, drop, length-append, length-drop, length-replicate}
use lib.Seq.{take_at, drop_at, length-take-le}
use borrow.Rule.Slice.PartMut.{put_mid}
use Rattle.lists.specs.All.{All, Below, IsZero, All-take, All-drop, All-append, All-replicate, zeros-below}
use Rattle.lists.specs.Calls.{zeros}
use Rattle.lists.specs.Stretch.{stretch}

-- what stands behind a list that is loaded
abbrev pub behind : ℕ → List ℕ → List ℕ
behind size src = drop (length src) (zeros size)

pub behind-zero : (size : ℕ) (src : List ℕ) → All IsZero (behind size src)
behind-zero size src = All-drop IsZero (length src) (zeros size) (All-replicate IsZero size 0 refl)

module _ (size n : ℕ) (src loaded : List ℕ) (ln : length src ≡ n) (room : n ≤ size) (e : loaded ≡ src ++ behind size src) where
  pub length_loaded : length loaded ≡ size
  length_loaded = ap length e ∙ length-append src (behind size src) ∙ omega (arith, length-drop (length src) (zeros size), length-replicate {A = ℕ} size 0)

  pub take_loaded : take n loaded ≡ src
  take_loaded = ap (take n) e ∙ take_at src (behind size src) n ln

  pub drop_loaded : drop n loaded ≡ behind size src
  drop_loaded = ap (drop n) e ∙ drop_at src (behind size src) n ln

  pub loaded_below : (b : ℕ) → 0 < b → Below b src → Below b loaded
  loaded_below b p h = subst (Below b) (sym e) (All-append (λ (x : ℕ). x < b) src (behind size src) h (zeros-below b (behind size src) p (behind-zero size src)))

-- ---- the part that is lent behind the first n numbers

module _ (n k : ℕ) (xs : List ℕ) (en : n ≡ k) (fits : n + n ≤ length xs) where
  same_count : n + n - n ≡ n
  same_count = omega arith

  pub part-stretch : take (n + n - n) (drop n xs) ≡ stretch k k xs
  unfolding stretch
  part-stretch = ap (λ (i : ℕ). take i (drop n xs)) same_count ∙ ap (λ (i : ℕ). take i (drop i xs)) en

  pub stretch-put : (ys : List ℕ) → length ys ≡ k → stretch k k (put_mid n (n + n - n) xs ys) ≡ ys
  unfolding stretch
  stretch-put ys ly =
      ap (λ (i : ℕ). take i (drop i (put_mid n (n + n - n) xs ys))) (sym en)
      ∙ ap (take n) (drop_at (take n xs) (ys ++ drop (n + n - n) (drop n xs)) n (length-take-le n xs (omega arith)))
      ∙ take_at ys (drop (n + n - n) (drop n xs)) n (ly ∙ sym en)

  pub put-below : (b : ℕ) (ys : List ℕ) → Below b xs → Below b ys → Below b (put_mid n (n + n - n) xs ys)
  put-below b ys hx hy =
      All-append (λ (x : ℕ). x < b) (take n xs) (ys ++ drop (n + n - n) (drop n xs)) (All-take (λ (x : ℕ). x < b) n xs hx)
      (All-append (λ (x : ℕ). x < b) ys (drop (n + n - n) (drop n xs)) hy (All-drop (λ (x : ℕ). x < b) (n + n - n) (drop n xs) (All-drop (λ (x : ℕ). x < b) n xs hx)))
