-- The table of a space: the normalised images of its basis.
use Rattle.std.specs.Prelude.{◌≡◌, List, ℕ, ◌+◌, ◌*◌, ◌≤◌, ◌<◌, length, get_or}
use Rattle.std.proofs.Common.{ap, ◌∙◌, arith}
use Rattle.std.proofs.Math.ListN.{get_or-eq_default}
use Rattle.lists.specs.All.{All, All-at}
use Rattle.lists.specs.Tables.{tab, length_tab, get_or_tab, All-tab}
use Rattle.lists.specs.Upto.{Upto, upto_all}
use Rattle.field.specs.Laws.{Ops}
use Rattle.poly.specs.Novel.{image}
use Rattle.space.specs.Sizes.{cells}

-- t holds the image of number j of b_(i+1) at 16 i + j. The images of the last number are free: no transform reads them, and a row's table has other ones.
pub record Images (K : Ops) (bs t : List ℕ) : Type 0 where
  pub count : length t ≡ cells
  pub elements : All K.Sym t
  pub right : (i j : ℕ) → i < length bs → j + 1 < length bs → get_or t (16 * i + j) 0 ≡ image K bs j (get_or bs i 0)

-- the table t with both indices shifted by h
unfoldable pub upper_images : ℕ → List ℕ → List ℕ
upper_images h t = tab cells (λ p. get_or t (p + 17 * h) 0)

pub length_upper_images : (h : ℕ) (t : List ℕ) → length (upper_images h t) ≡ cells
unfolding upper_images
length_upper_images h t = length_tab cells (λ p. get_or t (p + 17 * h) 0)

-- entry j of row i is entry h + j of row h + i
pub upper_image : (h : ℕ) (t : List ℕ) (i j : ℕ) → 16 * i + j < cells → get_or (upper_images h t) (16 * i + j) 0 ≡ get_or t (16 * (h + i) + (h + j)) 0
unfolding upper_images
upper_image h t i j l = get_or_tab cells (λ p. get_or t (p + 17 * h) 0) (16 * i + j) 0 l ∙ ap (λ (p : ℕ). get_or t p 0) {x = 16 * i + j + 17 * h} {y = 16 * (h + i) + (h + j)} (omega arith)

pub upper_each : (P : ℕ → Type 0) (h : ℕ) (t : List ℕ) → P 0 → All P t → All P (upper_images h t)
unfolding upper_images
upper_each P h t z a = All-tab P cells (λ p. get_or t (p + 17 * h) 0) (λ p l. All-at P t 0 a z (p + 17 * h))

-- it is written place by place, and zeros stand past its end
pub upper_filled : (h : ℕ) (t : List ℕ) → length t ≡ cells → {i : ℕ} {new : List ℕ} → cells ≤ i + 17 * h → Upto cells i (λ p. get_or t (p + 17 * h) 0) new → new ≡ upper_images h t
unfolding upper_images
upper_filled h t e l u = upto_all (λ p g n. get_or-eq_default t 0 (omega arith)) u
