-- Subspace polynomials of related bases: of the images under the subspace polynomial of the first h basis elements, and of bases that begin alike.
use Rattle.std.specs.Prelude.{◌≡◌, List, ◌++◌, map, ℕ, ◌<◌, length, take, drop}
use Rattle.std.proofs.Common.{ap₂, arith, get_or-take, take-take}
use Rattle.std.proofs.lemmas.List.{take-append-le}
use Rattle.std.proofs.Math.ListN.{get_or-append}
use Rattle.field.specs.Laws.{Ops}
use Rattle.poly.specs.Span.{vanish}
use Rattle.poly.specs.Novel.{W, image}

module _ (K : Ops) (bs : List ℕ) (h : ℕ) where
  -- The images of the other basis elements under W h: the basis of a column space
  abbrev pub images : List ℕ
  images = map (W K bs h) (drop h bs)

-- Only the first j + 1 basis elements count
module _ (K : Ops) where
  pub image_take : (bs : List ℕ) (n j x : ℕ) → j < n → image K (take n bs) j x ≡ image K bs j x
  image_take bs n j x h =
      ap₂ (λ (l : List ℕ) (b : ℕ). K.◌⊗◌ (vanish K l x) (K.inv (vanish K l b))) (take-take j n bs (omega arith)) (get_or-take n bs j 0 h)

  pub image_append : (bs cs : List ℕ) (j x : ℕ) → j < length bs → image K (bs ++ cs) j x ≡ image K bs j x
  image_append bs cs j x h =
      ap₂ (λ (l : List ℕ) (b : ℕ). K.◌⊗◌ (vanish K l x) (K.inv (vanish K l b))) (take-append-le j bs cs (omega arith)) (get_or-append bs cs 0 j h)
