-- One layer of the transform on lanes: two halves of 2^j lists each, with one factor for each lane.
use Rattle.std.specs.Prelude.{◌≡◌, List, ℕ, ◌+◌, ◌*◌, ◌^◌, ◌≤◌, ◌<◌, length, get_or, take, drop}
use Rattle.lists.specs.All.{Below}
use Rattle.lists.specs.Filled.{Filled}
use Rattle.lists.specs.Lanes.{lane}
use Rattle.field.specs.Binary.{◌⊕◌, degree, product}
use Rattle.field.specs.Symbols.{symbols}
use Rattle.poly.specs.Poly.{add_p}
use Rattle.poly.specs.Transform.{folded, unfolded}

-- of 2 k lists, the first j with the products of (ts + c) and the list k later added
pub record Scaled (q c : ℕ) (ts : List ℕ) (k j : ℕ) (old new : List ℕ) : Type 0 where
  pub kept : length new ≡ length old
  pub below : Below (2 ^ degree q) new
  pub low : (o r : ℕ) → o < j → r < length ts
      → get_or new (o * length ts + r) 0 ≡ get_or old (o * length ts + r) 0 ⊕ product q (get_or ts r 0 ⊕ c) (get_or old ((k + o) * length ts + r) 0)
  pub high : (p : ℕ) → j * length ts ≤ p → get_or new p 0 ≡ get_or old p 0

-- the first n numbers added to the n after them
abbrev pub LowAdded : ℕ → List ℕ → List ℕ → Type 0
LowAdded n old new = Filled n n (λ i. get_or old (n + i) 0 ⊕ get_or old i 0) old new

-- lo + c hi and lo + (c + 1) hi in each lane, with c of the lane
pub record Layered (q j count : ℕ) (factor : ℕ → ℕ) (old new : List ℕ) : Type 0 where
  pub kept : length new ≡ length old
  pub below : Below (2 ^ degree q) new
  pub lower : (r : ℕ) → r < count → lane count r (2 ^ j) (take (2 ^ j * count) new) ≡ folded (symbols q) j (factor r) (lane count r (2 ^ j + 2 ^ j) old)
  pub upper : (r : ℕ) → r < count → lane count r (2 ^ j) (drop (2 ^ j * count) new)
      ≡ add_p (symbols q) (folded (symbols q) j (factor r) (lane count r (2 ^ j + 2 ^ j) old)) (drop (2 ^ j) (lane count r (2 ^ j + 2 ^ j) old))

-- and back
pub record Unlayered (q j count : ℕ) (factor : ℕ → ℕ) (old new : List ℕ) : Type 0 where
  pub kept : length new ≡ length old
  pub below : Below (2 ^ degree q) new
  pub whole : (r : ℕ) → r < count → lane count r (2 ^ j + 2 ^ j) new
      ≡ unfolded (symbols q) (factor r) (lane count r (2 ^ j) (take (2 ^ j * count) old)) (lane count r (2 ^ j) (drop (2 ^ j * count) old))
