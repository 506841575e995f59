-- A multiple of one stretch of a list added to another.
use Rattle.std.specs.Prelude.{◌≡◌, ◌⊎◌, List, ℕ, ◌+◌, ◌≤◌, ◌<◌, ◌^◌, length, get_or}
use Rattle.lists.specs.All.{Below}
use Rattle.field.specs.Binary.{◌⊕◌, degree, product}

-- c times the numbers from `from` on is added to the n numbers from `to` on
pub record Added (q c from to n : ℕ) (old new : List ℕ) : Type 0 where
  pub kept : length new ≡ length old
  pub below : Below (2 ^ degree q) new
  pub inside : (i : ℕ) → i < n → get_or new (to + i) 0 ≡ get_or old (to + i) 0 ⊕ product q c (get_or old (from + i) 0)
  pub outside : (p : ℕ) → (p < to) ⊎ (to + n ≤ p) → get_or new p 0 ≡ get_or old p 0

-- the numbers of one list product
abbrev pub part_size : ℕ
part_size = 256
