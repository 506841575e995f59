-- Lists written as lanes.
use Rattle.std.specs.Prelude.{◌≡◌, List, ℕ, ◌*◌, ◌≤◌, ◌<◌, length, get_or}
use Rattle.lists.specs.Tables.{part}
use Rattle.lists.specs.Lanes.{lane}

-- lane r is list r of the first `rows` lists of `from`; what stands after the lanes is as it was
pub record Transposed (rows size : ℕ) (from old new : List ℕ) : Type 0 where
  pub kept : length new ≡ length old
  pub lanes : (r : ℕ) → r < rows → lane rows r size new ≡ part size r from
  pub beyond : (p : ℕ) → rows * size ≤ p → get_or new p 0 ≡ get_or old p 0
