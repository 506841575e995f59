-- The table of a column space, entry by entry.
use Rattle.std.specs.Prelude.{◌≡◌, List, ℕ, ◌+◌, ◌≤◌, length, get_or}
use Rattle.std.proofs.Common.{sym, ap, ◌∙◌}
use Rattle.field.specs.Laws.{Ops, IsField}
use Rattle.poly.specs.Novel.{image}
use Rattle.poly.specs.Tower.{images}
use Rattle.poly.proofs.Tower.{images-at, image_tower}

module _ {K : Ops} (F : IsField K) (bs : List ℕ) (h : ℕ) where
  pub image-table : (c i : ℕ) → h + c ≤ length bs → image K bs (h + c) (get_or bs (h + i) 0) ≡ image K (images K bs h) c (get_or (images K bs h) i 0)
  image-table c i hc = image_tower F bs h c hc (get_or bs (h + i) 0) ∙ ap (image K (images K bs h) c) (sym (images-at F bs h i))
