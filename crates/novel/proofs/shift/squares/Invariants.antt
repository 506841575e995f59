-- The loop's invariant: the first i entries are the squares, and y is the next.
use mathlib.Core.Path.{◌≡◌}
use Prim.Native.Nat.{ℕ}
use Rattle.space.specs.Sizes.{max_dim}
use Rattle.lists.specs.Upto.{Upto}
use Rattle.field.specs.Symbols.{symbols}
use Rattle.novel.specs.Sparse.{squared}
use Rattle.novel.proofs.shift.squares.Given as goal

abbrev pub invariant-loop-square : goal.invariant-loop-square
invariant-loop-square l = (l.y ≡ squared (symbols l.f.modulus) l.square-index l.x) × Upto max_dim l.square-index (λ (i : ℕ). squared (symbols l.f.modulus) i l.x) l.square-items
