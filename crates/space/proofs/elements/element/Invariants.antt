-- The loop's invariant: the sum is the element of the first j basis elements.
use mathlib.Core.Path.{◌≡◌}
use Prim.Native.Nat.{ℕ}
use lib.ListN.{take}
use Rattle.field.specs.Symbols.{symbols}
use Rattle.poly.specs.Span.{elem}
use Rattle.space.proofs.elements.element.Given as goal

abbrev pub invariant-loop-j : goal.invariant-loop-j
invariant-loop-j l = (m : ℕ) → l.sum ≡ elem (symbols m) (take l.j l.basis) l.i
