use mathlib.Core.Path.{subst}
use Prim.Native.Nat.{ℕ, ◌/◌, ◌^◌, ◌<◌}
use lib.Dec.{eqb}
use Rattle.lists.specs.Decides.{Decides}
use Rattle.field.specs.Ranges.{high-bits_test}
use Rattle.field.proofs.modulus.is_symbol.Goals as goal

pub returns : goal.returns
returns c = let a = c.args in
    subst (λ (l : ℕ). Decides (eqb (a.a / 2 ^ a.f.degree) 0) (a.a < 2 ^ l)) c.requires.right (high-bits_test a.a a.f.degree)
