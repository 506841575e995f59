use mathlib.Core.Path.{refl}
use mathlib.Core.Logic.{inl, inr}
use native.Mathlib.Omega.{arith}
use Rattle.stored.proofs.bytes.opens.Goals as goal

pub returns-then-file-at : goal.returns-then-file-at
returns-then-file-at c = inr (refl, λ o. omega (arith, o.present))

pub returns-then-file-at-2 : goal.returns-then-file-at-2
returns-then-file-at-2 c = inr (refl, λ o. c.if-file-at-2.true o.first)

pub returns-then-file-at-3 : goal.returns-then-file-at-3
returns-then-file-at-3 c = inr (refl, λ o. c.if-file-at-3.true o.second)

pub returns : goal.returns
returns c = inl (refl, record { present = omega arith; first = omega arith; second = omega arith })
