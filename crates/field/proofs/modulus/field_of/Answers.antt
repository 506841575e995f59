use mathlib.Core.Path.{refl}
use Prim.Native.Nat.{◌≤◌, ◌<◌}
use native.Mathlib.Omega.{arith}
use Rattle.field.specs.Binary.{degree}
use Rattle.field.specs.Degree.{degree-right, degree-above}
use Rattle.field.specs.Division.{degree-less}
use Rattle.field.proofs.modulus.field_of.Goals as goal

pub returns : goal.returns
returns c = let a = c.args in
    let e = c.degree_of.ensures in
    let d = degree-right a.m (omega arith) in
    let low : 3 ≤ degree a.m = degree-above 3 d (omega arith) in
    let high : degree a.m < 17 = degree-less a.m 17 (omega arith) (omega arith) in
    record { modulus = refl; sized = record { right = e; positive = omega arith; small = omega arith }; low = omega arith }
