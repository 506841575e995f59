use mathlib.Core.Path.{◌≡◌, sym}
use Prim.Native.Nat.{ℕ, suc, ◌+◌, ◌-◌, ◌/◌, ◌%◌, ◌^◌, ◌<◌}
use native.Mathlib.Omega.{arith}
use Rattle.field.specs.Binary.{◌⊕◌, degree}
use Rattle.field.specs.Xor.{xor_zero_left}
use Rattle.field.specs.Clmul.{clmul-zero-left}
use Rattle.field.specs.Division.{degree-high, degree-less, bit_shifted-small, turn, divided}
use Rattle.field.proofs.division.divide.Goals.{Start, In-loop-i}
use Rattle.field.proofs.division.divide.Goals as goal

-- the place of a turn: the bit at j is taken away with the divisor shifted by s
module _ (c : goal.In-loop-i) where
  abbrev start : goal.Start
  start = (goal.at.In-loop-i c).Start

  abbrev j : ℕ
  j = c.loop-i.i - 1

  abbrev s : ℕ
  s = j - c.degree_of-e.result

  place : j ≡ degree start.args.d + s
  place = omega (arith, c.degree_of-e.ensures)

  low : j < 17
  low = omega arith

pub overflow_add-n : goal.overflow_add-n
overflow_add-n c = omega (arith, degree-less c.args.v 17 (omega arith) (omega arith))

pub loop-i-init : goal.loop-i-init
loop-i-init c = let v = c.args.v in
    let e = c.degree_of-n.ensures in (
      omega (arith, degree-less v 17 (omega arith) (omega arith)),
      rw e (degree-high v),
      sym (simp (clmul-zero-left, xor_zero_left)),
    )

pub overflow_mul-x : goal.overflow_mul-x
overflow_mul-x c = omega (arith, bit_shifted-small (start c).args.d (omega arith) (c.loop-i.x / 2 ^ j c % 2) (j c) (s c) (omega arith) (place c) (low c))

pub loop-i-preserved : goal.loop-i-preserved
unfolding ◌⊕◌
loop-i-preserved c = let back : suc (j c) ≡ c.loop-i.i = omega arith in
    let t = turn (start c).args.d (omega arith) (start c).args.v c.loop-i.q c.loop-i.x (j c) (s c) (place c) (low c) (rw back c.loop-i.invariant.1) c.loop-i.invariant.2 in
    (omega arith, t.0, t.1)

pub returns : goal.returns
returns c = let a = c.args in
    divided a.d (omega arith) a.v c.loop-i.q c.loop-i.x c.loop-i.i c.loop-i.invariant.2 c.loop-i.invariant.1
    (omega (arith, c.degree_of-e.ensures))
