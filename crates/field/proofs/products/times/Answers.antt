use mathlib.Core.Path.{◌≡◌, refl, sym, ap, ap₂, ◌∙◌, subst}
use Prim.Native.Nat.{ℕ, ◌+◌, ◌-◌, ◌*◌, ◌/◌, ◌%◌, ◌≤◌, ◌<◌, ◌^◌}
use native.Mathlib.Nat.{div-one, zero-mul}
use native.Mathlib.Omega.{arith}
use lib.Pow.{pow_mono, shl_exact, shl-shr}
use Rattle.field.specs.Binary.{◌⊕◌, degree, product}
use Rattle.field.specs.Degree.{degree-positive-number}
use Rattle.field.specs.Product.{product-below, product-zero-right}
use Rattle.field.proofs.Aligned.{bit_times-le, times-turn}
use Rattle.field.proofs.products.times.Goals.{Start, At-loop-i}
use Rattle.field.proofs.products.times.Goals as goal

-- what the contract says of the modulus and the symbols
module _ (c : goal.Start) where
  pos : 0 < c.args.modulus
  pos = degree-positive-number c.args.modulus (subst (λ (k : ℕ). 0 < k) c.requires.0 c.requires.1)

  left : c.args.x < 2 ^ degree c.args.modulus
  left = subst (λ (k : ℕ). c.args.x < 2 ^ k) c.requires.0 c.requires.3

  sixteen : degree c.args.modulus + (16 - c.args.l) ≡ 16
  sixteen = subst (λ (k : ℕ). k + (16 - c.args.l) ≡ 16) c.requires.0 (omega arith)

pub loop-i-init : goal.loop-i-init
loop-i-init c = let a = c.args in
    let p : 2 ^ a.l ≤ 2 ^ 16 = pow_mono {j = 16} (omega arith) in
    let none : a.y / 65536 ≡ 0 = omega arith in
    sym (rw (none, product-zero-right a.modulus (pos c) a.x, zero-mul (2 ^ (16 - a.l))))

-- the locals of a turn
module _ (c : goal.At-loop-i) where
  shifted : c.args.x * 2 ^ (16 - c.args.l) % 65536 ≡ c.args.x * 2 ^ (16 - c.args.l)
  shifted = shl_exact c.args.l (16 - c.args.l) 16 c.requires.3 (omega arith)

  low : c.args.modulus * 2 ^ (16 - c.args.l) % 4294967296 % 65536 ≡ c.args.modulus * 2 ^ (16 - c.args.l) % 65536
  low = omega arith

pub overflow_mul-acc : goal.overflow_mul-acc
overflow_mul-acc c = let a = c.args in
    omega (arith, bit_times-le (a.y / 2 ^ (c.loop-i.i - 1) % 2) (a.x * 2 ^ (16 - a.l) % 65536) (omega arith))

pub loop-i-preserved : goal.loop-i-preserved
unfolding ◌⊕◌
loop-i-preserved c = let here = (goal.at.loop-i-preserved c).At-loop-i in
    let a = here.args in
    let i = here.loop-i.i in
    let s = 16 - a.l in
    let v = product a.modulus a.x (a.y / 2 ^ i) in
    let acc = here.loop-i.invariant in
    let first : c.twice.result ≡ (v * 2 ^ s % 32768 * 2) ⊕ (v * 2 ^ s / 32768 * (a.modulus * 2 ^ s % 65536)) =
    c.twice.ensures ∙ ap₂ (λ (x y : ℕ). (x % 32768 * 2) ⊕ (x / 32768 * y)) acc (low here) in
    let e = ap₂ ◌⊕◌ first (ap (λ (x : ℕ). a.y / 2 ^ (i - 1) % 2 * x) (shifted here)) in
    e ∙ times-turn a.modulus s (pos (goal.at.At-loop-i here).Start) (sixteen (goal.at.At-loop-i here).Start) a.x a.y i v (left (goal.at.At-loop-i here).Start) (omega arith) refl (product-below a.modulus (pos (goal.at.At-loop-i here).Start) a.x (a.y / 2 ^ i))

pub returns : goal.returns
returns c = let here = (goal.at.returns c).At-loop-i in
    let a = here.args in
    let last : here.loop-i.i ≡ 0 = omega arith in
    ap (λ (x : ℕ). x / 2 ^ (16 - a.l)) (here.loop-i.invariant ∙ rw (last, div-one a.y)) ∙ shl-shr (product a.modulus a.x a.y) (16 - a.l)
