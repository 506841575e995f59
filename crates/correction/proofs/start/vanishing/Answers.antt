use mathlib.Core.Path.{◌≡◌, subst}
use Prim.Native.Nat.{ℕ, ◌+◌, ◌*◌, ◌<◌, ◌^◌}
use native.Mathlib.Omega.{arith}
use lib.ListN.{length, get_or}
use lib.Pow.{pow_pos, pow_mono}
use Rattle.lists.specs.All.{All-at}
use Rattle.field.specs.Binary.{degree}
use Rattle.field.specs.Symbols.{symbols-field}
use Rattle.space.specs.Sizes.{max_dim}
use Rattle.correction.proofs.StartLaws.{Terms, terms_none, terms_next, terms_all}
use Rattle.correction.proofs.start.vanishing.Goals as goal

pub loop-i-init : goal.loop-i-init
loop-i-init c q irr z = terms_none q irr c.args.steps.now c.args.k c.args.values.now c.requires.1

-- the place of a turn is inside
pub bounds-values-power : goal.bounds-values-power
bounds-values-power c = omega (arith, c.power.ensures, pow_mono {i = c.loop-i.i} {j = c.args.k} (omega arith), c.requires.2)

pub loop-i-preserved : goal.loop-i-preserved
loop-i-preserved c q irr z = let a = c.args in
    let i = c.loop-i.i in
    let x : ℕ = get_or c.table-t.result (max_dim * a.k + i) 0 in
    let place : c.power.result < length a.values.now = omega (arith, c.power.ensures, pow_mono {i = i} {j = a.k} (omega arith), c.requires.2) in
    terms_next q irr a.steps.now a.k i (length a.values.now) c.power.result x c.loop-i.values c.power.ensures place
    (z.right a.k i (omega arith) (omega (arith, c.requires.0.few)))
    (All-at (λ (y : ℕ). y < 2 ^ degree q) c.table-t.result 0 z.below (pow_pos (degree q)) (max_dim * a.k + i)) (c.loop-i.invariant q irr z)

pub returns : goal.returns
returns c = let a = c.args in
    let q : ℕ = a.f.modulus in
    let irr = c.requires.0.irreducible in
    let last : c.loop-i.i ≡ a.k = omega arith in
    terms_all q irr a.steps.now a.k (length a.values.now) c.power-2.result c.loop-i.values c.power-2.ensures (omega (arith, c.power-2.ensures, c.requires.2)) (symbols-field q irr).sym_one
    (subst (λ (m : ℕ). Terms q a.steps.now a.k m (length a.values.now) c.loop-i.values) last (c.loop-i.invariant q irr c.table-t.ensures))
