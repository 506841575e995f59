use mathlib.Core.Path.{sym, subst}
use Prim.Native.Nat.{ℕ}
use Rattle.field.specs.Binary.{Irreducible}
use Rattle.field.specs.Calls.{modulus_numbered}
use Rattle.field.specs.Checks.{modulus_checks, modulus_passed}
use Rattle.space.specs.Ready.{settled_after}
use Rattle.space.specs.Setting.{space_checks, SettledBy}
use Rattle.space.proofs.check.Goals as goal

pub check_basis-requires : goal.check_basis-requires
check_basis-requires c = let (p, f) = c.in_ok-f.ensures in
    (f.sized, subst Irreducible (sym f.modulus) (modulus_passed c.args.modulus p).irreducible)

pub returns : goal.returns
returns c = let (p, f) = c.in_ok-f.ensures in
    let m = c.args.modulus in
    let bs = c.args.basis.now in
    let σ = c.args.shift in
    let r = c.check_basis.result in
    settled_after (modulus_checks m) (space_checks m bs σ) m bs σ r (modulus_numbered m) p (subst (λ (q : ℕ). SettledBy (space_checks q bs σ) q bs σ r) f.modulus c.check_basis.ensures)
