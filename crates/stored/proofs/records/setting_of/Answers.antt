use mathlib.Core.Path.{◌≡◌, sym, subst, transport}
use mathlib.Core.List.{List}
use Prim.Native.Nat.{ℕ}
use lib.ListN.{take}
use Rattle.field.specs.Binary.{Irreducible}
use Rattle.field.specs.Checks.{FieldOf}
use Rattle.space.specs.Setting.{space_checks, SettledBy}
use Rattle.stored.specs.File.{modulus_in, dim_in, basis_in}
use Rattle.stored.specs.Passed.{Head, head_passed, settled_after-head}
use Rattle.stored.proofs.records.setting_of.Goals.{In_ok-f, After-basis_at-basis}
use Rattle.stored.proofs.records.setting_of.Goals as goal

-- past the head
module _ (c : goal.In_ok-f) where
  abbrev bytes : List ℕ
  bytes = c.args.file.now

  head : Head bytes
  head = head_passed bytes c.in_ok-f.ensures.0

  field : FieldOf (modulus_in bytes) c.in_ok-f.f
  field = c.in_ok-f.ensures.1

-- the basis is the first k of the 16 numbers
module _ (c : goal.After-basis_at-basis) where
  abbrev past : goal.In_ok-f
  past = (goal.at.After-basis_at-basis c).In_ok-f

  abbrev f : List ℕ
  f = bytes past

  basis : take (dim_in f) c.basis_at-basis.result ≡ basis_in f
  unfolding basis_in
  basis = c.basis_at-basis.ensures.1

pub check_basis-requires : goal.check_basis-requires
check_basis-requires c = let p = (goal.at.check_basis-requires c).In_ok-f in
    ((field p).sized, subst Irreducible (sym (field p).modulus) (head p).modulus.irreducible)

pub returns : goal.returns
returns c = let b = (goal.at.returns c).After-basis_at-basis in
    let p = past b in
    let m = (field p).modulus in
    let s = c.shift_of.ensures in
    let r = c.check_basis.result in
    settled_after-head (f b) (head p) r
    (transport (λ i. SettledBy (space_checks (m i) (basis b i) (s i)) (m i) (basis b i) (s i) r) c.check_basis.ensures)
