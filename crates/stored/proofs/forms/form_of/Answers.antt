use mathlib.Core.Path.{◌≡◌, refl, sym}
use mathlib.Core.List.{List, [], ◌∷◌}
use Prim.Native.Nat.{ℕ, zero, suc, ◌≤◌}
use native.Mathlib.Omega.{arith}
use lib.ListN.{length, get_or}
use Rattle.stored.specs.Passed.{form-two, form-one}
use Rattle.stored.proofs.forms.form_of.Goals as goal

past : (f : List ℕ) (i : ℕ) → length f ≤ i → get_or f i 0 ≡ 0
past [] i h = refl
past (x ∷ f) zero h = absurd (omega arith)
past (x ∷ f) (suc i) h = past f i (omega arith)

pub returns-then-file-lt2 : goal.returns-then-file-lt2
returns-then-file-lt2 c = let f = c.args.file.now in
    let none : get_or f 1 0 ≡ 0 = past f 1 (omega arith) in
    sym (form-one f (λ e. omega arith))

pub returns-then-file-eq50 : goal.returns-then-file-eq50
returns-then-file-eq50 c = sym (form-two _ c.if-file-eq50.true)

pub returns : goal.returns
returns c = sym (form-one _ c.if-file-eq50.false)
