use mathlib.Core.Path.{sym, ap, ◌∙◌}
use Prim.Native.Nat.{ℕ}
use lib.Dec.{ltb}
use Rattle.field.specs.Binary.{degree}
use Rattle.stored.specs.File.{narrow_of}
use Rattle.stored.specs.declared.Form.{Form}
use Rattle.stored.proofs.forms.is_narrow.Goals.{Start}
use Rattle.stored.proofs.forms.is_narrow.Goals as goal

pub returns-in-One : goal.returns-in-One
returns-in-One c = sym (ap (λ (g : Form). narrow_of g (degree c.args.f.modulus)) c.in-One.is)

pub returns-in-Two : goal.returns-in-Two
returns-in-Two c = let s = (goal.at.returns-in-Two c).Start in
    ap (λ (l : ℕ). ltb l 9) s.requires.right ∙ sym (ap (λ (g : Form). narrow_of g (degree s.args.f.modulus)) c.in-Two.is)
