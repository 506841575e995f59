use mathlib.Core.Path.{sym, subst}
use Prim.Native.Nat.{◌+◌, ◌≤◌}
use lib.ListN.{length}
use Rattle.stored.specs.File.{shift_bytes}
use Rattle.filing.specs.Put.{Put, put-none}
use Rattle.stored.specs.declared.Form.{Form}
use Rattle.filing.proofs.put.put_shift.Goals.{Start, In-Two, After-put_two}
use Rattle.filing.proofs.put.put_shift.Goals as goal

pub put_two-requires : goal.put_two-requires
put_two-requires c = let t = (goal.at.put_two-requires c).In-Two in
    let a = (goal.at.In-Two t).Start in
    subst (λ (g : Form). a.args.at + length (shift_bytes g a.args.shift) ≤ length a.args.out.now) t.in-Two.is a.requires

pub returns-in-One : goal.returns-in-One
returns-in-One c = let a = c.args in
    subst (λ (g : Form). Put a.at (shift_bytes g a.shift) a.out.now a.out.now) (sym c.in-One.is) (put-none a.at a.out.now)

pub shape_of-out : goal.shape_of-out
shape_of-out c = c.put_two.ensures.kept

pub returns-in-Two : goal.returns-in-Two
returns-in-Two c = let p = (goal.at.returns-in-Two c).After-put_two in
    let t = (goal.at.After-put_two p).In-Two in
    let a = t.args in
    subst (λ (g : Form). Put a.at (shift_bytes g a.shift) a.out.now p.put_two.new.out) (sym t.in-Two.is) p.put_two.ensures
