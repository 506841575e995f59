use mathlib.Core.Path.{sym}
use Rattle.stored.specs.Packed.{size_narrow, size-wide}
use Rattle.stored.proofs.forms.packed_size.Goals as goal

pub returns-then-narrow : goal.returns-then-narrow
returns-then-narrow c = sym (size_narrow _ _ c.if-narrow.true)

pub returns : goal.returns
returns c = sym (size-wide _ _ c.if-narrow.false)
