use mathlib.Core.Path.{sym, ap}
use Rattle.stored.specs.File.{word_record_at}
use Rattle.stored.specs.declared.Form.{Form}
use Rattle.stored.proofs.forms.setting_size.Goals as goal

pub returns-in-One : goal.returns-in-One
returns-in-One c = sym (ap (λ (g : Form). word_record_at g c.args.k) c.in-One.is)

pub returns-in-Two : goal.returns-in-Two
returns-in-Two c = sym (ap (λ (g : Form). word_record_at g c.args.k) c.in-Two.is)
