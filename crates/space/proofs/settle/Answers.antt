use mathlib.Core.Path.{refl}
use mathlib.Core.Logic.{inr}
use lib.ListN.{length}
use Rattle.space.specs.Setting.{tables_of, setting_of}
use Rattle.space.proofs.settle.Goals as goal

pub returns : goal.returns
unfolding setting_of tables_of
returns c = let f = c.args.f in
    let (independent, e) = c.in-Some.ensures in (
      inr ((λ dep. dep independent), refl),
      λ x. record {
        field = record { modulus = f.modulus; degree = c.requires.0.right x };
        space = record { k = length c.args.basis.now; images = (e x).images };
        basis = c.padded.ensures x;
        shift = c.args.shift;
        steps = (e x).steps;
        inverses = (e x).inverses;
      },
    )
