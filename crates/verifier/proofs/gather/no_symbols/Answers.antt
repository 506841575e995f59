use mathlib.Core.Path.{refl}
use Rattle.verifier.specs.Parts.{no_symbols}
use Rattle.verifier.proofs.gather.no_symbols.Goals as goal

pub returns : goal.returns
unfolding no_symbols
returns c = refl
