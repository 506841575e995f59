-- `novel::shift::shift_powers` meets its contract. Assumes nothing.
use mathlib.Core.Path.{refl}
use Rattle.lists.specs.Decides.{true_not_false}
use Rattle.novel.proofs.Shifting.{shifted, shifted-zero}
use Rattle.novel.proofs.shift.shift_powers.Goals.{Start}
use Rattle.novel.proofs.shift.shift_powers.Goals as goal

pub returns-then-shift-eq0 : goal.returns-then-shift-eq0
returns-then-shift-eq0 c = let s = (goal.at.returns-then-shift-eq0 c).Start in
    shifted-zero s.args.f.modulus s.requires.1 s.args.shift s.args.values.now c.if-shift-eq0.true s.requires.4

pub squares-t-requires : goal.squares-t-requires
squares-t-requires c = let p = c.requires in (p.0, p.1, p.2)

pub to_monomials-requires : goal.to_monomials-requires
to_monomials-requires c = let p = c.requires in (
  record {
    sized = p.0;
    irreducible = p.1;
    zeros = c.none-zeros.ensures;
    few = p.3;
    below = c.squares-t.ensures.below;
    lead = λ e. absurd (true_not_false refl e);
  },
  p.4,
  p.5,
)

pub returns : goal.returns
returns c = let s = (goal.at.returns c).Start in
    let a = s.args in
    shifted a.f.modulus s.requires.1 a.shift a.m _ a.values.now _ s.requires.3 s.requires.5 c.squares-t.ensures c.to_monomials.ensures
