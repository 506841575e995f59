-- `novel::powers_of` meets its contract. Assumes nothing.
--
-- ---- once the coefficients are loaded
use mathlib.Core.Path.{refl, sym, subst}
use mathlib.Core.List.{List}
use Prim.Native.Nat.{ℕ, ◌^◌, ◌≤◌}
use native.Mathlib.Omega.{arith}
use lib.ListN.{length}
use lib.Pow.{pow_pos}
use Rattle.lists.specs.All.{All, IsZero}
use Rattle.lists.specs.Stretch.{stretch}
use Rattle.field.specs.Binary.{degree}
use Rattle.novel.specs.Novel.{PowersOf}
use Rattle.novel.proofs.Loading.{behind, behind-zero, length_loaded, loaded_below, take_loaded}
use Rattle.novel.proofs.NovelLaws.{zeros-behind}
use Rattle.novel.proofs.powers_of.Goals.{Start, After-load}
use Rattle.novel.proofs.powers_of.Goals as goal

module _ (c : goal.After-load) where
  abbrev start : goal.Start
  start = (goal.at.After-load c).Start

  abbrev q : ℕ
  q = start.args.f.modulus

  abbrev m : ℕ
  m = start.args.m

  abbrev d : List ℕ
  d = start.args.d.now

  abbrev size : ℕ
  size = length start.args.work.now

  abbrev loaded : List ℕ
  loaded = c.load.new.work

  room : length d ≤ size
  room = omega (arith, start.requires.below.1, start.requires.below.2)

pub powers_in-requires : goal.powers_in-requires
powers_in-requires c = let a = (goal.at.powers_in-requires c).After-load in record {
  stepped = (start a).requires.stepped;
  below = (
    loaded_below (size a) (length (d a)) (d a) (loaded a) refl (room a) a.load.ensures (2 ^ degree (q a)) (pow_pos (degree (q a))) (start a).requires.below.0,
    omega (arith, length_loaded (size a) (length (d a)) (d a) (loaded a) refl (room a) a.load.ensures, (start a).requires.below.2),
    subst (λ (l : List ℕ). All IsZero (stretch (2 ^ m a) (2 ^ m a) l)) (sym a.load.ensures)
        (zeros-behind (q a) (start a).requires.stepped.0.irreducible (m a) (d a) (behind (size a) (d a)) (start a).requires.below.1 (behind-zero (size a) (d a))),
  );
}

pub returns : goal.returns
returns c = let a = (goal.at.returns c).After-load in
    subst (λ (l : List ℕ). PowersOf (q a) (start a).args.steps.now (start a).args.inverses.now (m a) l c.powers_in.new.work)
    (take_loaded (size a) (2 ^ m a) (d a) (loaded a) (start a).requires.below.1 (omega (arith, (start a).requires.below.2)) a.load.ensures) c.powers_in.ensures
