-- `novel::novel_of` meets its contract. Assumes nothing.
--
-- ---- once the coefficients are loaded
use mathlib.Core.Path.{◌≡◌, refl, sym, ap, subst, ◌∙◌}
use mathlib.Core.List.{List, ◌++◌}
use Prim.Native.Nat.{ℕ, ◌^◌, ◌≤◌, ◌<◌}
use native.Mathlib.Omega.{arith}
use lib.ListN.{length, take, drop, length-append, length-drop}
use lib.Pow.{pow_pos}
use Rattle.lists.specs.All.{Below, All-append, zeros-below}
use Rattle.field.specs.Binary.{degree}
use Rattle.novel.specs.Novel.{Changed, Scaled}
use Rattle.novel.proofs.Loading.{behind, behind-zero, length_loaded, take_loaded, drop_loaded}
use Rattle.novel.proofs.NovelLaws.{novel_of}
use Rattle.novel.proofs.novel_of.Goals.{Start, After-load, After-from_powers}
use Rattle.novel.proofs.novel_of.Goals as goal

module _ (c : goal.After-load) where
  abbrev start : goal.Start
  start = (goal.at.After-load c).Start

  abbrev p : List ℕ
  p = start.args.coefficients.now

  abbrev n : ℕ
  n = length p

  abbrev size : ℕ
  size = length start.args.work.now

  abbrev loaded : List ℕ
  loaded = c.load.new.work

  n-is : n ≡ 2 ^ start.args.m
  n-is = start.requires.2

  room : n ≤ size
  room = omega (arith, n-is, start.requires.3)

  front : take n loaded ≡ p
  front = take_loaded size n p loaded refl room c.load.ensures

  rest : drop n loaded ≡ behind size p
  rest = drop_loaded size n p loaded refl room c.load.ensures

-- ---- once they are changed
module _ (c : goal.After-from_powers) where
  abbrev at : goal.After-load
  at = (goal.at.After-from_powers c).After-load

  abbrev q : ℕ
  q = (start at).args.f.modulus

  abbrev e : List ℕ
  e = c.from_powers.new.values

  changed : Changed q (start at).args.steps.now (start at).args.m e (p at)
  changed = subst (Changed q (start at).args.steps.now (start at).args.m e) (front at) c.from_powers.ensures

  length-e : length e ≡ n at
  length-e = sym changed.kept

  whole : e ++ drop (n at) (loaded at) ≡ e ++ behind (size at) (p at)
  whole = ap (λ (l : List ℕ). e ++ l) (rest at)

pub slice_bounds-from_powers-end-2 : goal.slice_bounds-from_powers-end-2
slice_bounds-from_powers-end-2 c = sym (ap length (front (goal.at.slice_bounds-from_powers-end-2 c).After-load))

pub from_powers-requires : goal.from_powers-requires
from_powers-requires c = let at = (goal.at.from_powers-requires c).After-load in
    ((start at).requires.0, subst (Below (2 ^ degree (start at).args.f.modulus)) (sym (front at)) (start at).requires.1, ap length (front at) ∙ n-is at)

pub scale-requires : goal.scale-requires
scale-requires c = let here = (goal.at.scale-requires c).After-from_powers in
    let a = at here in (
      (start a).requires.0,
      subst (Below (2 ^ degree (q here))) (sym (whole here))
          (All-append (λ (x : ℕ). x < 2 ^ degree (q here)) (e here) (behind (size a) (p a)) (changed here).below.0
          (zeros-below (2 ^ degree (q here)) (behind (size a) (p a)) (pow_pos (degree (q here))) (behind-zero (size a) (p a)))),
      omega (arith, length-append (e here) (drop (n a) (loaded a)), length-e here, length_loaded (size a) (n a) (p a) (loaded a) refl (room a) a.load.ensures, length-drop (n a) (loaded a), room a, (start a).requires.3),
    )

pub returns : goal.returns
returns c = let here = (goal.at.returns c).After-from_powers in
    let a = at here in
    novel_of (q here) (start a).requires.0.irreducible (start a).args.m (start a).args.steps.now (p a) (e here) (behind (size a) (p a)) _ (length-e here ∙ n-is a) (behind-zero (size a) (p a)) (changed here)
    (subst (λ (l : List ℕ). Scaled (q here) (start a).args.steps.now (start a).args.m l c.scale.new.work) (whole here) c.scale.ensures)
