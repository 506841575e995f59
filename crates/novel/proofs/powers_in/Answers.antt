-- `novel::powers_in` meets its contract. Assumes nothing.
--
-- ---- once the coefficients are scaled
use mathlib.Core.Path.{◌≡◌, ap, subst, ◌∙◌}
use mathlib.Core.List.{List}
use Prim.Native.Nat.{ℕ, ◌+◌, ◌-◌, ◌^◌, ◌≤◌, ◌<◌}
use native.Mathlib.Omega.{arith}
use lib.ListN.{length, take, drop}
use lib.Seq.{length-take-le}
use Rattle.lists.specs.All.{All-take, All-drop}
use Rattle.lists.specs.Stretch.{stretch, length_stretch}
use Rattle.field.specs.Binary.{degree}
use Rattle.novel.specs.Novel.{Changed, Scaled}
use Rattle.novel.proofs.Loading.{part-stretch, stretch-put, put-below}
use Rattle.novel.proofs.NovelLaws.{powers_in}
use Rattle.novel.proofs.powers_in.Goals.{Start, After-power-n, After-scale}
use Rattle.novel.proofs.powers_in.Goals as goal

module _ (c : goal.After-scale) where
  abbrev powered : goal.After-power-n
  powered = (goal.at.After-scale c).After-power-n

  abbrev start : goal.Start
  start = (goal.at.After-scale c).Start

  abbrev q : ℕ
  q = start.args.f.modulus

  abbrev m : ℕ
  m = start.args.m

  abbrev n : ℕ
  n = powered.power-n.result

  abbrev old : List ℕ
  old = start.args.work.now

  abbrev mid : List ℕ
  mid = c.scale.new.work

  n-is : n ≡ 2 ^ m
  n-is = powered.power-n.ensures

  scaled : Scaled q start.args.inverses.now m old mid
  scaled = c.scale.ensures

  fits : n + n ≤ length mid
  fits = omega (arith, n-is, start.requires.below.1, scaled.kept)

  part-is : take (n + n - n) (drop n mid) ≡ stretch (2 ^ m) (2 ^ m) mid
  part-is = part-stretch n (2 ^ m) mid n-is fits

pub to_powers-requires : goal.to_powers-requires
to_powers-requires c = let a = (goal.at.to_powers-requires c).After-scale in (
  (start a).requires.stepped.0,
  All-take (λ (x : ℕ). x < 2 ^ degree (q a)) (n a + n a - n a) (drop (n a) (mid a)) (All-drop (λ (x : ℕ). x < 2 ^ degree (q a)) (n a) (mid a) (scaled a).below),
  ap length (part-is a) ∙ length_stretch (2 ^ m a) (2 ^ m a) (mid a) (omega (arith, fits a, n-is a)),
)

pub returns : goal.returns
returns c = let a = (goal.at.returns c).After-scale in
    let p : List ℕ = c.to_powers.new.values in
    let changed = subst (λ (l : List ℕ). Changed (q a) (start a).args.steps.now (m a) l p) (part-is a) c.to_powers.ensures in
    powers_in (q a) (start a).requires.stepped.0.irreducible (m a) (start a).args.steps.now (start a).args.inverses.now (old a) (mid a) p _
    (length-take-le (2 ^ m a) (old a) (omega (arith, (start a).requires.below.1)))
    (All-take (λ (x : ℕ). x < 2 ^ degree (q a)) (2 ^ m a) (old a) (start a).requires.below.0)
    (start a).requires.below.2 (scaled a) changed
    (put-below (n a) (2 ^ m a) (mid a) (n-is a) (fits a) (2 ^ degree (q a)) p (scaled a).below changed.below.1)
    (stretch-put (n a) (2 ^ m a) (mid a) (n-is a) (fits a) p (changed.kept ∙ length_stretch (2 ^ m a) (2 ^ m a) (mid a) (omega (arith, fits a, n-is a))))
