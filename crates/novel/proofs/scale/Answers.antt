-- `novel::scale` meets its contract. Assumes nothing.
use mathlib.Core.Path.{sym, subst}
use mathlib.Core.List.{List}
use native.Mathlib.Omega.{arith}
use lib.Pow.{pow_pos}
use Rattle.field.specs.Binary.{degree}
use Rattle.novel.specs.Novel.{Scaled}
use Rattle.novel.proofs.NovelLaws.{length_scales, scale_apart, scales_below, scaled_of, size_fits}
use Rattle.novel.proofs.scale.Goals.{Start}
use Rattle.novel.proofs.scale.Goals as goal

pub slice_bounds-t-end : goal.slice_bounds-t-end
slice_bounds-t-end c = omega (arith, c.power-n.ensures, c.scales-t.ensures.count, size_fits c.requires.0)

pub slice_bounds-add_products-end : goal.slice_bounds-add_products-end
slice_bounds-add_products-end c = sym (length_scales c.requires.0 c.power-n.result c.power-n.ensures c.scales-t.result c.args.work.now c.scales-t.ensures c.requires.1 c.requires.2)

pub add_products-requires : goal.add_products-requires
add_products-requires c = let start = (goal.at.add_products-requires c).Start in record { sized = (start.requires.0.sized, pow_pos (degree start.args.f.modulus)); below = (scales_below c.requires.0 c.power-n.result c.power-n.ensures c.scales-t.result c.args.work.now c.scales-t.ensures c.requires.1 c.requires.2, start.requires.1, scale_apart c.requires.0 c.power-n.result c.power-n.ensures c.scales-t.result c.args.work.now c.scales-t.ensures c.requires.1 c.requires.2) }

pub returns : goal.returns
returns c = let start = (goal.at.returns c).Start in
    subst (λ (l : List _). Scaled start.args.f.modulus start.args.factors.now start.args.m start.args.work.now l) (sym c.add_products.ensures)
    (scaled_of c.requires.0 c.power-n.result c.power-n.ensures c.scales-t.result c.args.work.now c.scales-t.ensures c.requires.1 c.requires.2)
