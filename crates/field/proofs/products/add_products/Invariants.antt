-- The loop's invariant: the list is as after i turns (`turned`).
use mathlib.Core.Path.{◌≡◌}
use lib.ListN.{length}
use Rattle.lists.specs.Stretch.{stretch, turned}
use Rattle.field.specs.Products.{add_products}
use Rattle.field.proofs.products.add_products.Given as goal

abbrev pub invariant-loop-i : goal.invariant-loop-i
invariant-loop-i l =
    l.values ≡ turned (length l.t) l.to (add_products l.m l.c l.t (stretch (length l.t) l.from l.initial.values) (stretch (length l.t) l.to l.initial.values)) l.initial.values l.i
