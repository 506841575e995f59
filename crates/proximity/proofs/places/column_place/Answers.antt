use mathlib.Core.Path.{◌≡◌, sym, ap, ◌∙◌, subst}
use Prim.Native.Nat.{◌^◌}
use native.Mathlib.Omega.{arith}
use Rattle.proximity.specs.ByLine.{line_place, place_at}
use Rattle.proximity.specs.Dim.{half, col_dim, S}
use Rattle.proximity.specs.LineLaws.{line_inside}
use Rattle.proximity.specs.PlaceLaws.{length_leaf, place_leaf, place_inside}
use Rattle.proximity.specs.Reads.{Inside}
use Rattle.proximity.specs.Subspaces.{pow_four, pow_eight}
use Rattle.proximity.specs.declared.Line.TheVariants.{Column}
use Rattle.proximity.specs.declared.Place.{Place}
use Rattle.proximity.proofs.places.column_place.Goals.{Start}
use Rattle.proximity.proofs.places.column_place.Goals as goal

pub row_place-requires : goal.row_place-requires
row_place-requires c = let a = c.args in
    let p = c.requires in
    (p.1, omega (arith, p.3, length_leaf (col_dim a.k) a.rest (omega arith)), omega (arith, p.2, pow_four (half a.k), pow_eight (half a.k)))

-- such a place lies inside
told : (s : goal.Start) (p : Place) → p ≡ line_place s.args.k (Column s.args.a) (place_at (col_dim s.args.k) s.args.rest s.args.i)
    → (p ≡ line_place s.args.k (Column s.args.a) (place_at (col_dim s.args.k) s.args.rest s.args.i)) × Inside (2 ^ s.args.k) (S s.args.k) p
told s p e =
    let a = s.args in
    let inner = place_inside (col_dim a.k) a.rest a.i s.requires.3 in
    (e, subst (Inside (2 ^ a.k) (S a.k)) (sym e) (line_inside a.k s.requires.0 (Column a.a) s.requires.2 (place_at (col_dim a.k) a.rest a.i) inner))

pub returns-then-m-le6 : goal.returns-then-m-le6
returns-then-m-le6 c = let s = (goal.at.returns-then-m-le6 c).Start in
    let a = s.args in
    told s c.row_place.result (c.row_place.ensures ∙ sym (ap (line_place a.k (Column a.a)) (place_leaf (col_dim a.k) a.rest (omega arith) a.i s.requires.3)))

pub place-requires : goal.place-requires
place-requires c = (omega (arith, c.requires.1), c.requires.3)

pub line_place-requires : goal.line_place-requires
line_place-requires c = let a = c.args in
    let p = c.requires in
    (p.0, p.1, p.2, subst (Inside (2 ^ col_dim a.k) (S (col_dim a.k))) (sym c.place.ensures) (place_inside (col_dim a.k) a.rest a.i p.3))

pub returns : goal.returns
returns c = let s = (goal.at.returns c).Start in
    let a = s.args in
    told s c.line_place.result (c.line_place.ensures ∙ ap (line_place a.k (Column a.a)) c.place.ensures)
