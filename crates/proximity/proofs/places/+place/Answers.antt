-- `place` meets its contract: a leaf's symbol lies in the word, and another's where its line has it.
use mathlib.Core.Path.{◌≡◌, sym, ap, ap₂, ◌∙◌, subst}
use Prim.Native.Nat.{ℕ, ◌^◌, ◌≤◌, ◌<◌}
use native.Mathlib.Omega.{arith}
use lib.ListN.{length}
use Rattle.proximity.specs.Dim.{dim, S}
use Rattle.proximity.specs.declared.Line.{Line}
use Rattle.proximity.specs.declared.Place.{Place}
use Rattle.proximity.specs.Verifier.{line_of, bits_left, positions}
use Rattle.proximity.specs.Reads.{Inside}
use Rattle.proximity.specs.ByLine.{InRange, line_dim, line_place, place_at}
use Rattle.proximity.specs.LineLaws.{line_in_range, line_falls}
use Rattle.proximity.specs.PlaceLaws.{place_inside, place_leaf, length_line, place_line}
use Rattle.proximity.proofs.places.+place.Goals as goal

-- the coin's line l, its dimension d and the bits x left over
module _ (k coin i : ℕ) (l : Line) (d x : ℕ) (large : 7 ≤ k) (within : i < length (positions (dim k) coin)) (taken : l ≡ line_of k coin) (ed : d ≡ line_dim k l) (ex : x ≡ bits_left k coin) where
  there : i < length (positions (dim (line_dim k l)) (bits_left k coin))
  there = omega (arith, length_line k coin large l (sym taken), within)

  less : d < k
  less = omega (arith, ed, line_falls k large l)

  there-as : i < length (positions (dim d) x)
  there-as = rw (ed, ex) there

  -- the place in the line
  module _ (p : Place) (ep : p ≡ place_at d x i) where
    inner : p ≡ place_at (line_dim k l) (bits_left k coin) i
    inner = ep ∙ ap₂ (λ (d x : ℕ). place_at d x i) ed ex

    inner-inside : Inside (2 ^ line_dim k l) (S (line_dim k l)) p
    inner-inside = subst (Inside (2 ^ line_dim k l) (S (line_dim k l))) (sym inner) (place_inside (line_dim k l) (bits_left k coin) i there)

    place-whole : line_place k l p ≡ place_at k coin i
    place-whole = ap (line_place k l) inner ∙ sym (place_line k coin large l (sym taken) i within)

pub returns-then-k-le6 : goal.returns-then-k-le6
returns-then-k-le6 t c = let a = c.args in sym (place_leaf a.k a.coin (omega arith) a.i c.requires.1)

pub place-inner-requires : goal.place-inner-requires
place-inner-requires t c =
    let a = c.args in
    let l = c.line_of-line in
    let d = c.line_dimension in
    let x = c.rest_of in
    let large : 7 ≤ a.k = omega arith in
    let falls : d.result < a.k = less a.k a.coin a.i l.result d.result x.result large c.requires.1 l.ensures d.ensures x.ensures in
    (omega arith, (omega arith, there-as a.k a.coin a.i l.result d.result x.result large c.requires.1 l.ensures d.ensures x.ensures))

pub line_place-requires : goal.line_place-requires
line_place-requires t c =
    let a = c.args in
    let l = c.line_of-line in
    let d = c.line_dimension in
    let x = c.rest_of in
    let p = c.place-inner in
    let large : 7 ≤ a.k = omega arith in (
      large,
      c.requires.0,
      subst (InRange a.k) (sym l.ensures) (line_in_range a.k a.coin),
      inner-inside a.k a.coin a.i l.result d.result x.result large c.requires.1 l.ensures d.ensures x.ensures p.result p.ensures,
    )

pub returns : goal.returns
returns t c =
    let a = c.args in
    let l = c.line_of-line in
    let d = c.line_dimension in
    let x = c.rest_of in
    let p = c.place-inner in
    c.line_place.ensures ∙ place-whole a.k a.coin a.i l.result d.result x.result (omega arith) c.requires.1 l.ensures d.ensures x.ensures p.result p.ensures
