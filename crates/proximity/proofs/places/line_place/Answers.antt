-- `proximity::places::line_place` meets its contract, by the cases of the place and of the line.
-- a place in the line's proof
use mathlib.Core.Path.{◌≡◌, sym, ap, ap₂, ◌∙◌, subst}
use Prim.Native.Nat.{ℕ, ◌+◌, ◌^◌, ◌<◌}
use native.Mathlib.Omega.{arith}
use Rattle.proximity.specs.Dim.{half, S}
use Rattle.proximity.specs.declared.Line.{Line}
use Rattle.proximity.specs.declared.Place.{Place}
use Rattle.proximity.specs.declared.Place.TheVariants.{InProof}
use Rattle.proximity.specs.Subspaces.{pow_four, pow_eight}
use Rattle.proximity.specs.Reads.{Inside}
use Rattle.proximity.specs.ByLine.{InRange, line_dim, line_place}
use Rattle.proximity.specs.LineLaws.{S-small, line_proof-fits}
use Rattle.proximity.specs.PlaceLaws.{line_place-proof}
use Rattle.proximity.proofs.places.line_place.Goals.{Start, After-line_proof_at}
use Rattle.proximity.proofs.places.line_place.Goals as goal

in-proof : (c : goal.After-line_proof_at) → c.in-InProof.i < S (line_dim c.args.k c.args.line)
in-proof c =
    let start = (goal.at.After-line_proof_at c).Start in
    let d = line_dim start.args.k start.args.line in
    subst (Inside (2 ^ d) (S d)) c.in-InProof.is start.requires.3

pub overflow_add-result : goal.overflow_add-result
overflow_add-result c = let start = (goal.at.overflow_add-result c).Start in
    omega (arith, c.line_proof_at.ensures, in-proof c, line_proof-fits start.args.k start.requires.0 start.args.line start.requires.2, S-small start.args.k (omega arith))

-- a place in the line's word
both : (k : ℕ) (l m : Line) (p q : Place) → l ≡ m → p ≡ q → InRange k l → Inside (2 ^ line_dim k l) (S (line_dim k l)) p → InRange k m × Inside (2 ^ line_dim k m) (S (line_dim k m)) q
both k l m p q e f h i = (
  subst (InRange k) e h,
  subst (λ (l : Line). Inside (2 ^ line_dim k l) (S (line_dim k l)) q) e (subst (Inside (2 ^ line_dim k l) (S (line_dim k l))) f i),
)

pub row_place-requires : goal.row_place-requires
row_place-requires c = let start = (goal.at.row_place-requires c).Start in
    let b = both start.args.k start.args.line _ start.args.p _ c.in-Row.is c.in-InWord.is start.requires.2 start.requires.3 in
    (start.requires.1, b.0, b.1)

pub row_place-requires-in-Column : goal.row_place-requires-in-Column
row_place-requires-in-Column c = let start = (goal.at.row_place-requires-in-Column c).Start in
    let b = both start.args.k start.args.line _ start.args.p _ c.in-Column.is c.in-InWord.is start.requires.2 start.requires.3 in
    (start.requires.1, b.1, omega (arith, b.0, pow_four (half start.args.k), pow_eight (half start.args.k)))

pub returns-in-InProof : goal.returns-in-InProof
returns-in-InProof c = let a = c.args in
    let i = c.in-InProof.i in
    ap (λ (x : ℕ). InProof (x + i)) c.line_proof_at.ensures ∙ sym (line_place-proof a.k a.line i)
    ∙ sym (ap (line_place a.k a.line) c.in-InProof.is)

pub returns-in-Row : goal.returns-in-Row
returns-in-Row c = let a = c.args in
    c.row_place.ensures
    ∙ sym (ap₂ (line_place a.k) c.in-Row.is c.in-InWord.is)

pub returns-in-Column : goal.returns-in-Column
returns-in-Column c = let a = c.args in
    c.row_place-in-Column.ensures
    ∙ sym (ap₂ (line_place a.k) c.in-Column.is c.in-InWord.is)
