-- The bench cases P1 to P9 of document 01 as one list, with one theorem over it.
use Rattle.std.specs.Prelude.{List, [], ◌∷◌}
use Rattle.field.specs.Cases.{P1, p1, P2, p2, P3, p3}
use Rattle.poly.specs.Cases.{P4}
use Rattle.poly.proofs.Cases.{p4}
use Rattle.proximity.specs.Cases.{P7, p7, P8, p8, P9, p9}
use Rattle.terms.specs.CaseVerdicts.{P5, p5, P6, p6}

-- each sentence of the list holds
abbrev pub Every : List (Type 0) → Type 0
Every [] = Unit {0}
Every (P ∷ Ps) = P × Every Ps

abbrev pub cases : List (Type 0)
cases = P1 ∷ P2 ∷ P3 ∷ P4 ∷ P5 ∷ P6 ∷ P7 ∷ P8 ∷ P9 ∷ []

pub cases_hold : Every cases
cases_hold = (p1, (p2, (p3, (p4, (p5, (p6, (p7, (p8, (p9, tt)))))))))
