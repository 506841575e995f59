-- The bench cases P1 to P3, each a sentence about the definitions with its proof. Assumes nothing.
use Rattle.std.specs.Prelude.{◌≡◌, refl}
use Rattle.std.proofs.Common.{inl, inr, arith}
use Rattle.lists.specs.Answers.{Answers}
use Rattle.field.specs.Binary.{product, irreducible?, Irreducible}
use Rattle.field.specs.Decide.{test_of_irreducible}
use Rattle.field.specs.Checks.{modulus_checks, in_range}

-- products modulo 11
abbrev pub P1 : Type 0
P1 = (product 11 2 4 ≡ 3) × (product 11 5 5 ≡ 7) × (product 11 3 6 ≡ 1)

pub p1 : P1
unfolding product
p1 = (refl, refl, refl)

-- products modulo 283
abbrev pub P2 : Type 0
P2 = (product 283 87 131 ≡ 193) × (product 283 83 202 ≡ 1)

pub p2 : P2
unfolding product
p2 = (refl, refl)

-- refused moduli
abbrev pub P3 : Type 0
P3 = Answers (modulus_checks 7) 1 × Answers (modulus_checks 15) 2 × Answers (modulus_checks 21) 2 × Answers (modulus_checks 131072) 1

reducible_15 : ¬ Irreducible 15
unfolding irreducible?
reducible_15 irr = test_of_irreducible 15 irr

reducible_21 : ¬ Irreducible 21
unfolding irreducible?
reducible_21 irr = test_of_irreducible 21 irr

pub p3 : P3
p3 = (
  inl (inl (omega arith), refl),
  inr (in_range {m = 15} (omega arith) (omega arith), inl (reducible_15, refl)),
  inr (in_range {m = 21} (omega arith) (omega arith), inl (reducible_21, refl)),
  inl (inr (omega arith), refl),
)
