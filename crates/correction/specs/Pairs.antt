-- The remainders in a work list. Two pairs of polynomials, each of room for 2 n coefficients: the first pair at 2 n and the second at 4 n, their factors 4 n further on.
use Rattle.std.specs.Prelude.{◌≡◌, ◌⊎◌, ◌≢◌, List, ℕ, ◌+◌, ◌-◌, ◌*◌, ◌≤◌, ◌<◌, ◌^◌, length, get_or}
use Rattle.lists.specs.All.{Below}
use Rattle.lists.specs.Stretch.{stretch}
use Rattle.field.specs.Binary.{◌⊕◌, degree, product, Irreducible}
use Rattle.field.specs.Products.{Sized}
use Rattle.field.specs.Symbols.{symbols}
use Rattle.field.specs.declared.Field.{Field}
use Rattle.correction.specs.Remainders.{Remainders}
use Rattle.correction.specs.Rows.{Added}

-- the polynomial at a place
abbrev pub poly_at : ℕ → ℕ → List ℕ → List ℕ
poly_at n at work = stretch (2 * n) at work

-- the pair at `at` and the other one are remainders of degrees b and below a
abbrev pub Pairs : ℕ → ℕ → (ℕ → ℕ) → (ℕ → ℕ) → ℕ → ℕ → ℕ → List ℕ → Type 0
Pairs q n x w a b at work =
    Remainders (symbols q) n x w a b (poly_at n at work) (poly_at n (at + 4 * n) work) (poly_at n (6 * n - at) work) (poly_at n (6 * n - at + 4 * n) work)

-- what a step takes
pub record Held (f : Field) (n a b at : ℕ) (work : List ℕ) : Type 0 where
  pub sized : Sized f
  pub irreducible : Irreducible f.modulus
  pub small : a ≤ n
  pub large : b ≤ n
  pub place : (at ≡ 2 * n) ⊎ (at ≡ 4 * n)
  pub room : 10 * n ≤ length work
  pub below : Below (2 ^ degree f.modulus) work
  pub lead : get_or work (at + b) 0 ≢ 0

-- from one state to another: remainders stay remainders
pub record Advanced (f : Field) (n a b at : ℕ) (work : List ℕ) (a' b' at' : ℕ) (work' : List ℕ) : Type 0 where
  pub held : Held f n a' b' at' work'
  pub kept : length work' ≡ length work
  pub pairs : (x w : ℕ → ℕ) → Pairs f.modulus n x w a b at work → Pairs f.modulus n x w a' b' at' work'

-- c times the polynomial and the factor of one pair, each of so many coefficients, are added to those of the other
pub record AddedPair (q c from to far r v : ℕ) (old new : List ℕ) : Type 0 where
  pub kept : length new ≡ length old
  pub below : Below (2 ^ degree q) new
  pub middle : List ℕ
  pub first : Added q c from to r old middle
  pub second : Added q c (from + far) (to + far) v middle new

-- the places of the two pairs, in one order or the other
abbrev pub Places : ℕ → ℕ → ℕ → Type 0
Places n from to = ((from ≡ 2 * n) × (to ≡ 4 * n)) ⊎ ((from ≡ 4 * n) × (to ≡ 2 * n))

-- what `cancel` takes: coefficient i of one polynomial is not 0
pub record Cancels (f : Field) (n from i to j v : ℕ) (work : List ℕ) : Type 0 where
  pub sized : Sized f
  pub irreducible : Irreducible f.modulus
  pub below : Below (2 ^ degree f.modulus) work
  pub places : Places n from to
  pub room : 10 * n ≤ length work
  pub order : i ≤ j
  pub fits : j < 2 * n
  pub factor-fits : v + (j - i) ≤ 2 * n
  pub lead : get_or work (from + i) 0 ≢ 0

-- coefficient j of the other is taken away by a multiple
pub record Cancelled (q n from i to j v : ℕ) (old new : List ℕ) : Type 0 where
  pub factor : ℕ
  pub symbol : factor < 2 ^ degree q
  pub zero : get_or old (to + j) 0 ⊕ product q factor (get_or old (from + i) 0) ≡ 0
  pub added : AddedPair q factor from (to + (j - i)) (4 * n) (i + 1) v old new
