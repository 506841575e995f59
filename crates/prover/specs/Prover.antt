-- What the prover takes and what it leaves, at each dimension.
use Rattle.std.specs.Prelude.{List, ℕ, ◌-◌, ◌^◌, ◌≤◌, ◌<◌, ltb}
use Rattle.lists.specs.Pick.{pick}
use Rattle.field.specs.Binary.{Irreducible}
use Rattle.field.specs.Products.{Sized}
use Rattle.field.specs.Symbols.{symbols}
use Rattle.field.specs.declared.Field.{Field}
use Rattle.poly.specs.Codeword.{Basis, Codeword}
use Rattle.space.specs.Images.{Images}
use Rattle.space.specs.Sizes.{max_dim}
use Rattle.proximity.specs.Dim.{col_dim, dim}
use Rattle.proximity.specs.declared.Line.{Line}
use Rattle.proximity.specs.declared.Line.TheVariants.{Row, Column}
use Rattle.proximity.specs.ByLine.{InRange, line_dim}
use Rattle.proximity.specs.Prover.{Written}

-- a codeword over a space of dimension k, 3 at least, by the field and the table t
pub record Proving (f : Field) (k : ℕ) (t w : List ℕ) : Type 0 where
  pub sized : Sized f
  pub irreducible : Irreducible f.modulus
  pub low : 3 ≤ k
  pub high : k ≤ max_dim
  pub basis : List ℕ
  pub right : Basis (symbols f.modulus) k basis
  pub table : Images (symbols f.modulus) basis t
  pub code : Codeword (symbols f.modulus) k basis w

-- π is written for the codeword w, over each space that has the table t
abbrev pub Proved : ℕ → ℕ → List ℕ → List ℕ → List ℕ → Type 0
Proved q k t w π = (b : List ℕ) → Basis (symbols q) k b → Images (symbols q) b t → Codeword (symbols q) k b w → Written (symbols q) (dim k) b w π

-- the lines one after the other: first the rows
unfoldable pub line_at : ℕ → ℕ → Line
line_at k i = pick (ltb i (2 ^ col_dim k)) (Row i) (Column (i - 2 ^ col_dim k))

-- the first n lines are those of dimension above 6
pub record Deep (k n : ℕ) : Type 0 where
  pub deep : (i : ℕ) → i < n → InRange k (line_at k i) × (6 < line_dim k (line_at k i))
  pub flat : (i : ℕ) → n ≤ i → InRange k (line_at k i) → line_dim k (line_at k i) ≤ 6
