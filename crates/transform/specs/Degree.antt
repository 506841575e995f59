-- What the test of a short word tells: that it is a codeword, or the least degree of a polynomial through its symbols. Definitions only.
use Rattle.std.specs.Prelude.{◌≡◌, Option, Some, None, List, ℕ, suc, ◌-◌, ◌^◌, ◌<◌, length, take}
use Rattle.lists.specs.Tables.{part}
use Rattle.field.specs.Laws.{Ops}
use Rattle.field.specs.Symbols.{symbols}
use Rattle.poly.specs.Coefficients.{coeff, Low}
use Rattle.poly.specs.Transform.{inverse}
use Rattle.poly.specs.Values.{table, images_of}
use Rattle.poly.specs.Codeword.{Basis, word_of, Codeword}
use Rattle.poly.specs.Blocks.{block_coeffs}
use Rattle.poly.specs.LeastDegree.{LeastDegree}
use Rattle.space.specs.Images.{Images}
use Rattle.transform.specs.Blocks.{block}

-- the numbers after place r are 0, and the one there is not, unless all are
abbrev pub Highest : List ℕ → ℕ → Type 0
Highest xs r = Low (suc r) xs × (coeff xs r ≡ 0 → Low 0 xs)

-- where the lanes of xs are the coefficients of a word's eight blocks, the front of ys are those of the word
abbrev pub BlocksJoined : ℕ → List ℕ → ℕ → List ℕ → List ℕ → Type 0
BlocksJoined q images k xs ys =
    (length ys ≡ 64)
    × ((b : List ℕ) → Basis (symbols q) k b → Images (symbols q) b images → (word : List ℕ) → length word ≡ 2 ^ k → ((r : ℕ) → r < 8 → block k r xs ≡ block_coeffs (symbols q) k b word r)
    → take (2 ^ k) ys ≡ inverse (symbols q) (table (symbols q) b) k (images_of (symbols q) b 0) word)

-- the answer for a word: a codeword, or the least degree of a polynomial through it
abbrev pub DegreeTold : Ops → ℕ → List ℕ → List ℕ → Option ℕ → Type 0
DegreeTold K k b word None = Codeword K k b word
DegreeTold K k b word (Some g) = (Codeword K k b word → ⊥) × LeastDegree K (word_of K k b) word g

-- the answer for the word whose eight blocks are the lanes of xs
abbrev pub ToldInLanes : ℕ → List ℕ → ℕ → List ℕ → Option ℕ → Type 0
ToldInLanes q images k xs answer =
    (b : List ℕ) → Basis (symbols q) k b → Images (symbols q) b images → (word : List ℕ) → length word ≡ 2 ^ k
    → ((r : ℕ) → r < 8 → block k r xs ≡ part (2 ^ (k - 3)) r word) → DegreeTold (symbols q) k b word answer
