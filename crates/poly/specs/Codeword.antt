-- Words over a space and their polynomials, and the codewords: those of degree below an eighth of the length.
use Rattle.std.specs.Prelude.{◌≡◌, List, ℕ, ◌^◌, ◌-◌, length}
use Rattle.lists.specs.All.{All}
use Rattle.lists.specs.Tables.{tab}
use Rattle.field.specs.Laws.{Ops}
use Rattle.poly.specs.Poly.{eval}
use Rattle.poly.specs.Span.{elem, Independent}

module _ (K : Ops) where
  -- b is a basis of k symbols
  pub record Basis (k : ℕ) (b : List ℕ) : Type 0 where
    pub count : length b ≡ k
    pub elements : All K.Sym b
    pub independent : Independent K b

  -- the word of the polynomial p: its value at element i in position i
  abbrev pub word_of : ℕ → List ℕ → List ℕ → List ℕ
  word_of k b p = tab (2 ^ k) (λ i. eval K p (elem K b i))

  -- w is the word of a polynomial of degree below an eighth of the length
  abbrev pub Codeword : ℕ → List ℕ → List ℕ → Type 0
  Codeword k b w = (p : List ℕ) × (length p ≡ 2 ^ (k - 3)) × All K.Sym p × (w ≡ word_of k b p)
