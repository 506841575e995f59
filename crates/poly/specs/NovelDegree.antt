-- The coefficients of a word of symbols over the basis of Lin, Chung and Han.
use Rattle.std.specs.Prelude.{◌≡◌, List, ℕ, ◌^◌, length}
use Rattle.lists.specs.All.{All}
use Rattle.field.specs.Laws.{Ops, IsField}
use Rattle.poly.specs.Transform.{inverse}
use Rattle.poly.specs.Values.{table, images_of}
use Rattle.poly.specs.Codeword.{Basis}

module _ {K : Ops} (F : IsField K) where
  infixl 60 ◌⊕◌
  infixl 70 ◌⊗◌
  open K use {◌⊕◌, ◌⊗◌, inv, Sym}

  module _ (m : ℕ) (b : List ℕ) (B : Basis K m b) (v : List ℕ) (lv : length v ≡ 2 ^ m) (sv : All Sym v) where
    -- the coefficients of a word of symbols over that basis
    abbrev pub novel_coeffs : List ℕ
    novel_coeffs = inverse K (table K b) m (images_of K b 0) v
