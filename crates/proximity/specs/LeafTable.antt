-- The space at which a coin ends, by its table. Assumes nothing.
use Rattle.std.specs.Prelude.{◌≡◌, refl, Bool, true, false, List, ℕ, ◌+◌, ◌/◌, ◌%◌, ◌≤◌, ltb, eqb, length, get_or}
use Rattle.std.proofs.Common.{sym, ap, ◌∙◌, subst, arith}
use Rattle.lists.specs.Pick.{pick}
use Rattle.lists.specs.Tables.{tab, length_tab}
use Rattle.field.specs.Binary.{Irreducible}
use Rattle.field.specs.Laws.{Ops}
use Rattle.field.specs.Symbols.{symbols, symbols-field}
use Rattle.poly.specs.Codeword.{Basis}
use Rattle.space.specs.Images.{Images, length_upper_images}
use Rattle.space.specs.Sizes.{cells}
use Rattle.proximity.specs.ByLine.{line_dim, line_basis}
use Rattle.proximity.specs.Dim.{half, col_dim, Dim, leaf, node, dim}
use Rattle.proximity.specs.LineImages.{element_images, row_images, LineTable}
use Rattle.proximity.specs.LineLaws.{line_in_range, line_basis_lem}
use Rattle.proximity.specs.Lines.{line_cases}
use Rattle.proximity.specs.Places.{leaf_dim_leaf, leaf_basis_leaf, leaf_dim-row, leaf_dim-column, leaf_basis-row, leaf_basis-column}
use Rattle.proximity.specs.Verifier.{line_of, bits_left, by_line, leaf_dim, leaf_basis}
use Rattle.proximity.specs.declared.Line.{Line}
use Rattle.proximity.specs.declared.Line.TheVariants.{Row, Column}

-- j is the dimension of the space at which the coin ends, and where t is the table of a space of dimension k, u is that of the last space
pub record LeafTable (k : ℕ) (t : List ℕ) (coin j : ℕ) (u : List ℕ) : Type 0 where
  pub dimension : j ≡ leaf_dim (dim k) coin
  pub right : (m : ℕ) → Irreducible m → (b : List ℕ) → Basis (symbols m) k b → Images (symbols m) b t → Images (symbols m) (leaf_basis (symbols m) (dim k) b coin) u

-- a short word is read whole
pub leaf_here : (k : ℕ) (t : List ℕ) (coin : ℕ) → k ≤ 6 → LeafTable k t coin k t
leaf_here k t coin s =
    record {
      dimension = sym (leaf_dim_leaf k coin s);
      right = λ m i b B I. subst (λ (x : List ℕ). Images (symbols m) x t) (sym (leaf_basis_leaf (symbols m) k coin s b)) I;
    }

-- ---- one line further

length_row-table : (k : ℕ) (t : List ℕ) (r : ℕ) → length t ≡ cells → length (row_images k t r) ≡ cells
unfolding row_images pick
length_row-table k t r e =
    by (ltb r 4) (λ p. pick (eqb (p / 16) (half k + 2)) (get_or (element_images (half k) (col_dim k) t r) (p % 16) 0) (get_or t p 0))
  where
    by : (s : Bool) (g : ℕ → ℕ) → length (pick s t (tab cells g)) ≡ cells
    by true g = e
    by false g = length_tab cells g

pub length_line_table : (k : ℕ) (t : List ℕ) (l : Line) (r : List ℕ) → length t ≡ cells → LineTable k t l r → length r ≡ cells
length_line_table k t (Row a) r e T = ap length T.entries ∙ length_row-table k t a e
length_line_table k t (Column a) r e T = ap length T.entries ∙ length_upper_images (half k) t

module _ (k coin : ℕ) (s : 7 ≤ k) where
  pub leaf_dim_line : (l : Line) → line_of k coin ≡ l → leaf_dim (dim k) coin ≡ leaf_dim (dim (line_dim k l)) (bits_left k coin)
  leaf_dim_line (Row r) e = leaf_dim-row k coin s r e
  leaf_dim_line (Column a) e = leaf_dim-column k coin s a e

  pub leaf_basis_line : (K : Ops) (b : List ℕ) (l : Line) → line_of k coin ≡ l → leaf_basis K (dim k) b coin ≡ leaf_basis K (dim (line_dim k l)) (line_basis K k b l) (bits_left k coin)
  leaf_basis_line K b (Row r) e = leaf_basis-row k coin s r e K b
  leaf_basis_line K b (Column a) e = leaf_basis-column k coin s a e K b

-- else the coin ends where the bits left over end in its line
pub leaf_line : {k : ℕ} {t : List ℕ} {coin : ℕ} {v : List ℕ} {j : ℕ} {u : List ℕ} → 7 ≤ k → LineTable k t (line_of k coin) v
    → LeafTable (line_dim k (line_of k coin)) v (bits_left k coin) j u → LeafTable k t coin j u
leaf_line {k} {t} {coin} {v} {j} {u} s T a =
    record {
      dimension = a.dimension ∙ sym (leaf_dim_line k coin s (line_of k coin) refl);
      right = λ m i b B I.
          subst (λ (x : List ℕ). Images (symbols m) x u) (sym (leaf_basis_line k coin s (symbols m) b (line_of k coin) refl))
          (a.right m i (line_basis (symbols m) k b (line_of k coin)) (line_basis_lem k s (symbols-field m i) b B (line_of k coin) (line_in_range k coin)) (T.right m i b B I));
    }

-- its dimension is at least 3 where that of the whole is
pub leaf_low : {k : ℕ} (d : Dim k) (coin : ℕ) → 3 ≤ k → 3 ≤ leaf_dim d coin
leaf_low (leaf s) coin h = h
leaf_low (node {k = k} s rows cols) coin h =
    line_cases k coin (λ l i. 3 ≤ by_line l (λ r. leaf_dim rows i) (λ a. leaf_dim cols i)) (λ r i l. leaf_low rows i (omega arith)) (λ a i l. leaf_low cols i (omega arith))
