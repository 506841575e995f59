-- The space of the row or column that a coin ends in: one step at dimension k. Assumes nothing.
use Rattle.std.specs.Prelude.{◌≡◌, List, ℕ, ◌≤◌}
use Rattle.std.proofs.Common.{ap, ◌∙◌}
use Rattle.field.specs.Laws.{Ops}
use Rattle.proximity.specs.Dim.{row_dim, col_dim, Dim, dim}
use Rattle.proximity.specs.Tree.{dim_leaf, dim_node}
use Rattle.proximity.specs.Spaces.{row_basis, col_basis}
use Rattle.proximity.specs.declared.Line.{Line}
use Rattle.proximity.specs.declared.Line.TheVariants.{Row, Column}
use Rattle.proximity.specs.Verifier.{line_of, bits_left, by_line, leaf_dim, leaf_basis}

module _ (k coin : ℕ) where
  pub leaf_dim_leaf : k ≤ 6 → leaf_dim (dim k) coin ≡ k
  leaf_dim_leaf s = ap (λ (d : Dim k). leaf_dim d coin) (dim_leaf k s)

  module _ (s : 7 ≤ k) (r : ℕ) (e : line_of k coin ≡ Row r) where
    pub leaf_dim-row : leaf_dim (dim k) coin ≡ leaf_dim (dim (row_dim k)) (bits_left k coin)
    leaf_dim-row =
        ap (λ (d : Dim k). leaf_dim d coin) (dim_node k s)
        ∙ ap (λ (l : Line). by_line l (λ r. leaf_dim (dim (row_dim k)) (bits_left k coin)) (λ a. leaf_dim (dim (col_dim k)) (bits_left k coin))) e

    pub leaf_basis-row : (K : Ops) (b : List ℕ) → leaf_basis K (dim k) b coin ≡ leaf_basis K (dim (row_dim k)) (row_basis K k b r) (bits_left k coin)
    leaf_basis-row K b =
        ap (λ (d : Dim k). leaf_basis K d b coin) (dim_node k s)
        ∙ ap (λ (l : Line). by_line l (λ r. leaf_basis K (dim (row_dim k)) (row_basis K k b r) (bits_left k coin)) (λ a. leaf_basis K (dim (col_dim k)) (col_basis K k b) (bits_left k coin))) e

  module _ (s : 7 ≤ k) (a : ℕ) (e : line_of k coin ≡ Column a) where
    pub leaf_dim-column : leaf_dim (dim k) coin ≡ leaf_dim (dim (col_dim k)) (bits_left k coin)
    leaf_dim-column =
        ap (λ (d : Dim k). leaf_dim d coin) (dim_node k s)
        ∙ ap (λ (l : Line). by_line l (λ r. leaf_dim (dim (row_dim k)) (bits_left k coin)) (λ a. leaf_dim (dim (col_dim k)) (bits_left k coin))) e

    pub leaf_basis-column : (K : Ops) (b : List ℕ) → leaf_basis K (dim k) b coin ≡ leaf_basis K (dim (col_dim k)) (col_basis K k b) (bits_left k coin)
    leaf_basis-column K b =
        ap (λ (d : Dim k). leaf_basis K d b coin) (dim_node k s)
        ∙ ap (λ (l : Line). by_line l (λ r. leaf_basis K (dim (row_dim k)) (row_basis K k b r) (bits_left k coin)) (λ a. leaf_basis K (dim (col_dim k)) (col_basis K k b) (bits_left k coin))) e

pub leaf_basis_leaf : (K : Ops) (k coin : ℕ) → k ≤ 6 → (b : List ℕ) → leaf_basis K (dim k) b coin ≡ b
leaf_basis_leaf K k coin s b = ap (λ (d : Dim k). leaf_basis K d b coin) (dim_leaf k s)
