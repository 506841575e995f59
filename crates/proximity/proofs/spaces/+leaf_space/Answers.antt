-- `leaf_space` meets its contract: a leaf is the space itself, and otherwise it is that of the coin's line.
use mathlib.Core.Path.{◌≡◌, ap, ◌∙◌, subst, transport}
use mathlib.Core.List.{List}
use Prim.Native.Nat.{ℕ, ◌≤◌}
use native.Mathlib.Omega.{arith}
use Rattle.proximity.specs.ByLine.{line_dim}
use Rattle.proximity.specs.LineImages.{LineTable}
use Rattle.proximity.specs.Verifier.{line_of, bits_left}
use Rattle.proximity.specs.declared.Line.{Line}
use Rattle.proximity.specs.LeafTable.{LeafTable, leaf_here, leaf_line}
use Rattle.proximity.proofs.spaces.+leaf_space.Goals as goal

-- the line l that the coin takes, its table v, its dimension d and the bits x left over
leaf_by_line : {k coin : ℕ} {t v u : List ℕ} {l : Line} {d x j : ℕ} → 7 ≤ k → l ≡ line_of k coin → LineTable k t l v → d ≡ line_dim k l
    → x ≡ bits_left k coin → LeafTable d v x j u → LeafTable k t coin j u
leaf_by_line {k} {coin} {t} {v} {u} {l} {d} {x} {j} large taken table ed ex leaf =
    leaf_line large (subst (λ (l : Line). LineTable k t l v) taken table)
    (transport (λ i. LeafTable ((ed ∙ ap (line_dim k) taken) i) v (ex i) j u) leaf)

pub returns-then-k-le6 : goal.returns-then-k-le6
returns-then-k-le6 t c = let a = c.args in leaf_here a.k a.images.now a.coin (omega arith)

pub returns : goal.returns
returns t c = leaf_by_line (omega arith) c.line_of-line.ensures c.line_images-t.ensures c.line_dimension.ensures c.rest_of.ensures c.leaf_space.ensures
