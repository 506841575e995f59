-- The table of the subspace polynomials, cell by cell. Assumes nothing.
use mathlib.Core.Path.{◌≡◌, refl, sym, ap, ap₂, ◌∙◌, subst}
use mathlib.Core.List.{List}
use Prim.Native.Nat.{ℕ, zero, suc, ◌+◌, ◌*◌, ◌/◌, ◌%◌, ◌^◌, ◌≤◌, ◌<◌, ◌-◌}
use native.Mathlib.Decide.{ℕ_discrete}
use native.Mathlib.Omega.{arith}
use lib.ListN.{get_or, set}
use Rattle.space.specs.Sizes.{max_dim}
use Rattle.lists.specs.All.{Below, All-at}
use Rattle.lists.specs.Upto.{Upto, upto_none, upto_next, upto_each, upto_zeros}
use Rattle.field.specs.Binary.{◌⊕◌, degree, product, Irreducible}
use Rattle.field.specs.Laws.{Ops, IsField}
use Rattle.field.specs.Symbols.{symbols, symbols-field}
use Rattle.novel.specs.Sparse.{coefficient, zero_cells, Sparse, coefficient-high, coefficient_sym, table_cells}

module _ (q : ℕ) (irr : Irreducible q) (steps : List ℕ) where
  abbrev K : Ops
  K = symbols q

  abbrev F : IsField K
  F = symbols-field q irr

  abbrev s : ℕ → ℕ
  s j = get_or steps j 0

  -- cell p of the table
  pub cell : ℕ → ℕ
  cell p = coefficient K s (p / max_dim) (p % max_dim)

  cell_at : (p j i : ℕ) → p / max_dim ≡ j → p % max_dim ≡ i → cell p ≡ coefficient K s j i
  unfolding cell
  cell_at p j i ej ei = ap₂ (coefficient K s) ej ei

  last_step : (a c e : ℕ) → e ≡ 0 → product q a c ⊕ (product q e e) ≡ product q a c
  last_step a c e h = ap (λ (t : ℕ). product q a c ⊕ (product q t t)) h ∙ zeros (product q a c)
    where
      zeros : (v : ℕ) → v ⊕ (product q 0 0) ≡ v
      zeros v = ap (λ (t : ℕ). v ⊕ t) (F.zero_prod 0) ∙ F.sum_comm v 0 ∙ F.zero-sum v

  pub cell-next : (p : ℕ) → p + (max_dim + 1) < table_cells → product q (s ((p + 1) / max_dim)) (cell (p + 1)) ⊕ (product q (cell p) (cell p)) ≡ cell (p + (max_dim + 1))
  unfolding coefficient
  cell-next p h = by (ℕ_discrete (p % max_dim) (max_dim - 1))
    where
      by : Dec (p % max_dim ≡ (max_dim - 1)) → product q (s ((p + 1) / max_dim)) (cell (p + 1)) ⊕ (product q (cell p) (cell p)) ≡ cell (p + (max_dim + 1))
      by (yes e) =
          let row : (p + 1) / max_dim ≡ suc (p / max_dim) = omega arith in
          ap₂ (λ (a c : ℕ). product q a c ⊕ (product q (cell p) (cell p))) (ap s row) (cell_at (p + 1) (suc (p / max_dim)) 0 row (omega arith))
          ∙ last_step (s (suc (p / max_dim))) (coefficient K s (suc (p / max_dim)) 0) (cell p)
          (cell_at p (p / max_dim) (max_dim - 1) refl e ∙ coefficient-high F s (p / max_dim) (max_dim - 1) (omega arith))
          ∙ sym (cell_at (p + (max_dim + 1)) (suc (suc (p / max_dim))) 0 (omega arith) (omega arith))
      by (no n) =
          let row : (p + 1) / max_dim ≡ p / max_dim = omega arith in
          ap₂ (λ (a c : ℕ). product q a c ⊕ (product q (cell p) (cell p))) (ap s row) (cell_at (p + 1) (p / max_dim) (suc (p % max_dim)) row (omega arith))
          ∙ ap (λ (t : ℕ). product q (s (p / max_dim)) (coefficient K s (p / max_dim) (suc (p % max_dim))) ⊕ (product q t t)) (cell_at p (p / max_dim) (p % max_dim) refl refl)
          ∙ sym (cell_at (p + (max_dim + 1)) (suc (p / max_dim)) (suc (p % max_dim)) (omega arith) (omega arith))

  -- row 0
  first-row : (p : ℕ) → 1 ≤ p → p < max_dim → cell p ≡ 0
  unfolding coefficient
  first-row zero l h = absurd (omega arith)
  first-row (suc p) l h = cell_at (suc p) 0 (suc p) (omega arith) (omega arith)

  pub cells-start : (t : List ℕ) (x : ℕ) → t ≡ zero_cells → x ≡ product q (s 0) 1 → Upto table_cells (max_dim + 1) cell (set (set t 0 1) max_dim x)
  unfolding coefficient zero_cells cell
  cells-start t x e h =
      upto_next x (omega arith) h
      (upto_zeros {k = max_dim} (omega arith) first-row
      (subst (λ (l : List ℕ). Upto table_cells 1 cell (set l 0 1)) (sym e) (upto_next 1 (omega arith) refl (upto_none table_cells cell))))

  pub cells-next : {t : List ℕ} (n p a b : ℕ) → p + (max_dim + 1) ≡ n → n < table_cells → Upto table_cells n cell t → a ≡ product q (s ((p + 1) / max_dim)) (get_or t (p + 1) 0) → b ≡ product q (get_or t p 0) (get_or t p 0)
      → Upto table_cells (n + 1) cell (set t n (a ⊕ b))
  cells-next {t} n p a b e h u ea eb =
      upto_next (a ⊕ b) h
      (ap₂ ◌⊕◌
      (ea ∙ ap (product q (s ((p + 1) / max_dim))) (u.done (p + 1) (omega arith) (omega arith)))
      (eb ∙ ap (λ (v : ℕ). product q v v) (u.done p (omega arith) (omega arith)))
      ∙ cell-next p (omega arith) ∙ ap cell e)
      u

  pub cells-below : {t : List ℕ} {n : ℕ} → Below (2 ^ degree q) steps → Upto table_cells n cell t → Below (2 ^ degree q) t
  unfolding cell
  cells-below sb u =
      upto_each (λ (x : ℕ). x < 2 ^ degree q) F.sym_zero
      (λ p h. coefficient_sym F s (p / max_dim) (p / max_dim) (p % max_dim) (λ j l. All-at (λ (x : ℕ). x < 2 ^ degree q) steps 0 sb F.sym_zero j) (omega arith)) u

  pub cells-all : {t : List ℕ} (n count : ℕ) → count ≤ max_dim + 1 → Below (2 ^ degree q) steps → max_dim * count ≤ n → Upto table_cells n cell t → Sparse q steps count t
  cells-all n count few sb h u =
      record {
        below = cells-below sb u;
        right = λ j i hj hi. u.done (max_dim * j + i) (omega arith) (omega arith) ∙ cell_at (max_dim * j + i) j i (omega arith) (omega arith);
      }
