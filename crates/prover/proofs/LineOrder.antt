-- The lines one after the other. Assumes nothing.
use mathlib.Core.Path.{◌≡◌, refl, sym, ◌∙◌, subst}
use Prim.Native.Nat.{ℕ, ◌+◌, ◌-◌, ◌^◌, ◌≤◌, ◌<◌}
use native.Mathlib.Decide.{dec_lt}
use native.Mathlib.Omega.{arith}
use borrow.Author.Tests.{lt-ltb, le-ltb}
use lib.Pow.{pow_mono}
use Rattle.lists.specs.Pick.{pick_true, pick_false}
use Rattle.lists.specs.Tables.{part-fits}
use Rattle.space.specs.Sizes.{max_dim, max_column}
use Rattle.proximity.specs.Dim.{half, row_dim, col_dim, S}
use Rattle.proximity.specs.declared.Line.{Line}
use Rattle.proximity.specs.declared.Line.TheVariants.{Row, Column}
use Rattle.proximity.specs.ByLine.{InRange, line_dim, proof_at, proof_end}
use Rattle.prover.specs.Prover.{line_at, Deep}

module _ (k : ℕ) where
  pub at_row : (i : ℕ) → i < 2 ^ col_dim k → line_at k i ≡ Row i
  unfolding line_at
  at_row i h = pick_true (Row i) (Column (i - 2 ^ col_dim k)) (lt-ltb i (2 ^ col_dim k) h)

  pub at-column : (i : ℕ) → 2 ^ col_dim k ≤ i → line_at k i ≡ Column (i - 2 ^ col_dim k)
  unfolding line_at
  at-column i h = pick_false (Row i) (Column (i - 2 ^ col_dim k)) (le-ltb i (2 ^ col_dim k) h)

  -- what holds of the rows and of the columns
  by_line_lem : (P : Line → Type 0) (i : ℕ) → (i < 2 ^ col_dim k → P (Row i)) → (2 ^ col_dim k ≤ i → P (Column (i - 2 ^ col_dim k))) → P (line_at k i)
  by_line_lem P i f g = by (dec_lt i (2 ^ col_dim k))
    where
      by : Dec (i < 2 ^ col_dim k) → P (line_at k i)
      by (yes h) = subst P (sym (at_row i h)) (f h)
      by (no h) = subst P (sym (at-column i (omega arith))) (g (omega arith))

  pub deep_none : row_dim k ≤ 6 → 7 ≤ k → Deep k 0
  deep_none h s =
      record {
        deep = λ i l. absurd (omega arith);
        flat = λ i l. by_line_lem (λ x. InRange k x → line_dim k x ≤ 6) i (λ u v. omega arith) (λ u v. omega arith);
      }

  pub deep_rows : 6 < row_dim k → col_dim k ≤ 6 → Deep k (2 ^ col_dim k)
  deep_rows g h =
      record {
        deep = λ i l. by_line_lem (λ x. InRange k x × (6 < line_dim k x)) i (λ u. (u, g)) (λ u. absurd (omega arith));
        flat = λ i l. by_line_lem (λ x. InRange k x → line_dim k x ≤ 6) i (λ u v. absurd (omega arith)) (λ u v. h);
      }

  pub deep_all : 6 < row_dim k → 6 < col_dim k → Deep k (2 ^ col_dim k + 2 ^ (half k + 2))
  deep_all g h =
      record {
        deep = λ i l. by_line_lem (λ x. InRange k x × (6 < line_dim k x)) i (λ u. (u, g)) (λ u. (omega arith, h));
        flat = λ i l. by_line_lem (λ x. InRange k x → line_dim k x ≤ 6) i (λ u v. absurd (omega arith)) (λ u v. absurd (omega arith));
      }

  pub few_lines : k ≤ max_dim → (2 ^ col_dim k ≤ max_column) × (2 ^ (half k + 2) ≤ 2 ^ (half max_dim + 2))
  few_lines h = (pow_mono {j = col_dim max_dim} (omega arith), pow_mono {j = half max_dim + 2} (omega arith))

  -- the proof of an earlier line ends where that of a later one begins, or before
  ends-before : (i j : ℕ) → i < j → (l m : Line) → line_at k i ≡ l → line_at k j ≡ m → Dec (i < 2 ^ col_dim k) → Dec (j < 2 ^ col_dim k) → proof_end k l ≤ proof_at k m
  ends-before i j h l m ei ej (yes u) (yes v) =
      ends (sym ei ∙ at_row i u) (sym ej ∙ at_row j v)
    where
      ends : l ≡ Row i → m ≡ Row j → proof_end k l ≤ proof_at k m
      ends p q =
          subst (λ (x : Line). proof_end k x ≤ proof_at k m) (sym p) (subst (λ (y : Line). proof_end k (Row i) ≤ proof_at k y) (sym q) (omega (arith, part-fits (S (row_dim k)) h)))
  ends-before i j h l m ei ej (yes u) (no v) =
      ends (sym ei ∙ at_row i u) (sym ej ∙ at-column j (omega arith))
    where
      ends : l ≡ Row i → m ≡ Column (j - 2 ^ col_dim k) → proof_end k l ≤ proof_at k m
      ends p q =
          subst (λ (x : Line). proof_end k x ≤ proof_at k m) (sym p)
          (subst (λ (y : Line). proof_end k (Row i) ≤ proof_at k y) (sym q) (omega (arith, part-fits (S (row_dim k)) u)))
  ends-before i j h l m ei ej (no u) (no v) =
      ends (sym ei ∙ at-column i (omega arith)) (sym ej ∙ at-column j (omega arith))
    where
      ends : l ≡ Column (i - 2 ^ col_dim k) → m ≡ Column (j - 2 ^ col_dim k) → proof_end k l ≤ proof_at k m
      ends p q =
          subst (λ (x : Line). proof_end k x ≤ proof_at k m) (sym p)
          (subst (λ (y : Line). proof_end k (Column (i - 2 ^ col_dim k)) ≤ proof_at k y) (sym q)
          (omega (arith, part-fits {i = i - 2 ^ col_dim k} {n = j - 2 ^ col_dim k} (S (col_dim k)) (omega arith))))
  ends-before i j h l m ei ej (no u) (yes v) = absurd (omega arith)

  pub line_order : (i j : ℕ) → i < j → proof_end k (line_at k i) ≤ proof_at k (line_at k j)
  line_order i j h = ends-before i j h (line_at k i) (line_at k j) refl refl (dec_lt i (2 ^ col_dim k)) (dec_lt j (2 ^ col_dim k))
