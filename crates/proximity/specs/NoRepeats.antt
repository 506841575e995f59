-- No position is read twice: a coin reads as many symbols as its list of positions is long.
use Rattle.std.specs.Prelude.{◌≡◌, map, ℕ, ◌+◌, ◌*◌, ◌^◌, ◌-◌, ◌/◌, ◌≤◌, ◌<◌}
use Rattle.std.proofs.Common.{sym, ap, ◌∙◌, subst, arith}
use Rattle.std.proofs.Math.Arith.{digits_div}
use Rattle.lists.specs.Members.{NoRepeat, no_repeat_tab, no_repeat_map}
use Rattle.proximity.specs.Dim.{half, row_dim, col_dim, Dim, leaf, node, size}
use Rattle.proximity.specs.Proof.{slot}
use Rattle.proximity.specs.declared.Place.{Place}
use Rattle.proximity.specs.declared.Place.TheVariants.{InWord, InProof}
use Rattle.proximity.specs.Verifier.{by_line, cell, row_place, col_place, positions}
use Rattle.proximity.specs.Subspaces.{pow_four, pow_eight}
use Rattle.proximity.specs.Lines.{line_cases}
use Rattle.proximity.specs.Reads.{Inside, cell-cases, cell-inside, positions-inside}

-- The number of a place, and on which side it is
abbrev number : Place → ℕ
number (InWord i) = i
number (InProof i) = i

abbrev side : Place → ℕ
side (InWord i) = 0
side (InProof i) = 1

same-part : (m r q x y : ℕ) → x < m → y < m → r * m + x ≡ q * m + y → r ≡ q
same-part m r q x y hx hy e = sym (digits_div r hx) ∙ ap (λ (t : ℕ). t / m) e ∙ digits_div q hy

module _ (k : ℕ) where
  -- Two positions of a row
  row-cells : (r i j : ℕ) → cell k r i ≡ cell k r j → i ≡ j
  row-cells r i j =
      cell-cases k r i (λ p. p ≡ cell k r j → i ≡ j)
      (λ t. cell-cases k r j (λ p. InProof (r * (7 * 2 ^ half k) + i) ≡ p → i ≡ j)
      (λ u e. omega (arith, ap number e)) (λ u v e. absurd (omega (arith, ap side e))) (λ u e. omega (arith, ap number e)))
      (λ t t'. cell-cases k r j (λ p. InWord (r * 2 ^ half k + (i - slot r * 2 ^ half k)) ≡ p → i ≡ j)
      (λ u e. absurd (omega (arith, ap side e))) (λ u v e. omega (arith, ap number e)) (λ u e. absurd (omega (arith, ap side e))))
      (λ t. cell-cases k r j (λ p. InProof (r * (7 * 2 ^ half k) + (i - 2 ^ half k)) ≡ p → i ≡ j)
      (λ u e. omega (arith, ap number e)) (λ u v e. absurd (omega (arith, ap side e))) (λ u e. omega (arith, ap number e)))

  -- The same position of two rows
  col_cells : (r q a : ℕ) → a < 2 ^ (half k + 2) → cell k r a ≡ cell k q a → r ≡ q
  col_cells r q a h =
      let four : a < 4 * 2 ^ half k = omega (arith, pow_four (half k)) in
      cell-cases k r a (λ p. p ≡ cell k q a → r ≡ q)
      (λ t. cell-cases k q a (λ p. InProof (r * (7 * 2 ^ half k) + a) ≡ p → r ≡ q)
      (λ u e. same-part (7 * 2 ^ half k) r q a a (omega arith) (omega arith) (ap number e))
      (λ u v e. absurd (omega (arith, ap side e)))
      (λ u e. same-part (7 * 2 ^ half k) r q a (a - 2 ^ half k) (omega arith) (omega arith) (ap number e)))
      (λ t t'. cell-cases k q a (λ p. InWord (r * 2 ^ half k + (a - slot r * 2 ^ half k)) ≡ p → r ≡ q)
      (λ u e. absurd (omega (arith, ap side e)))
      (λ u v e. same-part (2 ^ half k) r q (a - slot r * 2 ^ half k) (a - slot q * 2 ^ half k) (omega arith) (omega arith) (ap number e))
      (λ u e. absurd (omega (arith, ap side e))))
      (λ t. cell-cases k q a (λ p. InProof (r * (7 * 2 ^ half k) + (a - 2 ^ half k)) ≡ p → r ≡ q)
      (λ u e. same-part (7 * 2 ^ half k) r q (a - 2 ^ half k) a (omega arith) (omega arith) (ap number e))
      (λ u v e. absurd (omega (arith, ap side e)))
      (λ u e. same-part (7 * 2 ^ half k) r q (a - 2 ^ half k) (a - 2 ^ half k) (omega arith) (omega arith) (ap number e)))

  -- A position of a row is not one of an inner proof
  cell_apart : (r i x : ℕ) → r < 2 ^ col_dim k → i < 2 ^ row_dim k → 7 * 2 ^ k ≤ x → cell k r i ≡ InProof x → ⊥
  cell_apart r i x hr hi h e =
      let l : x < 7 * 2 ^ k = subst (Inside (2 ^ k) (7 * 2 ^ k)) e (cell-inside k (7 * 2 ^ k) r i (omega arith) hr hi) in
      absurd (omega arith)

  row_injective : (n r : ℕ) → r < 2 ^ col_dim k → (p o : Place) → Inside (2 ^ row_dim k) n p → Inside (2 ^ row_dim k) n o → row_place k n r p ≡ row_place k n r o → p ≡ o
  row_injective n r h (InWord i) (InWord j) hp ho e = ap InWord (row-cells r i j e)
  row_injective n r h (InWord i) (InProof j) hp ho e = absurd (cell_apart r i (7 * 2 ^ k + (r * n + j)) h hp (omega arith) e)
  row_injective n r h (InProof i) (InWord j) hp ho e = absurd (cell_apart r j (7 * 2 ^ k + (r * n + i)) h ho (omega arith) (sym e))
  row_injective n r h (InProof i) (InProof j) hp ho e = ap InProof (omega (arith, ap number e))

  row_lt : (a : ℕ) → a < 2 ^ (half k + 2) → a < 2 ^ row_dim k
  row_lt a h = omega (arith, pow_four (half k), pow_eight (half k))

  col_injective : (n m a : ℕ) → a < 2 ^ (half k + 2) → (p o : Place) → Inside (2 ^ col_dim k) m p → Inside (2 ^ col_dim k) m o → col_place k n m a p ≡ col_place k n m a o → p ≡ o
  col_injective n m a h (InWord i) (InWord j) hp ho e = ap InWord (col_cells i j a h e)
  col_injective n m a h (InWord i) (InProof j) hp ho e = absurd (cell_apart i a (7 * 2 ^ k + 2 ^ col_dim k * n + (a * m + j)) hp (row_lt a h) (omega arith) e)
  col_injective n m a h (InProof i) (InWord j) hp ho e = absurd (cell_apart j a (7 * 2 ^ k + 2 ^ col_dim k * n + (a * m + i)) ho (row_lt a h) (omega arith) (sym e))
  col_injective n m a h (InProof i) (InProof j) hp ho e = ap InProof (omega (arith, ap number e))

pub no_repeats : {k : ℕ} (d : Dim k) (coin : ℕ) → NoRepeat (positions d coin)
no_repeats (leaf {k = k} s) coin = no_repeat_tab (2 ^ k) InWord (λ i j hi hj e. ap number e)
no_repeats (node {k = k} s rows cols) coin =
    line_cases k coin
    (λ l i. NoRepeat (by_line l (λ r. map (row_place k (size rows) r) (positions rows i)) (λ a. map (col_place k (size rows) (size cols) a) (positions cols i))))
    (λ r i h.
    no_repeat_map (row_place k (size rows) r) (positions rows i)
    (λ p o hp ho. row_injective k (size rows) r h p o (positions-inside rows i p hp) (positions-inside rows i o ho)) (no_repeats rows i))
    (λ a i h.
    no_repeat_map (col_place k (size rows) (size cols) a) (positions cols i)
    (λ p o hp ho. col_injective k (size rows) (size cols) a h p o (positions-inside cols i p hp) (positions-inside cols i o ho)) (no_repeats cols i))
