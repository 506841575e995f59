-- Dimensions 13 and 14, the largest: check 3, the tabulated numbers, and what a coin reads that takes a row or a column inside a column. All
-- other theorems have the dimension as a variable.
use Rattle.std.specs.Prelude.{◌≡◌, refl, ◌⊎◌, ◌↔◌, List, [], ◌∷◌, ◌++◌, map, ℕ, ◌+◌, ◌*◌, ◌^◌, ◌≤◌, ◌<◌, length}
use Rattle.std.proofs.Common.{sym, ap, ap₂, ◌∙◌, inl, inr, arith}
use Rattle.lists.specs.All.{Below}
use Rattle.lists.specs.Alike.{Alike, alike_answers, alike_back, alike_refl, alike_append}
use Rattle.lists.specs.Answers.{Checks, Answers, answers-after}
use Rattle.lists.specs.Pick.{pick}
use Rattle.lists.specs.Tables.{tab, table_at}
use Rattle.field.specs.Binary.{degree}
use Rattle.field.specs.Calls.{modulus_numbered}
use Rattle.field.specs.Checks.{modulus_checks, GoodModulus, good_passes}
use Rattle.space.specs.Setting.{span_checks, space_checks, setting_checks}
use Rattle.space.specs.Sizes.{max_dim}
use Rattle.proximity.specs.ByLine.{proof_at, line_place}
use Rattle.proximity.specs.Cases.{row_four, p9}
use Rattle.proximity.specs.Dim.{col_dim, dim, S, R}
use Rattle.proximity.specs.LineLaws.{positions_of_line}
use Rattle.proximity.specs.PlaceLaws.{line_place-proof}
use Rattle.proximity.specs.Tree.{lengths, bits, tables_right}
use Rattle.proximity.specs.Verifier.{line_of, bits_left, cell, positions}
use Rattle.proximity.specs.declared.Line.TheVariants.{Row, Column}
use Rattle.proximity.specs.declared.Place.{Place}
use Rattle.proximity.specs.declared.Place.TheVariants.{InWord, InProof}

-- ---- check 3

-- 3 is answered exactly for fewer than 3 elements and for 15 or more.
pub three_exactly : (m : ℕ) (bs : List ℕ) (σ : ℕ) → GoodModulus m → Answers (setting_checks m bs σ) 3 ↔ ((length bs < 3) ⊎ (15 ≤ length bs))
three_exactly m bs σ g = (by, λ t. answers-after (modulus_checks m) (space_checks m bs σ) 3 (modulus_numbered m) (good_passes m g) (inl (t, refl)))
  where
    by : Answers (setting_checks m bs σ) 3 → (length bs < 3) ⊎ (15 ≤ length bs)
    by (inl (a, e)) = absurd (omega arith)
    by (inr (a, inl (b, e))) = absurd (omega arith)
    by (inr (a, inr (b, inl (c, e)))) = c
    by (inr (a, inr (b, inr (c, inl (d, e))))) = absurd (omega arith)
    by (inr (a, inr (b, inr (c, inr (d, inl (f, e)))))) = absurd (omega arith)
    by (inr (a, inr (b, inr (c, inr (d, inr (f, inl (g, e))))))) = absurd (omega arith)
    by (inr (a, inr (b, inr (c, inr (d, inr (f, inr (g, e))))))) = absurd (omega arith)

-- checks 3 to 5, and checks 1 to 5, where n is the largest dimension
abbrev pub space_up_to : ℕ → ℕ → List ℕ → ℕ → Checks
space_up_to n m bs σ = (3, (length bs < 3) ⊎ (n < length bs)) ∷ (4, (Below (2 ^ degree m) bs → ⊥)) ∷ (4, (σ < 2 ^ degree m → ⊥)) ∷ span_checks m bs

abbrev pub up_to : ℕ → ℕ → List ℕ → ℕ → Checks
up_to n m bs σ = modulus_checks m ++ space_up_to n m bs σ

-- A basis of at most 12 elements is answered as where 12 was the largest dimension.
pub answered_as_before : (m : ℕ) (bs : List ℕ) (σ : ℕ) → length bs ≤ 12 → (r : ℕ) → Answers (up_to 12 m bs σ) r ↔ Answers (setting_checks m bs σ) r
answered_as_before m bs σ h r = (alike_answers (up_to 12 m bs σ) (setting_checks m bs σ) alike r, alike_back (up_to 12 m bs σ) (setting_checks m bs σ) alike r)
  where
    onward : (length bs < 3) ⊎ (12 < length bs) → (length bs < 3) ⊎ (max_dim < length bs)
    onward (inl l) = inl l
    onward (inr l) = absurd (omega arith)

    back : (length bs < 3) ⊎ (max_dim < length bs) → (length bs < 3) ⊎ (12 < length bs)
    back (inl l) = inl l
    back (inr l) = inr (omega arith)

    alike : Alike (up_to 12 m bs σ) (setting_checks m bs σ)
    alike =
        alike_append (modulus_checks m) (modulus_checks m) (space_up_to 12 m bs σ) (space_checks m bs σ) (alike_refl (modulus_checks m))
        (λ p. (refl, (onward, back), λ n. alike_refl ((4, (Below (2 ^ degree m) bs → ⊥)) ∷ (4, (σ < 2 ^ degree m → ⊥)) ∷ span_checks m bs)))

-- ---- the tabulated numbers, which the computed test holds against the rule

pub largest_lengths : (S 13 ≡ 4415488) × (S 14 ≡ 67551232)
largest_lengths = (sym (table_at S lengths (max_dim + 1) tables_right.0 13 (omega arith)), sym (table_at S lengths (max_dim + 1) tables_right.0 14 (omega arith)))

pub largest_bits : (R 13 ≡ 20) × (R 14 ≡ 25)
largest_bits = (sym (table_at R bits (max_dim + 1) tables_right.1 13 (omega arith)), sym (table_at R bits (max_dim + 1) tables_right.1 14 (omega arith)))

-- ---- a line inside a column of dimension 7

-- Such columns are those of dimensions 13 and 14.
pub deep_columns : (col_dim 13 ≡ 7) × (col_dim 14 ≡ 7)
deep_columns = (refl, refl)

-- At dimension 14 coin 8203 takes column 5 and row 4 inside it; coin 64523 takes the same column and column 31 inside it.
pub coins_inside : (line_of 14 8203 ≡ Column 5) × (line_of 7 (bits_left 14 8203) ≡ Row 4) × (line_of 14 64523 ≡ Column 5) × (line_of 7 (bits_left 14 64523) ≡ Column 31)
unfolding line_of bits_left pick
coins_inside = (refl, refl, refl, refl)

-- where column a keeps a place of its own word and proof
abbrev pub in_column : ℕ → ℕ → Place → Place
in_column k a (InWord r) = cell k r a
in_column k a (InProof i) = InProof (proof_at k (Column a) + i)

module _ (k : ℕ) (s : 7 ≤ k) (seven : col_dim k ≡ 7) (coin a : ℕ) (e : line_of k coin ≡ Column a) where
  kept : (p : Place) → line_place k (Column a) p ≡ in_column k a p
  kept (InWord r) = refl
  kept (InProof i) = line_place-proof k (Column a) i

  all-kept : (ps : List Place) → map (line_place k (Column a)) ps ≡ map (in_column k a) ps
  all-kept [] = refl
  all-kept (p ∷ ps) = ap₂ ◌∷◌ (kept p) (all-kept ps)

  inside : positions (dim k) coin ≡ map (in_column k a) (positions (dim 7) (bits_left k coin))
  inside =
      positions_of_line k s coin (Column a) e
      ∙ ap (λ (n : ℕ). map (line_place k (Column a)) (positions (dim n) (bits_left k coin))) seven
      ∙ all-kept (positions (dim 7) (bits_left k coin))

  -- Row 4 of column a reads 56 symbols of the column's proof and, of the column, the symbols in rows 32 to 39, each where its row keeps it.
  pub row_in_column : line_of 7 (bits_left k coin) ≡ Row 4
      → positions (dim k) coin ≡ tab 32 (λ i. InProof (proof_at k (Column a) + (224 + i))) ++ tab 8 (λ i. cell k (32 + i) a) ++ tab 24 (λ i. InProof (proof_at k (Column a) + (256 + i)))
  row_in_column f = inside ∙ ap (map (in_column k a)) (row_four (bits_left k coin) f)

  -- Column 31 of column a reads 15 symbols of the column's proof and one of the column, that in row 31.
  pub column_in_column : line_of 7 (bits_left k coin) ≡ Column 31
      → positions (dim k) coin
      ≡ (InProof (proof_at k (Column a) + 23) ∷ InProof (proof_at k (Column a) + 79) ∷ InProof (proof_at k (Column a) + 135) ∷ cell k 31 a ∷ []) ++ tab 12 (λ i. InProof (proof_at k (Column a) + (56 * (4 + i) + 31)))
  column_in_column f = inside ∙ ap (map (in_column k a)) (p9 (bits_left k coin) f)
