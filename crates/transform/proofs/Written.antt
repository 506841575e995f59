-- The loops that write lanes. Assumes nothing.
use mathlib.Core.Path.{◌≡◌, refl, sym, ap, ◌∙◌}
use mathlib.Core.List.{List}
use Prim.Native.Nat.{ℕ, ◌+◌, ◌-◌, ◌*◌, ◌≤◌, ◌<◌}
use native.Mathlib.Decide.{dec_lt}
use native.Mathlib.Nat.{mul_comm}
use native.Mathlib.Omega.{arith}
use lib.ListN.{length, get_or, take, drop}
use Rattle.lists.specs.Overwrite.{length_cut, get_or_cut}
use Rattle.lists.specs.Tables.{part, part-fits, get_d_part, length_part}
use Rattle.lists.specs.Lanes.{Strided, strided_other, strided_beyond, lane-is}
use Rattle.transform.specs.Slices.{Transposed}

-- the first j lists are written
pub record Written (rows size j : ℕ) (from old new : List ℕ) : Type 0 where
  pub kept : length new ≡ length old
  pub inside : (r o : ℕ) → r < j → o < size → get_or new (o * rows + r) 0 ≡ get_or from (r * size + o) 0
  pub beyond : (p : ℕ) → rows * size ≤ p → get_or new p 0 ≡ get_or old p 0

-- list j as the code cuts it
abbrev pub cut : ℕ → ℕ → List ℕ → List ℕ
cut size j from = take (j * size + size - j * size) (drop (j * size) from)

module _ (rows size : ℕ) (from old : List ℕ) (fits : rows * size ≤ length from) where
  pub written_none : Written rows size 0 from old old
  written_none = record { kept = refl; inside = λ r o h k. absurd (omega arith); beyond = λ p h. refl }

  module _ (j : ℕ) (h : j < rows) where
    pub length_list : length (cut size j from) ≡ size
    length_list = length_cut (j * size) size from (omega (arith, part-fits {i = j} {n = rows} size h))

    pub written_next : (v w : List ℕ) → Written rows size j from old v → Strided rows j (length (cut size j from)) (λ (o : ℕ). get_or (cut size j from) o 0) v w
        → Written rows size (j + 1) from old w
    written_next v w s t =
        record {
          kept = t.kept ∙ s.kept;
          inside = λ r o k l. at r o k l (dec_lt r j);
          beyond = λ p k. strided_beyond rows j t p h (omega (arith, ap (λ (n : ℕ). n * rows) length_list, mul_comm size rows)) ∙ s.beyond p k;
        }
      where
        at : (r o : ℕ) → r < j + 1 → o < size → Dec (r < j) → get_or w (o * rows + r) 0 ≡ get_or from (r * size + o) 0
        at r o k l (yes q) = strided_other rows j t o r h (omega arith) (λ e. omega arith) ∙ s.inside r o q l
        at r o k l (no q) =
            let same : r ≡ j = omega arith in
            ap (λ (i : ℕ). get_or w (o * rows + i) 0) same ∙ t.inside o (omega (arith, length_list)) ∙ get_or_cut (j * size) size from o l ∙ ap (λ (i : ℕ). get_or from (i * size + o) 0) (sym same)

  pub written_all : (j : ℕ) (v : List ℕ) → rows ≤ j → Written rows size j from old v → Transposed rows size from old v
  written_all j v h s =
      record {
        kept = s.kept;
        lanes = λ r k. lane-is rows r size v (part size r from) (length_part size r from (omega (arith, part-fits {i = r} {n = rows} size k)))
            (λ o l. s.inside r o (omega arith) l ∙ sym (get_d_part size r o from 0 l));
        beyond = s.beyond;
      }
