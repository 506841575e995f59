-- Q(x, y) from rows and columns that agree where they meet.
use Rattle.std.specs.Prelude.{◌≡◌, List, ℕ, ◌+◌, ◌*◌, ◌^◌, ◌≤◌, ◌<◌, length, get_or}
use Rattle.std.proofs.Common.{sym, ap, ◌∙◌, arith, pow_mono}
use Rattle.lists.specs.All.{All, All-at}
use Rattle.lists.specs.Tables.{tab, length_tab, tab_ext, tab_of}
use Rattle.field.specs.Laws.{Ops, IsField}
use Rattle.poly.specs.Poly.{Distinct, eval}
use Rattle.poly.proofs.Unique.{eval_unique}
use Rattle.poly.specs.Span.{elem}
use Rattle.poly.specs.Interpolate.{Through}
use Rattle.poly.proofs.Interpolate.{interpolate}
use Rattle.poly.specs.Codeword.{Basis}
use Rattle.poly.proofs.Codeword.{basis_distinct}
use Rattle.proximity.specs.Dim.{half, col_dim}
use Rattle.proximity.specs.Bivariate.{at_x, at_y, wide}
use Rattle.proximity.specs.Proof.{height_of}
use Rattle.proximity.specs.Subspaces.{pow_four}
use Rattle.proximity.specs.TwoVariables.{Digits, length_at_x, length_at_y, at_x_sym, at_y_sym, eval-at_y, at_x-tab, digits-tab}
use Rattle.proximity.specs.Proposition.{elem-field, height_sym, same-column}

module _ {K : Ops} (F : IsField K) (k : ℕ) (b : List ℕ) (s : 7 ≤ k) (B : Basis K k b) where
  open K use {Sym}

  -- ---- Q from rows and columns that agree where they meet

  -- Row r is Q(x, q(β)) and column a is Q(element a, y)
  pub record Grid (R C : ℕ → List ℕ) : Type 0 where
    pub poly : List (List ℕ)
    pub count : length poly ≡ wide k
    pub elements : Digits Sym (2 ^ half k) poly
    pub rows : (r : ℕ) → r < 2 ^ col_dim k → R r ≡ at_y K (2 ^ half k) poly (height_of K k b r)
    pub columns : (a : ℕ) → a < 2 ^ (half k + 2) → C a ≡ at_x K poly (elem K b a)

  module _ (R C : ℕ → List ℕ)
      (lR : (r : ℕ) → r < 2 ^ col_dim k → length (R r) ≡ 2 ^ half k)
      (sR : (r : ℕ) → r < 2 ^ col_dim k → All Sym (R r))
      (lC : (a : ℕ) → a < 2 ^ (half k + 2) → length (C a) ≡ wide k)
      (sC : (a : ℕ) → a < 2 ^ (half k + 2) → All Sym (C a))
      (meet : (r a : ℕ) → r < 2 ^ col_dim k → a < 2 ^ (half k + 2) → eval K (R r) (elem K b a) ≡ eval K (C a) (height_of K k b r)) where
    four : 2 ^ (half k + 2) ≡ 4 * 2 ^ half k
    four = pow_four (half k)

    low_distinct : Distinct (2 ^ half k) (elem K b)
    low_distinct i j hi hj = basis_distinct F k b B i j (omega (arith, pow_mono {i = half k} {j = k} (omega arith))) (omega (arith, pow_mono {i = half k} {j = k} (omega arith)))

    -- Coefficient j of the columns, through the first elements
    digit : (j : ℕ) → Through F (2 ^ half k) (elem K b) (λ a. get_or (C a) j 0)
    digit j = interpolate F (elem K b) (λ a. get_or (C a) j 0) (2 ^ half k) (λ a h. elem-field F k b s B a) (λ a h. All-at Sym (C a) 0 (sC a (omega (arith, four))) F.sym_zero j) low_distinct

    abbrev poly : List (List ℕ)
    poly = tab (wide k) (λ j. (digit j).coeffs)

    poly-digits : Digits Sym (2 ^ half k) poly
    poly-digits = digits-tab Sym (2 ^ half k) (wide k) (λ j. (digit j).coeffs) (λ j. (digit j).count) (λ j. (digit j).elements)

    first_columns : (a : ℕ) → a < 2 ^ half k → C a ≡ at_x K poly (elem K b a)
    first_columns a h =
        tab_of (wide k) (C a) 0 (lC a (omega (arith, four))) ∙ tab_ext (wide k) _ _ (λ j i. sym ((digit j).values a h)) ∙ sym (at_x-tab K (wide k) (λ j. (digit j).coeffs) (elem K b a))

    all_rows : (r : ℕ) → r < 2 ^ col_dim k → R r ≡ at_y K (2 ^ half k) poly (height_of K k b r)
    all_rows r hr =
        eval_unique F (2 ^ half k) (R r) (at_y K (2 ^ half k) poly (height_of K k b r)) (elem K b) (lR r hr) (length_at_y K (2 ^ half k) poly _ poly-digits) (sR r hr)
        (at_y_sym F (2 ^ half k) poly _ poly-digits (height_sym F k b s B r)) (λ a h. elem-field F k b s B a) low_distinct
        (λ a h. meet r a hr (omega (arith, four)) ∙ ap (λ (p : List ℕ). eval K p (height_of K k b r)) (first_columns a h) ∙ sym (eval-at_y F (2 ^ half k) poly (elem K b a) (height_of K k b r)))

    all_columns : (a : ℕ) → a < 2 ^ (half k + 2) → C a ≡ at_x K poly (elem K b a)
    all_columns a h =
        same-column F k b s B (C a) (at_x K poly (elem K b a)) (lC a h) (length_at_x K poly (elem K b a) ∙ length_tab (wide k) _) (sC a h) (at_x_sym F (2 ^ half k) poly (elem K b a) poly-digits (elem-field F k b s B a))
        (λ r hr. sym (meet r a hr h) ∙ ap (λ (p : List ℕ). eval K p (elem K b a)) (all_rows r hr) ∙ eval-at_y F (2 ^ half k) poly (elem K b a) (height_of K k b r))

    pub grid : Grid R C
    grid = record { poly = poly; count = length_tab (wide k) _; elements = poly-digits; rows = all_rows; columns = all_columns }
