-- Laws of the definitions in `specs/Values.antt`. Assumes nothing.
use mathlib.Core.Path.{◌≡◌, refl, sym, ap, ◌∙◌, subst}
use mathlib.Core.List.{List}
use Prim.Native.Nat.{ℕ, zero, suc, ◌+◌, ◌^◌, ◌<◌}
use native.Mathlib.Numerals.{add-one}
use lib.ListN.{get_or}
use lib.Pow.{pow_pos}
use Rattle.lists.specs.All.{Below, All-at}
use Rattle.field.specs.Binary.{◌⊕◌, degree, product}
use Rattle.field.specs.Degree.{degree-positive-number}
use Rattle.field.specs.Product.{product-below}
use Rattle.field.specs.Products.{Sized}
use Rattle.field.specs.declared.Field.{Field}
use Rattle.space.specs.Values.{value_at}

-- the modulus of a field is not 0
pub sized_positive : {f : Field} → Sized f → 0 < f.modulus
sized_positive {f} s = degree-positive-number f.modulus (rw s.right at s.positive)

-- an entry of a list of symbols
pub symbol_at : (m : ℕ) (xs : List ℕ) → Below (2 ^ degree m) xs → (i : ℕ) → get_or xs i 0 < 2 ^ degree m
symbol_at m xs h = All-at (λ (x : ℕ). x < 2 ^ degree m) xs 0 h (pow_pos (degree m))

module _ (m : ℕ) (steps : List ℕ) where
  pub value_none : (x : ℕ) → value_at m steps 0 x ≡ x
  unfolding value_at
  value_none x = refl

  -- one more step
  pub value-next : (j x y : ℕ) → y ≡ value_at m steps j x → product m y (y ⊕ get_or steps j 0) ≡ value_at m steps (j + 1) x
  unfolding value_at
  value-next j x y e = ap (λ (t : ℕ). product m t (t ⊕ get_or steps j 0)) e ∙ ap (λ (k : ℕ). value_at m steps k x) (sym (add-one j))

  value_symbol : 0 < m → (j x : ℕ) → x < 2 ^ degree m → value_at m steps j x < 2 ^ degree m
  unfolding value_at
  value_symbol pos zero x h = h
  value_symbol pos (suc j) x h = product-below m pos (value_at m steps j x) (value_at m steps j x ⊕ get_or steps j 0)

  pub value-below : 0 < m → (j x y : ℕ) → x < 2 ^ degree m → y ≡ value_at m steps j x → y < 2 ^ degree m
  value-below pos j x y h e = subst (λ (t : ℕ). t < 2 ^ degree m) (sym e) (value_symbol pos j x h)
