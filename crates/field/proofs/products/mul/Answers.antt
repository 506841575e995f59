-- `field::products::mul` meets its contract: the product is added to 0.
use mathlib.Core.Path.{◌≡◌, refl, ap, ◌∙◌}
use mathlib.Core.Logic.{inr}
use mathlib.Core.List.{List, [], ◌∷◌}
use Prim.Native.Nat.{ℕ}
use native.Mathlib.Omega.{arith}
use lib.ListN.{get_or}
use lib.Pow.{pow_pos}
use Rattle.lists.specs.Stretch.{Apart}
use Rattle.field.specs.Binary.{◌⊕◌, degree, product}
use Rattle.field.specs.Xor.{xor_zero_left, xor_zero_right}
use Rattle.field.specs.Products.{accumulated}
use Rattle.field.proofs.Accumulate.{accumulated-at}
use Rattle.field.proofs.products.mul.Goals.{Start}
use Rattle.field.proofs.products.mul.Goals as goal

apart : Apart 1 1 0 2
apart = record { first = omega arith; second = omega arith; apart = inr (omega arith) }

-- the sum of 0 and one product
one_product : (m a b : ℕ) → get_or (accumulated m 0 (a ∷ []) 1 0 (0 ∷ b ∷ [])) 0 0 ≡ product m a b
one_product m a b =
    accumulated-at m 0 (a ∷ []) 1 0 (0 ∷ b ∷ []) apart 0 0 1 (omega arith) refl refl
    ∙ xor_zero_left (product m (a ⊕ 0) b) ∙ ap (λ (x : ℕ). product m x b) (xor_zero_right a)

pub add_products-requires : goal.add_products-requires
add_products-requires c = let start = (goal.at.add_products-requires c).Start in
    let zero-symbol = pow_pos (degree start.args.f.modulus) in
    record { sized = (start.requires.0, zero-symbol); below = ((start.requires.1, tt), (zero-symbol, (start.requires.2, tt)), apart) }

pub returns : goal.returns
returns c = let a = c.args in
    ap (λ (l : List ℕ). get_or l 0 0) c.add_products.ensures ∙ one_product a.f.modulus a.a a.b
