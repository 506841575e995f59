-- The products of steps by number, which lie between the products of W_j and those of the normalised W_j.
use Rattle.std.specs.Prelude.{◌≡◌, List, [], ◌∷◌, ◌++◌, ℕ, zero, suc, ◌^◌, length, get_or, take, replicate}
use Rattle.space.specs.Sizes.{max_word}
use Rattle.lists.specs.All.{Below}
use Rattle.field.specs.Binary.{degree}
use Rattle.field.specs.Laws.{Ops}
use Rattle.field.specs.Symbols.{symbols}
use Rattle.poly.specs.Poly.{scale_p}

-- the product of s j over the one bits j of i, for each i below 2^m
unfoldable pub scales_of : Ops → (ℕ → ℕ) → ℕ → List ℕ
scales_of K s zero = 1 ∷ []
scales_of K s (suc j) = scales_of K s j ++ scale_p K (s j) (scales_of K s j)

unfoldable pub zero_room : List ℕ
zero_room = replicate max_word 0

pub record Scales (q : ℕ) (steps : List ℕ) (m : ℕ) (r : List ℕ) : Type 0 where
  pub count : length r ≡ max_word
  pub below : Below (2 ^ degree q) r
  pub right : take (2 ^ m) r ≡ scales_of (symbols q) (λ j. get_or steps j 0) m
