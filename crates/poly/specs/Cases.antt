-- Case P4: modulus 283, the span of 1 and 2.
use Rattle.std.specs.Prelude.{◌≡◌, [], ◌∷◌, ℕ, ◌<◌}
use Rattle.field.specs.Symbols.{symbols}
use Rattle.poly.specs.Poly.{eval}
use Rattle.poly.specs.Span.{vanish}

-- modulus 283, span of 1, 2
abbrev pub P4 : Type 0
P4 =
    ((x : ℕ) → x < 256 → vanish (symbols 283) (1 ∷ 2 ∷ []) x ≡ eval (symbols 283) (0 ∷ 6 ∷ 7 ∷ 0 ∷ 1 ∷ []) x)
    × (vanish (symbols 283) (1 ∷ 2 ∷ []) 4 ≡ 115)
