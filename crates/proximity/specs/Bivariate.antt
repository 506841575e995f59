-- Q(x, y), the one polynomial with P(x) = Q(x, q(x)) and degree in x below 2^h: the digits of P to the base q. Definitions only.
-- Q is the list of the coefficients of y^0, y^1 and so on, each a polynomial in x of 2^h coefficients. Q has 2^(c-3) of them.
use Rattle.std.specs.Prelude.{List, [], ◌∷◌, ◌++◌, map, ℕ, zero, suc, ◌^◌, ◌-◌, length, take, replicate}
use Rattle.field.specs.Laws.{Ops}
use Rattle.poly.specs.Poly.{eval, add_p, scale_p}
use Rattle.poly.specs.Span.{elem}
use Rattle.proximity.specs.Dim.{half, col_dim}

-- All but the last entry of e ∷ s
abbrev pub front : ℕ → List ℕ → List ℕ
front e [] = []
front e (d ∷ s) = e ∷ front d s

-- The last entry of e ∷ s
abbrev pub final : ℕ → List ℕ → ℕ
final e [] = e
final e (d ∷ s) = final d s

-- The number of digits
abbrev pub wide : ℕ → ℕ
wide k = 2 ^ (col_dim k - 3)

module _ (K : Ops) where
  -- Q(x, y) as a polynomial in y
  abbrev pub at_x : List (List ℕ) → ℕ → List ℕ
  at_x Q x = map (λ s. eval K s x) Q

  -- Q(x, y) as a polynomial in x, of m coefficients
  abbrev pub at_y : ℕ → List (List ℕ) → ℕ → List ℕ
  at_y m [] y = replicate m 0
  at_y m (s ∷ Q) y = add_p K s (scale_p K y (at_y m Q y))

  -- The value of Q(x, y)
  abbrev pub eval2 : List (List ℕ) → ℕ → ℕ → ℕ
  eval2 Q x y = eval K (at_x Q x) y

  -- The product of x - a i over i below n, without its highest coefficient, which is 1
  abbrev pub monic : ℕ → (ℕ → ℕ) → List ℕ
  monic zero a = []
  monic (suc n) a = add_p K (0 ∷ monic n a) (scale_p K (a n) (monic n a ++ (1 ∷ [])))

  -- The coefficients of q, but for the highest
  abbrev pub q_coeffs : ℕ → List ℕ → List ℕ
  q_coeffs k b = monic (2 ^ half k) (elem K (take (half k) b))

  -- e + x s, less the multiple of q that takes its highest coefficient away
  abbrev pub reduce_by_q : List ℕ → ℕ → List ℕ → List ℕ
  reduce_by_q q e s = add_p K (front e s) (scale_p K (final e s) q)

  -- e + x Q, where y stands for q
  abbrev pub times_x : List ℕ → ℕ → List (List ℕ) → List (List ℕ)
  times_x q e [] = []
  times_x q e (s ∷ Q) = reduce_by_q q e s ∷ times_x q (final e s) Q

  -- The n lowest digits of a polynomial to the base q
  abbrev pub digits : List ℕ → ℕ → List ℕ → List (List ℕ)
  digits q n [] = replicate n (replicate (length q) 0)
  digits q n (c ∷ p) = times_x q c (digits q n p)

  -- Q of the polynomial P
  abbrev pub bivariate : ℕ → List ℕ → List ℕ → List (List ℕ)
  bivariate k b P = digits (q_coeffs k b) (wide k) P
