-- From the basis of Lin, Chung and Han to powers of x: subspace polynomials and sums of their products by their coefficients, and polynomials of degree below 2 ^ m.
use Rattle.std.specs.Prelude.{◌≡◌, refl, List, [], ◌∷◌, ℕ, zero, suc, ◌+◌, ◌^◌, ◌≤◌, length, get_or, take, drop}
use Rattle.std.proofs.Common.{ap, ◌∙◌, arith, pow_pos, length-take-le}
use Rattle.std.proofs.Math.Nat.{pow-succ'}
use Rattle.field.specs.Laws.{Ops, IsField}
use Rattle.lists.specs.All.{All}
use Rattle.poly.specs.Poly.{eval, add_p, scale_p, mul_p, length_add_p, length_scale_p, length_mul_p}
use Rattle.poly.specs.Span.{vanish, Independent}
use Rattle.poly.specs.Novel.{step, eval_x}

module _ (K : Ops) where
  -- The coefficients of the subspace polynomial
  abbrev pub vanish_p : List ℕ → List ℕ
  vanish_p [] = 0 ∷ 1 ∷ []
  vanish_p (b ∷ bs) = mul_p K (vanish_p bs) (add_p K (vanish_p bs) (vanish K bs b ∷ []))

  pub length_vanish_p : (bs : List ℕ) → length (vanish_p bs) ≡ 2 ^ length bs + 1
  length_vanish_p [] = refl
  length_vanish_p (b ∷ bs) =
      let ih : length (vanish_p bs) ≡ 2 ^ length bs + 1 = length_vanish_p bs in
      let e : length (add_p K (vanish_p bs) (vanish K bs b ∷ [])) ≡ 2 ^ length bs + 1 = omega (arith, length_add_p K (vanish_p bs) (vanish K bs b ∷ []), pow_pos (length bs)) in
      omega (arith, length_mul_p K (vanish_p bs) (add_p K (vanish_p bs) (vanish K bs b ∷ [])) (omega arith) (omega arith), pow-succ' 2 (length bs))

  -- The coefficients of the normalised subspace polynomial of the first j basis elements
  abbrev pub image_p : List ℕ → ℕ → List ℕ
  image_p bs j = scale_p K (K.inv (step K bs j)) (vanish_p (take j bs))

  pub length_image_p : (bs : List ℕ) (j : ℕ) → j ≤ length bs → length (image_p bs j) ≡ 2 ^ j + 1
  length_image_p bs j h =
      length_scale_p K (K.inv (step K bs j)) (vanish_p (take j bs)) ∙ length_vanish_p (take j bs) ∙ ap (λ (k : ℕ). 2 ^ k + 1) (length-take-le j bs h)

  -- The powers of x in place of the products of normalised subspace polynomials
  abbrev pub monomials : List ℕ → ℕ → List ℕ → List ℕ
  monomials bs zero d = get_or d 0 0 ∷ []
  monomials bs (suc j) d = add_p K (monomials bs j (take (2 ^ j) d)) (mul_p K (image_p bs j) (monomials bs j (drop (2 ^ j) d)))

  pub length_monomials : (bs : List ℕ) (j : ℕ) (d : List ℕ) → j ≤ length bs → length (monomials bs j d) ≡ 2 ^ j
  length_monomials bs zero d h = refl
  length_monomials bs (suc j) d h =
      let e₁ : length (monomials bs j (take (2 ^ j) d)) ≡ 2 ^ j = length_monomials bs j (take (2 ^ j) d) (omega arith) in
      let e₂ : length (monomials bs j (drop (2 ^ j) d)) ≡ 2 ^ j = length_monomials bs j (drop (2 ^ j) d) (omega arith) in
      let e₃ : length (image_p bs j) ≡ 2 ^ j + 1 = length_image_p bs j (omega arith) in
      omega (
        arith,
        length_add_p K (monomials bs j (take (2 ^ j) d)) (mul_p K (image_p bs j) (monomials bs j (drop (2 ^ j) d))),
        length_mul_p K (image_p bs j) (monomials bs j (drop (2 ^ j) d)) (omega arith) (omega (arith, pow_pos j)),
        pow_pos j,
      )

module _ {K : Ops} (F : IsField K) where
  infixl 60 ◌⊕◌
  infixl 70 ◌⊗◌
  open K use {◌⊕◌, ◌⊗◌, inv, Sym}

  module _ (bs : List ℕ) (sb : All Sym bs) (ind : Independent K bs) where
    -- The same polynomial over the products of subspace polynomials
    pub record Novel (j : ℕ) (p : List ℕ) : Type 0 where
      pub coeffs : List ℕ
      pub count : length coeffs ≡ 2 ^ j
      pub elements : All Sym coeffs
      pub values : (x : ℕ) → Sym x → eval_x K bs j coeffs x ≡ eval K p x

  module _ (bs : List ℕ) (sb : All Sym bs) (ind : Independent K bs) where
    -- d is a polynomial of degree below 2 ^ m
    pub record Below (m j : ℕ) (d : List ℕ) : Type 0 where
      pub coeffs : List ℕ
      pub count : length coeffs ≡ 2 ^ m
      pub elements : All Sym coeffs
      pub values : (x : ℕ) → Sym x → eval K coeffs x ≡ eval_x K bs j d x
