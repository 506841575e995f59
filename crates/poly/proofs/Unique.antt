-- Two polynomials with n coefficients that agree at n distinct elements are equal.
use Rattle.std.specs.Prelude.{◌≡◌, List, ℕ, ◌<◌, length}
use Rattle.std.proofs.Common.{sym, ◌∙◌, arith}
use Rattle.lists.specs.All.{All}
use Rattle.field.specs.Laws.{Ops, IsField}
use Rattle.poly.specs.Poly.{Distinct, eval, add_p, length_add_p}
use Rattle.poly.proofs.Poly.{eval-add_p, add_p_sym, root-bound, zeros_equal, sum_step}

module _ {K : Ops} (F : IsField K) where
  open K use {Sym}

  -- Two polynomials with n coefficients that agree at n distinct elements are equal
  pub eval_unique : (n : ℕ) (p q : List ℕ) (f : ℕ → ℕ) → length p ≡ n → length q ≡ n → All Sym p → All Sym q → ((i : ℕ) → i < n → Sym (f i)) → Distinct n f
      → ((i : ℕ) → i < n → eval K p (f i) ≡ eval K q (f i)) → p ≡ q
  eval_unique n p q f ep eq sp sq sf d r =
      zeros_equal F p q (ep ∙ sym eq)
      (root-bound F n (add_p K p q) f (omega (arith, length_add_p K p q)) (add_p_sym F p q sp sq) sf d
      (λ i h. eval-add_p F p q (f i) ∙ sum_step F _ _ (r i h)))
