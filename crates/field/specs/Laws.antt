-- The laws of a finite field of characteristic 2 whose elements are natural numbers, and the rule sets that normalise sums and products.
use Rattle.std.specs.Prelude.{◌≡◌, ◌≢◌, ℕ}
use Rattle.std.proofs.Common.{sym, ap, ap₂, ◌∙◌}

-- sum, product and inverse, and which numbers are symbols
pub record Ops : Type 1 where
  pub ◌⊕◌ : ℕ → ℕ → ℕ
  pub ◌⊗◌ : ℕ → ℕ → ℕ
  pub inv : ℕ → ℕ
  pub Sym : ℕ → Type 0

module _ (K : Ops) where
  infixl 60 ◌⊕◌
  infixl 70 ◌⊗◌
  open K use {◌⊕◌, ◌⊗◌, inv, Sym}

  -- The sum and product laws hold for all numbers; only what concerns 1 and inverses asks for symbols
  pub record IsField : Type 0 where
    pub sum_assoc : (x y z : ℕ) → (x ⊕ y) ⊕ z ≡ x ⊕ (y ⊕ z)
    pub sum_comm : (x y : ℕ) → x ⊕ y ≡ y ⊕ x
    pub zero-sum : (x : ℕ) → 0 ⊕ x ≡ x
    pub sum_self : (x : ℕ) → x ⊕ x ≡ 0
    pub prod_assoc : (x y z : ℕ) → (x ⊗ y) ⊗ z ≡ x ⊗ (y ⊗ z)
    pub prod_comm : (x y : ℕ) → x ⊗ y ≡ y ⊗ x
    pub distrib : (x y z : ℕ) → x ⊗ (y ⊕ z) ≡ x ⊗ y ⊕ x ⊗ z
    pub zero_prod : (x : ℕ) → 0 ⊗ x ≡ 0
    pub sym_zero : Sym 0
    pub sym_one : Sym 1
    pub sym_sum : {x y : ℕ} → Sym x → Sym y → Sym (x ⊕ y)
    pub sym_prod : {x y : ℕ} → Sym x → Sym y → Sym (x ⊗ y)
    pub one_prod : (x : ℕ) → Sym x → 1 ⊗ x ≡ x
    pub sym_inv : {x : ℕ} → Sym x → Sym (inv x)
    pub prod_inv : (x : ℕ) → Sym x → x ≢ 0 → x ⊗ inv x ≡ 1

module _ {K : Ops} (F : IsField K) where
  infixl 60 ◌⊕◌
  infixl 70 ◌⊗◌
  open K use {◌⊕◌, ◌⊗◌, inv, Sym}

  pub ⊕_assoc : (x y z : ℕ) → (x ⊕ y) ⊕ z ≡ x ⊕ (y ⊕ z)
  ⊕_assoc = F.sum_assoc

  pub ⊕_comm : (x y : ℕ) → x ⊕ y ≡ y ⊕ x
  ⊕_comm = F.sum_comm

  pub 0_⊕ : (x : ℕ) → 0 ⊕ x ≡ x
  0_⊕ = F.zero-sum

  pub ⊕_self : (x : ℕ) → x ⊕ x ≡ 0
  ⊕_self = F.sum_self

  pub ⊗_assoc : (x y z : ℕ) → (x ⊗ y) ⊗ z ≡ x ⊗ (y ⊗ z)
  ⊗_assoc = F.prod_assoc

  pub ⊗_comm : (x y : ℕ) → x ⊗ y ≡ y ⊗ x
  ⊗_comm = F.prod_comm

  pub ⊗-⊕ : (x y z : ℕ) → x ⊗ (y ⊕ z) ≡ x ⊗ y ⊕ x ⊗ z
  ⊗-⊕ = F.distrib

  pub 0_⊗ : (x : ℕ) → 0 ⊗ x ≡ 0
  0_⊗ = F.zero_prod

  pub ⊕_0 : (x : ℕ) → x ⊕ 0 ≡ x
  ⊕_0 x = ⊕_comm x 0 ∙ 0_⊕ x

  pub ⊗_0 : (x : ℕ) → x ⊗ 0 ≡ 0
  ⊗_0 x = ⊗_comm x 0 ∙ 0_⊗ x

  pub ⊕-left_comm : (x y z : ℕ) → x ⊕ (y ⊕ z) ≡ y ⊕ (x ⊕ z)
  ⊕-left_comm x y z = simp (← ⊕_assoc, ⊕_comm x y)

  pub ⊕_cancel : (x y : ℕ) → x ⊕ (x ⊕ y) ≡ y
  ⊕_cancel x y = sym (⊕_assoc x x y) ∙ ap (λ (t : ℕ). t ⊕ y) (⊕_self x) ∙ 0_⊕ y

  pub ⊗-left_comm : (x y z : ℕ) → x ⊗ (y ⊗ z) ≡ y ⊗ (x ⊗ z)
  ⊗-left_comm x y z = simp (← ⊗_assoc, ⊗_comm x y)

  pub ⊕-⊗ : (x y z : ℕ) → (x ⊕ y) ⊗ z ≡ x ⊗ z ⊕ y ⊗ z
  ⊕-⊗ x y z = ⊗_comm (x ⊕ y) z ∙ ⊗-⊕ z x y ∙ simp (⊗_comm z)

  -- Sums in a normal form: right-nested, sorted, equal pairs cancelled
  pub ruleset sums = (⊕_assoc, ⊕_comm, ⊕-left_comm, ⊕_self, ⊕_cancel, 0_⊕, ⊕_0)

  -- Sums of products in a normal form: multiplied out, each product sorted, the sum as under `sums`
  pub ruleset ring = (sums, ⊗_assoc, ⊗_comm, ⊗-left_comm, ⊗-⊕, ⊕-⊗, 0_⊗, ⊗_0)

  pub ⊕-zero : (x y : ℕ) → x ⊕ y ≡ 0 → x ≡ y
  ⊕-zero x y e = sym (simp sums) ∙ ap (λ (t : ℕ). t ⊕ y) e ∙ 0_⊕ y

  -- x + y = z in another form, since each number is its own negative
  pub ⊕_move : (x y z : ℕ) → x ⊕ y ≡ z → x ≡ z ⊕ y
  ⊕_move x y z e = sym (simp sums) ∙ ap (λ (t : ℕ). t ⊕ y) e

  -- x ≡ y from a ≡ b, where x + a ≡ y + b holds by the ring laws alone: the hypothesis may be multiplied first, and several are used one after the other
  pub combine : {x y a b : ℕ} → a ≡ b → x ⊕ a ≡ y ⊕ b → x ≡ y
  combine e h = sym (simp sums) ∙ ap₂ ◌⊕◌ h e ∙ simp sums

  pub ⊗_1 : (x : ℕ) → Sym x → x ⊗ 1 ≡ x
  ⊗_1 x s = ⊗_comm x 1 ∙ F.one_prod x s

  -- A product with a nonzero element can be undone
  pub inv_⊗ : (x y : ℕ) → Sym x → Sym y → x ≢ 0 → inv x ⊗ (x ⊗ y) ≡ y
  inv_⊗ x y sx sy n = sym (⊗_assoc (inv x) x y) ∙ ap (λ (t : ℕ). t ⊗ y) (⊗_comm (inv x) x ∙ F.prod_inv x sx n) ∙ F.one_prod y sy

  -- Every element is a multiple of a nonzero one
  pub ⊗_inv : (x y : ℕ) → Sym x → Sym y → x ≢ 0 → x ⊗ (inv x ⊗ y) ≡ y
  ⊗_inv x y sx sy n = ⊗-left_comm x (inv x) y ∙ inv_⊗ x y sx sy n

  pub ⊗_cancel : (x y z : ℕ) → Sym x → Sym y → Sym z → x ≢ 0 → x ⊗ y ≡ x ⊗ z → y ≡ z
  ⊗_cancel x y z sx sy sz n e = sym (inv_⊗ x y sx sy n) ∙ ap (λ (t : ℕ). inv x ⊗ t) e ∙ inv_⊗ x z sx sz n

  -- There are no zero divisors
  pub ⊗-zero : (x y : ℕ) → Sym x → Sym y → x ≢ 0 → x ⊗ y ≡ 0 → y ≡ 0
  ⊗-zero x y sx sy n e = ⊗_cancel x y 0 sx sy F.sym_zero n (e ∙ sym (⊗_0 x))

  pub sym_zero' : Sym 0
  sym_zero' = F.sym_zero

  pub sym_one' : Sym 1
  sym_one' = F.sym_one

  pub sym_sum' : {x y : ℕ} → Sym x → Sym y → Sym (x ⊕ y)
  sym_sum' = F.sym_sum

  pub sym_prod' : {x y : ℕ} → Sym x → Sym y → Sym (x ⊗ y)
  sym_prod' = F.sym_prod

  pub sym_inv' : {x : ℕ} → Sym x → Sym (inv x)
  sym_inv' = F.sym_inv

  -- For `search`: sums, products and inverses of elements are elements
  pub ruleset elements = (sym_sum', sym_prod', sym_inv', sym_zero', sym_one')
