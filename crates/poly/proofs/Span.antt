-- Laws of the span of a basis over GF(2) and of its subspace polynomial, which is additive, 0 on the span alone, and constant on its cosets.
use Rattle.std.specs.Prelude.{◌≡◌, refl, ◌≢◌, ◌↔◌, ◌⊎◌, List, [], ◌∷◌, ◌++◌, map}
use Rattle.std.proofs.Math.Path.{sym, ap, ap₂, subst⁻¹}
use Rattle.std.proofs.Common.{◌∙◌, inl, inr, ⊎_elim, mul_assoc, arith, length-append}
use Prim.Native.Nat.{ℕ, zero, suc, ◌+◌, ◌*◌, ◌^◌, ◌-◌, ◌/◌, ◌%◌, ◌<◌}
use Rattle.std.proofs.Math.Nat.{pow-succ'}
use Rattle.std.proofs.Math.Decide.{ℕ_discrete}
use Rattle.std.proofs.Math.ListN.{length}
use Rattle.std.proofs.lemmas.List.{length-map}
use Rattle.std.proofs.Math.Pow.{pow_pos}
use Rattle.std.specs.Int.Bits.{bit_xor, differ}
use Rattle.std.proofs.lemmas.Nat.{xor_lt}
use Rattle.field.specs.Laws.{Ops, IsField, ring, sums, ⊕_assoc, 0_⊕, ⊕_0, ⊕_move, ⊗-zero, 0_⊗}
use Rattle.lists.specs.All.{All}
use Rattle.poly.specs.Poly.{Distinct}
use Rattle.poly.specs.Span.{bit_of, xor-zero, block-lt, block-zero, xor_odd, xor_half, elem, Independent, InSpan, product_to, vanish}

module _ {K : Ops} (F : IsField K) where
  infixl 60 ◌⊕◌
  infixl 70 ◌⊗◌
  open K use {◌⊕◌, ◌⊗◌, inv, Sym}

  bit_of_sym : (n b : ℕ) → Sym b → Sym (bit_of n b)
  bit_of_sym zero b s = F.sym_zero
  bit_of_sym (suc n) b s = s

  pub elem_sym : (bs : List ℕ) (i : ℕ) → All Sym bs → Sym (elem K bs i)
  elem_sym [] i s = F.sym_zero
  elem_sym (b ∷ bs) i s = F.sym_sum (bit_of_sym (i % 2) b s.0) (elem_sym bs (i / 2) s.1)

  pub elem-zero : (bs : List ℕ) → elem K bs 0 ≡ 0
  elem-zero [] = refl
  elem-zero (b ∷ bs) = 0_⊕ F (elem K bs 0) ∙ elem-zero bs

  -- One step of the recursion, with the digit and the rest named
  pub elem-cons : (b : ℕ) (bs : List ℕ) (i u v : ℕ) → i % 2 ≡ u → i / 2 ≡ v → elem K (b ∷ bs) i ≡ bit_of u b ⊕ elem K bs v
  elem-cons b bs i u v eu ev = ap₂ (λ (u v : ℕ). bit_of u b ⊕ elem K bs v) eu ev

  pub elem_even : (b : ℕ) (bs : List ℕ) (i : ℕ) → elem K (b ∷ bs) (2 * i) ≡ elem K bs i
  elem_even b bs i = elem-cons b bs (2 * i) 0 i (omega arith) (omega arith) ∙ 0_⊕ F (elem K bs i)

  pub elem_odd : (b : ℕ) (bs : List ℕ) (i : ℕ) → elem K (b ∷ bs) (2 * i + 1) ≡ b ⊕ elem K bs i
  elem_odd b bs i = elem-cons b bs (2 * i + 1) 1 i (omega arith) (omega arith)

  pub elem_append : (bs cs : List ℕ) (r s : ℕ) → r < 2 ^ length bs → elem K (bs ++ cs) (r + 2 ^ length bs * s) ≡ elem K bs r ⊕ elem K cs s
  elem_append [] cs r s h = ap (elem K cs) (omega arith) ∙ sym (0_⊕ F (elem K cs s))
  elem_append (b ∷ bs) cs r s h =
      let e : 2 ^ suc (length bs) * s ≡ 2 * (2 ^ length bs * s) = ap (λ (t : ℕ). t * s) (pow-succ' 2 (length bs)) ∙ mul_assoc 2 (2 ^ length bs) s in
      elem-cons b (bs ++ cs) (r + 2 ^ suc (length bs) * s) (r % 2) (r / 2 + 2 ^ length bs * s) (omega arith) (omega arith)
      ∙ ap (λ (t : ℕ). bit_of (r % 2) b ⊕ t) (elem_append bs cs (r / 2) s (omega arith))
      ∙ sym (⊕_assoc F (bit_of (r % 2) b) (elem K bs (r / 2)) (elem K cs s))

  bit_of_differ : (u v b : ℕ) → u < 2 → v < 2 → bit_of (differ u v) b ≡ bit_of u b ⊕ bit_of v b
  bit_of_differ zero v b hu hv = sym (0_⊕ F (bit_of v b))
  bit_of_differ (suc u) zero b hu hv = sym (⊕_0 F b)
  bit_of_differ (suc zero) (suc zero) b hu hv = sym (F.sum_self b)
  bit_of_differ (suc zero) (suc (suc v)) b hu hv = absurd (omega arith)
  bit_of_differ (suc (suc u)) (suc v) b hu hv = absurd (omega arith)

  xor_sums : (a b c d : ℕ) → a ⊕ b ⊕ (c ⊕ d) ≡ a ⊕ c ⊕ (b ⊕ d)
  xor_sums a b c d = simp (sums, F)

  pub elem_xor : (bs : List ℕ) (i j : ℕ) → elem K bs (bit_xor i j) ≡ elem K bs i ⊕ elem K bs j
  elem_xor [] i j = sym (F.sum_self 0)
  elem_xor (b ∷ bs) i j =
      elem-cons b bs (bit_xor i j) (differ (i % 2) (j % 2)) (bit_xor (i / 2) (j / 2)) (xor_odd i j) (xor_half i j)
      ∙ ap₂ ◌⊕◌ (bit_of_differ (i % 2) (j % 2) b (omega arith) (omega arith)) (elem_xor bs (i / 2) (j / 2))
      ∙ xor_sums (bit_of (i % 2) b) (bit_of (j % 2) b) (elem K bs (i / 2)) (elem K bs (j / 2))

  -- Elements with different numbers differ
  pub elem_distinct : (bs : List ℕ) → Independent K bs → Distinct (2 ^ length bs) (elem K bs)
  elem_distinct bs ind i j hi hj e =
      xor-zero i j (ind (bit_xor i j) (xor_lt (length bs) i j hi hj) (elem_xor bs i j ∙ ap (λ (t : ℕ). t ⊕ elem K bs j) e ∙ F.sum_self (elem K bs j)))

  product_to_ext : (n : ℕ) (f g : ℕ → ℕ) → ((i : ℕ) → f i ≡ g i) → product_to K n f ≡ product_to K n g
  product_to_ext zero f g h = h 0
  product_to_ext (suc n) f g h = ap₂ ◌⊗◌ (h (suc n)) (product_to_ext n f g h)

  swap_products : (a b c d : ℕ) → a ⊗ (b ⊗ (c ⊗ d)) ≡ b ⊗ c ⊗ (a ⊗ d)
  swap_products a b c d = simp (ring, F)

  -- A product over 2 (n + 1) numbers, the even and the odd apart
  product_to_double : (n : ℕ) (f : ℕ → ℕ) → product_to K (2 * n + 1) f ≡ product_to K n (λ i. f (2 * i)) ⊗ product_to K n (λ i. f (2 * i + 1))
  product_to_double zero f = F.prod_comm (f 1) (f 0)
  product_to_double (suc n) f =
      ap (λ (k : ℕ). product_to K k f) {x = 2 * suc n + 1} {y = suc (suc (2 * n + 1))} (omega arith)
      ∙ ap (λ (k : ℕ). f k ⊗ (f (suc (2 * n + 1)) ⊗ product_to K (2 * n + 1) f)) {x = suc (suc (2 * n + 1))} {y = 2 * suc n + 1} (omega arith)
      ∙ ap (λ (k : ℕ). f (2 * suc n + 1) ⊗ (f k ⊗ product_to K (2 * n + 1) f)) {x = suc (2 * n + 1)} {y = 2 * suc n} (omega arith)
      ∙ ap (λ (t : ℕ). f (2 * suc n + 1) ⊗ (f (2 * suc n) ⊗ t)) (product_to_double n f)
      ∙ swap_products (f (2 * suc n + 1)) (f (2 * suc n)) (product_to K n (λ i. f (2 * i))) (product_to K n (λ i. f (2 * i + 1)))

  pub vanish-nil : (x : ℕ) → vanish K [] x ≡ x
  unfolding vanish
  vanish-nil x = ⊕_0 F x

  -- The product over the span of b and bs: over the span of bs, and over its coset of b
  pub vanish-split : (b : ℕ) (bs : List ℕ) (x : ℕ) → vanish K (b ∷ bs) x ≡ vanish K bs x ⊗ vanish K bs (x ⊕ b)
  unfolding vanish
  vanish-split b bs x =
      ap (λ (k : ℕ). product_to K k (λ i. x ⊕ elem K (b ∷ bs) i)) {x = 2 ^ suc (length bs) - 1} {y = 2 * (2 ^ length bs - 1) + 1} (omega (arith, pow-succ' 2 (length bs), pow_pos (length bs)))
      ∙ product_to_double (2 ^ length bs - 1) (λ i. x ⊕ elem K (b ∷ bs) i)
      ∙ ap₂ ◌⊗◌
      (product_to_ext (2 ^ length bs - 1) (λ i. x ⊕ elem K (b ∷ bs) (2 * i)) (λ i. x ⊕ elem K bs i) (λ i. ap (λ (t : ℕ). x ⊕ t) (elem_even b bs i)))
      (product_to_ext (2 ^ length bs - 1) (λ i. x ⊕ elem K (b ∷ bs) (2 * i + 1)) (λ i. x ⊕ b ⊕ elem K bs i)
      (λ i. ap (λ (t : ℕ). x ⊕ t) (elem_odd b bs i) ∙ sym (⊕_assoc F x b (elem K bs i))))

  additive_step : (f : ℕ → ℕ) → ((x y : ℕ) → f (x ⊕ y) ≡ f x ⊕ f y) → (b x y : ℕ) → f (x ⊕ y) ⊗ f (x ⊕ y ⊕ b) ≡ f x ⊗ f (x ⊕ b) ⊕ f y ⊗ f (y ⊕ b)
  additive_step f h b x y = simp (h, ring, F)

  -- The subspace polynomial is additive
  pub vanish-sum : (bs : List ℕ) (x y : ℕ) → vanish K bs (x ⊕ y) ≡ vanish K bs x ⊕ vanish K bs y
  vanish-sum [] x y = vanish-nil (x ⊕ y) ∙ sym (ap₂ ◌⊕◌ (vanish-nil x) (vanish-nil y))
  vanish-sum (b ∷ bs) x y = vanish-split b bs (x ⊕ y) ∙ additive_step (vanish K bs) (vanish-sum bs) b x y ∙ sym (ap₂ ◌⊕◌ (vanish-split b bs x) (vanish-split b bs y))

  pub vanish-zero : (bs : List ℕ) → vanish K bs 0 ≡ 0
  vanish-zero [] = vanish-nil 0
  vanish-zero (b ∷ bs) = vanish-split b bs 0 ∙ ap (λ (t : ℕ). t ⊗ vanish K bs (0 ⊕ b)) (vanish-zero bs) ∙ 0_⊗ F (vanish K bs (0 ⊕ b))

  pub vanish_sym : (bs : List ℕ) (x : ℕ) → All Sym bs → Sym x → Sym (vanish K bs x)
  vanish_sym [] x s sx = subst⁻¹ Sym (vanish-nil x) sx
  vanish_sym (b ∷ bs) x s sx = subst⁻¹ Sym (vanish-split b bs x) (F.sym_prod (vanish_sym bs x s.1 sx) (vanish_sym bs (x ⊕ b) s.1 (F.sym_sum sx s.0)))

  snoc_step : (f : ℕ → ℕ) (x b c : ℕ) → f x ⊗ f (x ⊕ b) ⊗ (f (x ⊕ c) ⊗ f (x ⊕ c ⊕ b)) ≡ f x ⊗ f (x ⊕ c) ⊗ (f (x ⊕ b) ⊗ f (x ⊕ b ⊕ c))
  snoc_step f x b c = simp (ring, F)

  vanish_snoc' : (bs : List ℕ) (b x : ℕ) → vanish K (bs ++ (b ∷ [])) x ≡ vanish K bs x ⊗ vanish K bs (x ⊕ b)
  vanish_snoc' [] b x = vanish-split b [] x
  vanish_snoc' (c ∷ bs) b x =
      vanish-split c (bs ++ (b ∷ [])) x ∙ ap₂ ◌⊗◌ (vanish_snoc' bs b x) (vanish_snoc' bs b (x ⊕ c)) ∙ snoc_step (vanish K bs) x b c
      ∙ sym (ap₂ ◌⊗◌ (vanish-split c bs x) (vanish-split c bs (x ⊕ b)))

  -- One more basis element, at either end
  pub vanish-cons : (b : ℕ) (bs : List ℕ) (x : ℕ) → vanish K (b ∷ bs) x ≡ vanish K bs x ⊗ (vanish K bs x ⊕ vanish K bs b)
  vanish-cons b bs x = vanish-split b bs x ∙ ap (λ (t : ℕ). vanish K bs x ⊗ t) (vanish-sum bs x b)

  pub vanish_snoc : (bs : List ℕ) (b x : ℕ) → vanish K (bs ++ (b ∷ [])) x ≡ vanish K bs x ⊗ (vanish K bs x ⊕ vanish K bs b)
  vanish_snoc bs b x = vanish_snoc' bs b x ∙ ap (λ (t : ℕ). vanish K bs x ⊗ t) (vanish-sum bs x b)

  -- It is 0 on the span
  root-step : (f : ℕ → ℕ) (u b e : ℕ) → f e ≡ 0 → f (bit_of u b ⊕ e) ⊗ f (bit_of u b ⊕ e ⊕ b) ≡ 0
  root-step f zero b e h = simp (h, ring, F)
  root-step f (suc u) b e h = simp (h, ring, F)

  pub vanish-elem : (bs : List ℕ) (i : ℕ) → vanish K bs (elem K bs i) ≡ 0
  vanish-elem [] i = vanish-nil 0
  vanish-elem (b ∷ bs) i = vanish-split b bs (elem K (b ∷ bs) i) ∙ root-step (vanish K bs) (i % 2) b (elem K bs (i / 2)) (vanish-elem bs (i / 2))

  -- It is constant on the cosets of the span
  pub vanish_coset : (bs : List ℕ) (x i : ℕ) → vanish K bs (x ⊕ elem K bs i) ≡ vanish K bs x
  vanish_coset bs x i = vanish-sum bs x (elem K bs i) ∙ ap (λ (t : ℕ). vanish K bs x ⊕ t) (vanish-elem bs i) ∙ ⊕_0 F (vanish K bs x)

  zero-split : (u v : ℕ) → Sym u → Sym v → u ⊗ v ≡ 0 → (u ≡ 0) ⊎ (v ≡ 0)
  zero-split u v su sv e = by (ℕ_discrete u 0)
    where
      by : Dec (u ≡ 0) → (u ≡ 0) ⊎ (v ≡ 0)
      by (yes z) = inl z
      by (no n) = inr (⊗-zero F u v su sv n e)

  span_even : (b : ℕ) (bs : List ℕ) (x : ℕ) → InSpan K bs x → InSpan K (b ∷ bs) x
  span_even b bs x (i, h, e) = (2 * i, omega (arith, pow-succ' 2 (length bs)), e ∙ sym (elem_even b bs i))

  span_odd : (b : ℕ) (bs : List ℕ) (x : ℕ) → InSpan K bs (x ⊕ b) → InSpan K (b ∷ bs) x
  span_odd b bs x (i, h, e) = (2 * i + 1, omega (arith, pow-succ' 2 (length bs)), ⊕_move F x b _ e ∙ F.sum_comm (elem K bs i) b ∙ sym (elem_odd b bs i))

  -- Each root is in the span
  pub vanish-root : (bs : List ℕ) (x : ℕ) → All Sym bs → Sym x → vanish K bs x ≡ 0 → InSpan K bs x
  vanish-root [] x s sx e = (0, omega arith, sym (vanish-nil x) ∙ e)
  vanish-root (b ∷ bs) x s sx e =
      ⊎_elim (λ z. span_even b bs x (vanish-root bs x s.1 sx z)) (λ z. span_odd b bs x (vanish-root bs (x ⊕ b) s.1 (F.sym_sum sx s.0) z))
      (zero-split (vanish K bs x) (vanish K bs (x ⊕ b)) (vanish_sym bs x s.1 sx) (vanish_sym bs (x ⊕ b) s.1 (F.sym_sum sx s.0)) (sym (vanish-split b bs x) ∙ e))

  -- The roots are the elements of the span
  pub vanish_iff : (bs : List ℕ) (x : ℕ) → All Sym bs → Sym x → (vanish K bs x ≡ 0) ↔ InSpan K bs x
  vanish_iff bs x s sx = (vanish-root bs x s sx, λ (i, h, e). ap (vanish K bs) e ∙ vanish-elem bs i)

  -- An additive map takes elements of a span to elements of the span of the images
  pub elem_map : (f : ℕ → ℕ) → ((x y : ℕ) → f (x ⊕ y) ≡ f x ⊕ f y) → f 0 ≡ 0 → (bs : List ℕ) (i : ℕ) → elem K (map f bs) i ≡ f (elem K bs i)
  elem_map f add z [] i = sym z
  elem_map f add z (b ∷ bs) i = ap₂ ◌⊕◌ (image (i % 2)) (elem_map f add z bs (i / 2)) ∙ sym (add (bit_of (i % 2) b) (elem K bs (i / 2)))
    where
      image : (u : ℕ) → bit_of u (f b) ≡ f (bit_of u b)
      image zero = sym z
      image (suc u) = refl

  pub elem-vanish : (bs cs : List ℕ) (i : ℕ) → elem K (map (vanish K bs) cs) i ≡ vanish K bs (elem K cs i)
  elem-vanish bs cs i = elem_map (vanish K bs) (vanish-sum bs) (vanish-zero bs) cs i

  -- The images of the rest of an independent basis are independent
  pub vanish_independent : (bs cs : List ℕ) → All Sym bs → All Sym cs → Independent K (bs ++ cs) → Independent K (map (vanish K bs) cs)
  vanish_independent bs cs sb sc ind s h e =
      let (r, hr, er) = vanish-root bs (elem K cs s) sb (elem_sym cs s sc) (sym (elem-vanish bs cs s) ∙ e) in
      block-zero (length bs) r s
      (ind (r + 2 ^ length bs * s) (rw (length-append bs cs) (block-lt (length bs) (length cs) r s hr (rw length-map at h)))
      (elem_append bs cs r s hr ∙ ap (λ (t : ℕ). elem K bs r ⊕ t) er ∙ F.sum_self (elem K bs r)))

  -- The next basis element is no root
  pub vanish-next : (bs : List ℕ) (b : ℕ) (cs : List ℕ) → All Sym bs → All Sym (b ∷ cs) → Independent K (bs ++ b ∷ cs) → vanish K bs b ≢ 0
  vanish-next bs b cs sb sc ind e =
      let z : ◌≡◌ {A = ℕ} 1 0 =
      vanish_independent bs (b ∷ cs) sb sc ind 1 (omega (arith, pow-succ' 2 (length (map (vanish K bs) cs)), pow_pos (length (map (vanish K bs) cs))))
      (elem_odd (vanish K bs b) (map (vanish K bs) cs) 0 ∙ ap₂ ◌⊕◌ e (elem-zero (map (vanish K bs) cs)) ∙ F.sum_self 0)
      in omega arith
