-- The remainders of the extended Euclidean algorithm, one coefficient at a time (Gao's decoder): pairs r, v with r = w v at each point of the word w.
-- They start from the polynomial that vanishes at the n points, and the one through the n symbols of w.
use Rattle.std.specs.Prelude.{◌≡◌, ◌≢◌, List, [], ◌∷◌, ℕ, zero, suc, ◌+◌, ◌-◌, ◌≤◌, ◌<◌, length}
use Rattle.std.proofs.Common.{sym, ap, ◌∙◌, arith}
use Rattle.lists.specs.All.{All}
use Rattle.field.specs.Laws.{Ops, IsField, ring, ⊗_0, ⊗_1, ⊗-zero}
use Rattle.poly.specs.Poly.{Distinct, eval, add_p, mul_p}
use Rattle.poly.proofs.Poly.{eval-add_p, eval-mul_p, add_p_sym, mul_p_sym}
use Rattle.poly.specs.Coefficients.{coeff, Low, times_power, Mixed, low-le, low-less, low-times_power, coeff-times_power_at}
use Rattle.poly.proofs.Coefficients.{low-add_p, low-mul_p, low_mixed, mixed_left, mixed_right, eval_mixed, eval-times_power, coeff_equal, coeff_sym}
use Rattle.correction.specs.Differences.{differing, differing-le, root-low}

module _ (K : Ops) (n : ℕ) (x w : ℕ → ℕ) where
  -- r = w v at the points
  abbrev pub Hits : List ℕ → List ℕ → Type 0
  Hits r v = (j : ℕ) → j < n → eval K r (x j) ≡ K.◌⊗◌ (w j) (eval K v (x j))

  -- r has the degree b, and s a degree below a; v and u are their factors
  pub record Remainders (a b : ℕ) (r v s u : List ℕ) : Type 0 where
    pub small : a ≤ n
    pub large : b ≤ n
    pub symbols : All K.Sym r × All K.Sym v × All K.Sym s × All K.Sym u
    pub last-low : Low (suc b) r
    pub last-lead : coeff r b ≢ 0
    pub last-factor : Low (suc (n - a)) v
    pub last_hits : Hits r v
    pub next_low : Low a s
    pub next-factor : Low (suc (n - b)) u
    pub next-lead : coeff u (n - b) ≢ 0
    pub next_hits : Hits s u

module _ {K : Ops} (F : IsField K) (n : ℕ) (x w : ℕ → ℕ) where
  infixl 60 ◌⊕◌
  infixl 70 ◌⊗◌
  open K use {◌⊕◌, ◌⊗◌, Sym}

  -- before the first step
  pub start : (r s : List ℕ) (one zero : List ℕ) → All Sym r → All Sym s → Low (suc n) r → coeff r n ≢ 0 → Low n s
      → ((j : ℕ) → j < n → eval K r (x j) ≡ 0) → ((j : ℕ) → j < n → eval K s (x j) ≡ w j)
      → All Sym one → All Sym zero → coeff one 0 ≡ 1 → Low 1 one → Low 0 zero → ((j : ℕ) → j < n → Sym (w j))
      → Remainders K n x w n n r zero s one
  start r s one none sr ss lr tr ls er es s1 s0 e1 l1 l0 sw =
      record {
        small = omega arith;
        large = omega arith;
        symbols = (sr, s0, ss, s1);
        last-low = lr;
        last-lead = tr;
        last-factor = low-le 0 (suc (n - n)) none l0 (omega arith);
        last_hits = λ j h. er j h ∙ sym (ap (λ (t : ℕ). w j ⊗ t) (no_value (x j)) ∙ ⊗_0 F (w j));
        next_low = ls;
        next-factor = low-le 1 (suc (n - n)) one l1 (omega arith);
        next-lead = λ z. let q : ◌≡◌ {A = ℕ} 1 0 = sym e1 ∙ ap (coeff one) {x = 0} {y = n - n} (omega arith) ∙ z in omega arith;
        next_hits = λ j h. es j h ∙ sym (ap (λ (t : ℕ). w j ⊗ t) (one_value (x j)) ∙ ⊗_1 F (w j) (sw j h));
      }
    where
      no_value : (y : ℕ) → eval K none y ≡ 0
      no_value y = Rattle.poly.proofs.Coefficients.eval-coeff F none [] y (λ i. l0 i (omega arith))

      same : (i : ℕ) → coeff one i ≡ coeff (1 ∷ []) i
      same zero = e1
      same (suc i) = l1 (suc i) (omega arith)

      constant : (y : ℕ) → 1 ⊕ y ⊗ 0 ≡ 1
      constant y = simp (ring, F)

      one_value : (y : ℕ) → eval K one y ≡ 1
      one_value y = Rattle.poly.proofs.Coefficients.eval-coeff F one (1 ∷ []) y same ∙ constant y

  hits_step : (y c p q u v a b : ℕ) → p ≡ y ⊗ a → q ≡ y ⊗ b → u ≡ p ⊕ c ⊗ q → v ≡ a ⊕ c ⊗ b → u ≡ y ⊗ v
  hits_step y c p q u v a b ep eq eu ev = simp (ep, eq, eu, ev, ring, F)

  hits_mixed : (m c : ℕ) (r v s u r' v' : List ℕ) → Hits K n x w r v → Hits K n x w s u → Mixed K m c r s r' → Mixed K m c v u v' → Hits K n x w r' v'
  hits_mixed m c r v s u r' v' h g er ev j l =
      hits_step (w j) c (eval K r (x j)) (eval K (times_power m s) (x j)) (eval K r' (x j)) (eval K v' (x j)) (eval K v (x j)) (eval K (times_power m u) (x j))
      (h j l) (eval-times_power F m s u (x j) (w j) (g j l)) (eval_mixed F m c r s r' er (x j)) (eval_mixed F m c v u v' ev (x j))

  module _ (a b : ℕ) (r v s u : List ℕ) (h : Remainders K n x w (suc a) b r v s u) where
    -- the coefficient of number a is 0
    pub skip : coeff s a ≡ 0 → Remainders K n x w a b r v s u
    skip e =
        record {
          small = omega (arith, h.small);
          large = h.large;
          symbols = h.symbols;
          last-low = h.last-low;
          last-lead = h.last-lead;
          last-factor = low-le (suc (n - suc a)) (suc (n - a)) v h.last-factor (omega arith);
          last_hits = h.last_hits;
          next_low = low-less a s h.next_low e;
          next-factor = h.next-factor;
          next-lead = h.next-lead;
          next_hits = h.next_hits;
        }

    -- s is the longer one: the coefficient of number a goes
    pub reduce : (c : ℕ) (s' u' : List ℕ) → b ≤ a → All Sym s' → All Sym u' → coeff s a ⊕ c ⊗ coeff r b ≡ 0 → Mixed K (a - b) c s r s' → Mixed K (a - b) c u v u'
        → Remainders K n x w a b r v s' u'
    reduce c s' u' le ss su e es eu =
        record {
          small = omega (arith, h.small);
          large = h.large;
          symbols = (h.symbols.0, h.symbols.1, ss, su);
          last-low = h.last-low;
          last-lead = h.last-lead;
          last-factor = low-le (suc (n - suc a)) (suc (n - a)) v h.last-factor (omega arith);
          last_hits = h.last_hits;
          next_low =
              low-less a s'
              (low_mixed F (a - b) c s r s' es (suc a) h.next_low (low-le (a - b + suc b) (suc a) (times_power (a - b) r) (low-times_power (a - b) (suc b) r h.last-low) (omega arith)))
              (es a ∙ ap (λ (t : ℕ). coeff s a ⊕ c ⊗ t) (coeff-times_power_at (a - b) r b a (omega arith)) ∙ e);
          next-factor =
              low_mixed F (a - b) c u v u' eu (suc (n - b)) h.next-factor (low-le (a - b + suc (n - suc a)) (suc (n - b)) (times_power (a - b) v) low (omega (arith, h.small)));
          next-lead = λ z. h.next-lead (sym (mixed_left F (a - b) c u v u' eu (n - b) (low (n - b) (omega (arith, h.small)))) ∙ z);
          next_hits = hits_mixed (a - b) c s u r v s' u' h.next_hits h.last_hits es eu;
        }
      where
        low : Low (a - b + suc (n - suc a)) (times_power (a - b) v)
        low = low-times_power (a - b) (suc (n - suc a)) v h.last-factor

    -- r is the longer one: its leading coefficient goes, and s is the last remainder
    pub turn : (c : ℕ) (r' v' : List ℕ) → a < b → All Sym r' → All Sym v' → Sym c → coeff s a ≢ 0 → coeff r b ⊕ c ⊗ coeff s a ≡ 0
        → Mixed K (b - a) c r s r' → Mixed K (b - a) c v u v' → Remainders K n x w b a s u r' v'
    turn c r' v' lt sr sv sc ne e er ev =
        record {
          small = h.large;
          large = omega (arith, h.small);
          symbols = (h.symbols.2, h.symbols.3, sr, sv);
          last-low = h.next_low;
          last-lead = ne;
          last-factor = h.next-factor;
          last_hits = h.next_hits;
          next_low =
              low-less b r'
              (low_mixed F (b - a) c r s r' er (suc b) h.last-low (low-le (b - a + suc a) (suc b) (times_power (b - a) s) (low-times_power (b - a) (suc a) s h.next_low) (omega arith)))
              (er b ∙ ap (λ (t : ℕ). coeff r b ⊕ c ⊗ t) (coeff-times_power_at (b - a) s a b (omega arith)) ∙ e);
          next-factor =
              low_mixed F (b - a) c v u v' ev (suc (n - a)) (low-le (suc (n - suc a)) (suc (n - a)) v h.last-factor (omega arith))
              (low-le (b - a + suc (n - b)) (suc (n - a)) (times_power (b - a) u) (low-times_power (b - a) (suc (n - b)) u h.next-factor) (omega (arith, h.large)));
          next-lead = λ z. h.next-lead (⊗-zero F c (coeff u (n - b)) sc (coeff_sym F u (n - b) h.symbols.3) nc (sym top ∙ z));
          next_hits = hits_mixed (b - a) c r v s u r' v' h.last_hits h.next_hits er ev;
        }
      where
        nc : c ≢ 0
        nc z = h.last-lead (sym (simp (ring, F)) ∙ ap (λ (t : ℕ). coeff r b ⊕ t ⊗ coeff s a) (sym z) ∙ e)

        top : coeff v' (n - a) ≡ c ⊗ coeff u (n - b)
        top =
            mixed_right F (b - a) c v u v' ev (n - a) (h.last-factor (n - a) (omega (arith, h.small)))
            ∙ ap (λ (t : ℕ). c ⊗ t) (coeff-times_power_at (b - a) u (n - b) (n - a) (omega (arith, h.large)))

  -- ---- the last step: a remainder of a degree below m whose factor has a degree of at most m - d

  module _ (d t m : ℕ) (some : 0 < d) (sx : (j : ℕ) → j < n → Sym (x j)) (dx : Distinct n x) (fits : m + t ≤ n) (wide : n + d ≤ m + m)
      (a b : ℕ) (r v s u : List ℕ) (h : Remainders K n x w a b r v s u) (la : a ≤ m) (lb : m ≤ b) where
    sum-zero : (y p q u : ℕ) → q ≡ y ⊗ u → p ≡ y → q ⊕ p ⊗ u ≡ 0
    sum-zero y p q u eq ep = simp (eq, ep, ring, F)

    -- the remainder is the product of its factor with each polynomial of d coefficients that has all but t values right
    pub multiple : (p : List ℕ) → length p ≡ d → All Sym p → differing n w (λ j. eval K p (x j)) ≤ t → (i : ℕ) → coeff s i ≡ coeff (mul_p K p u) i
    multiple p lp sp near =
        coeff_equal F s (mul_p K p u)
        (root-low F n m (add_p K s (mul_p K p u)) x (add_p_sym F s (mul_p K p u) h.symbols.2 (mul_p_sym F p u sp h.symbols.3)) sx dx
        (low-add_p F m s (mul_p K p u) (low-le a m s h.next_low la)
        (low-le (length p + suc (n - b) - 1) m (mul_p K p u) (low-mul_p F p u (suc (n - b)) h.next-factor) (omega (arith, h.large))))
        (omega (
          arith,
          differing-le n (λ j. eval K (add_p K s (mul_p K p u)) (x j)) (λ j. 0) w (λ j. eval K p (x j))
              (λ j l e. eval-add_p F s (mul_p K p u) (x j) ∙ ap (λ (z : ℕ). eval K s (x j) ⊕ z) (eval-mul_p F p u (x j))
              ∙ sum-zero (w j) (eval K p (x j)) (eval K s (x j)) (eval K u (x j)) (h.next_hits j l) (sym e)),
        )))
