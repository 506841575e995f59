-- A list that is filled from its front, with zeros behind. Assumes nothing.
use Rattle.std.specs.Prelude.{◌≡◌, List, ℕ, ◌+◌, ◌≤◌, ◌<◌, length, get_or, set, replicate}
use Rattle.std.proofs.Common.{sym, ap, ◌∙◌, subst, arith, length-set, ext_get_or, get_or-set_same, get_or-set_other}
use Rattle.std.proofs.Math.Decide.{dec_lt, ℕ_discrete}
use Rattle.std.proofs.lemmas.List.{length-replicate}
use Rattle.lists.specs.All.{All, All-of, zeros-at}
use Rattle.lists.specs.Tables.{tab, length_tab, get_or_tab}

-- a list of n entries: f below i, and 0 from i on
pub record Upto (n i : ℕ) (f : ℕ → ℕ) (xs : List ℕ) : Type 0 where
  pub count : length xs ≡ n
  pub done : (j : ℕ) → j < i → j < n → get_or xs j 0 ≡ f j
  pub left : (j : ℕ) → i ≤ j → get_or xs j 0 ≡ 0

pub upto_none : (n : ℕ) (f : ℕ → ℕ) → Upto n 0 f (replicate n 0)
upto_none n f = record { count = length-replicate {A = ℕ} n 0; done = λ j h k. absurd (omega arith); left = λ j h. zeros-at n j }

pub upto_next : {n i : ℕ} {f : ℕ → ℕ} {xs : List ℕ} (x : ℕ) → i < n → x ≡ f i → Upto n i f xs → Upto n (i + 1) f (set xs i x)
upto_next {n} {i} {f} {xs} x h e u =
    record {
      count = length-set xs i x ∙ u.count;
      done = λ j k l. at j k l (ℕ_discrete j i);
      left = λ j k. get_or-set_other xs i j x 0 (λ q. omega arith) ∙ u.left j (omega arith);
    }
  where
    at : (j : ℕ) → j < i + 1 → j < n → Dec (j ≡ i) → get_or (set xs i x) j 0 ≡ f j
    at j k l (yes q) = ap (λ (t : ℕ). get_or (set xs i x) t 0) q ∙ get_or-set_same xs i x 0 (omega (arith, u.count)) ∙ e ∙ ap f (sym q)
    at j k l (no q) = get_or-set_other xs i j x 0 q ∙ u.done j (omega arith) l

-- from i on f is 0
pub upto_all : {n i : ℕ} {f : ℕ → ℕ} {xs : List ℕ} → ((j : ℕ) → i ≤ j → j < n → f j ≡ 0) → Upto n i f xs → xs ≡ tab n f
upto_all {n} {i} {f} {xs} z u =
    ext_get_or 0 xs (tab n f) (u.count ∙ sym (length_tab n f))
    (λ j h. let l : j < n = omega (arith, u.count) in at j l (dec_lt j i) ∙ sym (get_or_tab n f j 0 l))
  where
    at : (j : ℕ) → j < n → Dec (j < i) → get_or xs j 0 ≡ f j
    at j l (yes k) = u.done j k l
    at j l (no k) = u.left j (omega arith) ∙ sym (z j (omega arith) l)

-- what holds of 0 and of each f j
pub upto_each : (P : ℕ → Type 0) {n i : ℕ} {f : ℕ → ℕ} {xs : List ℕ} → P 0 → ((j : ℕ) → j < i → P (f j)) → Upto n i f xs → All P xs
upto_each P {n} {i} {f} {xs} p s u = All-of P xs 0 (λ j h. at j (omega (arith, u.count)) (dec_lt j i))
  where
    at : (j : ℕ) → j < n → Dec (j < i) → P (get_or xs j 0)
    at j l (yes k) = subst P (sym (u.done j k l)) (s j k)
    at j l (no k) = subst P (sym (u.left j (omega arith))) p

-- places where f is 0 are filled as they are
pub upto_zeros : {n i k : ℕ} {f : ℕ → ℕ} {xs : List ℕ} → i ≤ k → ((j : ℕ) → i ≤ j → j < k → f j ≡ 0) → Upto n i f xs → Upto n k f xs
upto_zeros {n} {i} {k} {f} {xs} h z u = record { count = u.count; done = λ j l g. at j l g (dec_lt j i); left = λ j l. u.left j (omega arith) }
  where
    at : (j : ℕ) → j < k → j < n → Dec (j < i) → get_or xs j 0 ≡ f j
    at j l g (yes d) = u.done j d g
    at j l g (no d) = u.left j (omega arith) ∙ sym (z j (omega arith) l)
