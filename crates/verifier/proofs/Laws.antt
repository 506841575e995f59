-- The blocks of a word in two parts. Assumes nothing.
use mathlib.Core.Path.{◌≡◌, refl, sym, ap, ◌∙◌, subst}
use mathlib.Core.List.{List, ◌++◌, append_assoc}
use Prim.Native.Nat.{ℕ, ◌+◌, ◌-◌, ◌*◌, ◌/◌, ◌%◌, ◌^◌, ◌≤◌, ◌<◌}
use native.Mathlib.Nat.{div-add-mod', one-mul, mod-eq_of_lt, mod-lt, mul-le-mul_right, mul_assoc, mul_comm, mul-sub, lt_of_mul-lt-mul_right}
use native.Mathlib.Omega.{arith}
use lib.ListN.{length, take, drop, length-drop, take-append-drop}
use lib.Pow.{pow_mono}
use lib.Seq.{take_at, drop_at, take-append-le, drop-append-le, drop-drop, length-take-le, take-take}
use Rattle.lists.specs.All.{drop-take}
use Rattle.lists.specs.Overwrite.{drop_append_at}
use Rattle.lists.specs.Tables.{part, part-fits, length-insert}
use Rattle.verifier.specs.Parts.{InParts, joined, no_symbols}

module _ (near far : List ℕ) (slot : ℕ) (p : InParts near far slot) where
  abbrev size : ℕ
  size = length near

  pub length_joined : length (joined near far slot) ≡ 8 * size
  unfolding joined
  length_joined = length-insert (slot * size) near far ∙ omega (arith, p.seven)

  fits : slot * size ≤ length far
  fits = omega (arith, part-fits size p.inside, p.seven)

  right : joined near far slot ≡ take (slot * size) far ++ (near ++ drop (slot * size) far)
  unfolding joined
  right = append_assoc (take (slot * size) far) near (drop (slot * size) far)

  front : (x : ℕ) (rest : List ℕ) → x + size ≤ slot * size → take size (drop x (take (slot * size) far ++ rest)) ≡ take size (drop x (take (slot * size) far))
  front x rest h =
      rw (drop-append-le x (take (slot * size) far) rest (omega (arith, length-take-le (slot * size) far fits)))
      (take-append-le size (drop x (take (slot * size) far)) rest (omega (arith, length-drop x (take (slot * size) far), length-take-le (slot * size) far fits)))

  module _ (j : ℕ) where
    pub block_at : j ≡ slot → near ≡ part size j (joined near far slot)
    block_at e =
        sym (ap (λ (i : ℕ). take size (drop (i * size) (joined near far slot))) e ∙ ap (λ (l : List ℕ). take size (drop (slot * size) l)) right
        ∙ ap (take size) (drop_at (take (slot * size) far) (near ++ drop (slot * size) far) (slot * size) (length-take-le (slot * size) far fits))
        ∙ take_at near (drop (slot * size) far) size (omega arith))

    pub block-before : j < slot → take size (drop (j * size) far) ≡ part size j (joined near far slot)
    block-before h =
        sym (ap (λ (l : List ℕ). take size (drop (j * size) l)) right
        ∙ front (j * size) (near ++ drop (slot * size) far) (part-fits size h)
        ∙ sym (front (j * size) (drop (slot * size) far) (part-fits size h))
        ∙ ap (λ (l : List ℕ). take size (drop (j * size) l)) (take-append-drop (slot * size) far))

    pub block-after : slot < j → take size (drop (j * size - size) far) ≡ part size j (joined near far slot)
    block-after h =
        let here : slot * size + size ≤ j * size = part-fits size h in
        let same : slot * size + (j * size - slot * size - size) ≡ j * size - size = omega arith in
        sym (ap (λ (l : List ℕ). take size (drop (j * size) l)) right
        ∙ ap (take size) (drop_append_at (take (slot * size) far) (near ++ drop (slot * size) far) (j * size - slot * size) (j * size) (omega (arith, length-take-le (slot * size) far fits))
        ∙ drop_append_at near (drop (slot * size) far) (j * size - slot * size - size) (j * size - slot * size) (omega arith)
        ∙ drop-drop (j * size - slot * size - size) (slot * size) far ∙ ap (λ (n : ℕ). drop n far) same))

-- a stretch inside a block
pub stretch-part : (n at count : ℕ) (xs : List ℕ) → 0 < n → at % n + count ≤ n → take count (drop (at % n) (part n (at / n) xs)) ≡ take count (drop at xs)
stretch-part n at count xs pos h =
    let split : at % n + count + (n - (at % n + count)) ≡ n = omega arith in
    ap (λ (k : ℕ). take count (drop (at % n) (take k (drop (at / n * n) xs)))) (sym (split' split))
    ∙ ap (take count) (drop-take (at % n) (n - at % n) (drop (at / n * n) xs))
    ∙ take-take count (n - at % n) (drop (at % n) (drop (at / n * n) xs)) (omega arith)
    ∙ ap (take count) (drop-drop (at % n) (at / n * n) xs ∙ ap (λ (k : ℕ). drop k xs) (div-add-mod' at n))
  where
    split' : at % n + count + (n - (at % n + count)) ≡ n → at % n + (n - at % n) ≡ n
    split' e = omega arith

-- 1, shifted
pub one_shifted : (e : ℕ) → e < 32 → 1 * 2 ^ e % 18446744073709551616 ≡ 2 ^ e
one_shifted e h = let small : 2 ^ e ≤ 2 ^ 32 = pow_mono {j = 32} (omega arith) in ap (λ (n : ℕ). n % 18446744073709551616) (one-mul (2 ^ e)) ∙ mod-eq_of_lt (omega arith)

-- a stretch of m that starts at a multiple of m lies in one block of n m
pub aligned : (n m r : ℕ) → 0 < m → 0 < n → r * m % (n * m) + m ≤ n * m
aligned n m r hm hn =
    let q : ℕ = r * m / (n * m) in
    let t : ℕ = r * m % (n * m) in
    let whole : q * (n * m) + t ≡ r * m = div-add-mod' (r * m) (n * m) in
    let less : t < n * m = mod-lt (r * m) (omega (arith, mul-le-mul_right {m = 1} {n = n} m hn)) in
    let s : ℕ = r - q * n in
    let same : s * m ≡ t = mul_comm s m ∙ mul-sub m r (q * n) ∙ omega (arith, mul_comm m r, mul_comm m (q * n), mul_assoc q n m) in
    let below : s < n = lt_of_mul-lt-mul_right m (subst (λ (x : ℕ). x < n * m) (sym same) less) in
    subst (λ (x : ℕ). x + m ≤ n * m) same (part-fits m below)

pub length_no-symbols : length no_symbols ≡ 64
unfolding no_symbols
length_no-symbols = refl
