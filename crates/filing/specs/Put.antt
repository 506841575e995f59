-- Bytes written one after the other into a list. Assumes nothing.
use Rattle.std.specs.Prelude.{◌≡◌, refl, Bool, true, false, List, [], ◌∷◌, ◌++◌, ℕ, ◌+◌, ◌*◌, ◌/◌, ◌%◌, ◌≤◌, ◌<◌, length, take, get_or, set}
use Rattle.std.proofs.Common.{sym, ap, ap₂, ◌∙◌, subst, append_assoc, append-nil, add-one, arith, length-append, length-set, take-suc, take-suc-set, take_all, length-take-le}
use Rattle.std.proofs.Math.Pow.{mod-mod-pow, field}
use Rattle.stored.specs.Bytes.{two_bytes, pairs, packed, packed_size}
use Rattle.stored.specs.Packed.{number_top, length_packed}

-- the bytes stand at p, after what stood before p; nothing is said of what follows them
pub record Put (p : ℕ) (bytes old new : List ℕ) : Type 0 where
  pub kept : length new ≡ length old
  pub front : take (p + length bytes) new ≡ take p old ++ bytes

pub put-none : (p : ℕ) (xs : List ℕ) → Put p [] xs xs
put-none p xs = record { kept = refl; front = ap (λ (n : ℕ). take n xs) {x = p + 0} {y = p} (omega arith) ∙ sym (append-nil (take p xs)) }

pub put_byte : (p x : ℕ) (xs : List ℕ) → p < length xs → Put p (x ∷ []) xs (set xs p x)
put_byte p x xs h = record { kept = length-set xs p x; front = ap (λ (n : ℕ). take n (set xs p x)) (add-one p) ∙ take-suc-set xs p x h }

pub put_then : {p q : ℕ} {xs ys old mid new : List ℕ} → q ≡ p + length xs → Put p xs old mid → Put q ys mid new → Put p (xs ++ ys) old new
put_then {p} {q} {xs} {ys} {old} {mid} {new} e a b =
    record {
      kept = b.kept ∙ a.kept;
      front =
          ap (λ (n : ℕ). take n new) {x = p + length (xs ++ ys)} {y = q + length ys} (omega (arith, length-append xs ys))
          ∙ b.front ∙ ap (λ (t : List ℕ). t ++ ys) (ap (λ (n : ℕ). take n mid) e ∙ a.front) ∙ append_assoc (take p old) xs ys;
    }

-- two bytes
pub put_both : (p x y : ℕ) (xs : List ℕ) → p + 2 ≤ length xs → Put p (x ∷ y ∷ []) xs (set (set xs p x) (p + 1) y)
put_both p x y xs h =
    put_then {xs = x ∷ []} {ys = y ∷ []} refl (put_byte p x xs (omega arith)) (put_byte (p + 1) y (set xs p x) (omega (arith, length-set xs p x)))

-- the same bytes
pub put_same : {p : ℕ} {xs ys old new : List ℕ} → xs ≡ ys → Put p xs old new → Put p ys old new
put_same {p} {xs} {ys} {old} {new} e a = subst (λ (l : List ℕ). Put p l old new) e a

-- a list that is written whole
pub put_whole : {bytes old new : List ℕ} → length old ≡ length bytes → Put 0 bytes old new → new ≡ bytes
put_whole {bytes} {old} {new} e p =
    sym (take_all (0 + length bytes) new (omega (arith, p.kept))) ∙ p.front

-- a number's two halves
pub low_half : (x : ℕ) → two_bytes (x % 65536) ≡ two_bytes x
low_half x =
    let once : x / 256 % 256 % 256 ≡ x / 256 % 256 = omega arith in
    ap₂ (λ (a b : ℕ). a ∷ b ∷ []) (mod-mod-pow x 8 8) (ap (λ (y : ℕ). y % 256) (field x 8 8) ∙ once)

-- ---- numbers, one byte each or two

pub put_narrow : (t : Bool) (x at i : ℕ) (old : List ℕ) → t ≡ true → at + packed_size t (i + 1) ≤ length old → x < number_top t → Put (at + packed_size t i) (packed t (x ∷ [])) old (set old (at + i) (x % 256))
put_narrow t x at i old e h l =
    let fits : at + (i + 1) ≤ length old = subst (λ (u : Bool). at + packed_size u (i + 1) ≤ length old) e h in
    let byte : x < 256 = subst (λ (u : Bool). x < number_top u) e l in
    let same : x % 256 ≡ x = omega arith in
    subst (λ (u : Bool). Put (at + packed_size u i) (packed u (x ∷ [])) old (set old (at + i) (x % 256))) (sym e)
    (put_same (ap (λ (y : ℕ). y ∷ []) same) (put_byte (at + i) (x % 256) old (omega arith)))

pub put-wide : (t : Bool) (x at i : ℕ) (old new : List ℕ) → t ≡ false → Put (at + 2 * i) (two_bytes x) old new → Put (at + packed_size t i) (packed t (x ∷ [])) old new
put-wide t x at i old new e p = subst (λ (u : Bool). Put (at + packed_size u i) (packed u (x ∷ [])) old new) (sym e) p

pairs_append : (xs ys : List ℕ) → pairs (xs ++ ys) ≡ pairs xs ++ pairs ys
pairs_append [] ys = refl
pairs_append (x ∷ xs) ys = ap (λ (t : List ℕ). two_bytes x ++ t) (pairs_append xs ys)

packed_append : (t : Bool) (xs ys : List ℕ) → packed t (xs ++ ys) ≡ packed t xs ++ packed t ys
packed_append true xs ys = refl
packed_append false xs ys = pairs_append xs ys

-- one number more of a list
pub put_next : (t : Bool) {at i : ℕ} {old mid new : List ℕ} (xs : List ℕ) → i < length xs → Put at (packed t (take i xs)) old mid → Put (at + packed_size t i) (packed t (get_or xs i 0 ∷ [])) mid new
    → Put at (packed t (take (i + 1) xs)) old new
put_next t {at} {i} xs h a b =
    let front : length (take i xs) ≡ i = length-take-le i xs (omega arith) in
    put_same (sym (packed_append t (take i xs) (get_or xs i 0 ∷ [])) ∙ ap (packed t) (sym (ap (λ (n : ℕ). take n xs) (add-one i) ∙ take-suc xs i 0 h)))
    (put_then (ap (λ (n : ℕ). at + n) (ap (packed_size t) (sym front) ∙ sym (length_packed t (take i xs)))) a b)

pub put-nothing : (t : Bool) (p : ℕ) (xs old : List ℕ) → Put p (packed t (take 0 xs)) old old
put-nothing true p xs old = put-none p old
put-nothing false p xs old = put-none p old

-- all numbers of a list
pub put_all : (t : Bool) {at i : ℕ} {old new : List ℕ} (xs : List ℕ) → i ≡ length xs → Put at (packed t (take i xs)) old new → Put at (packed t xs) old new
put_all t {at} {i} xs e a = put_same (ap (packed t) (take_all i xs (omega arith))) a
