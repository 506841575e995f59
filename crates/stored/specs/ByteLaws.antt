-- A number in bytes and back. Assumes nothing.
use Rattle.std.specs.Prelude.{◌≡◌, List, [], ◌∷◌, ◌++◌, ℕ, ◌+◌, ◌*◌, ◌/◌, ◌%◌, ◌<◌, length, get_or, take, drop}
use Rattle.std.proofs.Common.{sym, ap, ◌∙◌, arith, take-append-drop, get_or-append-add, drop-drop}
use Rattle.std.proofs.Math.Path.{ap₂}
use Rattle.lists.specs.All.{Below, All-append}
use Rattle.stored.specs.Bytes.{two_bytes, four_bytes, two_at, four_at}

-- ---- one number

pub two_back : (x : ℕ) → x < 65536 → x % 256 + 256 * (x / 256 % 256) ≡ x
two_back x h = omega arith

two-low : (x : ℕ) → x % 256 + 256 * (x / 256 % 256) ≡ x % 65536
two-low x = omega arith

pub four_back : (x : ℕ) → x < 4294967296 → x % 256 + 256 * (x / 256 % 256) + 65536 * (x / 65536 % 256 + 256 * (x / 65536 / 256 % 256)) ≡ x
four_back x h =
    let high : x / 65536 < 65536 = omega arith in
    omega (arith, two-low x, two_back (x / 65536) high)

-- the lowest byte, and the rest
low_byte : (a q : ℕ) → a < 256 → ((a + 256 * q) % 256 ≡ a) × ((a + 256 * q) / 256 ≡ q)
low_byte a q h = (omega arith, omega arith)

-- the bytes of a number that was read
pub two_bytes_lem : (a b : ℕ) → a < 256 → b < 256 → two_bytes (a + 256 * b) ≡ a ∷ b ∷ []
two_bytes_lem a b ha hb =
    let l = low_byte a b ha in
    let high : b % 256 ≡ b = omega arith in
    ap₂ (λ (x y : ℕ). x ∷ y ∷ []) l.0 (ap (λ (x : ℕ). x % 256) l.1 ∙ high)

pub four_bytes_lem : (a b c d : ℕ) → a < 256 → b < 256 → c < 256 → d < 256 → four_bytes (a + 256 * b + 65536 * (c + 256 * d)) ≡ a ∷ b ∷ c ∷ d ∷ []
four_bytes_lem a b c d ha hb hc hd =
    let q : ℕ = b + 256 * (c + 256 * d) in
    let same : a + 256 * b + 65536 * (c + 256 * d) ≡ a + 256 * q = omega arith in
    let l = low_byte a q ha in
    let high : (a + 256 * q) / 65536 ≡ c + 256 * d = omega arith in
    ap four_bytes same
    ∙ ap₂ ◌++◌ (ap₂ (λ (x y : ℕ). x ∷ y ∷ []) l.0 (ap (λ (x : ℕ). x % 256) l.1 ∙ (low_byte b (c + 256 * d) hb).0)) (ap two_bytes high ∙ two_bytes_lem c d hc hd)

-- past a list in front
module _ (xs ys : List ℕ) where
  pub get_d_after : (p q : ℕ) → q ≡ length xs + p → get_or (xs ++ ys) q 0 ≡ get_or ys p 0
  get_d_after p q e = ap (λ (t : ℕ). get_or (xs ++ ys) t 0) e ∙ get_or-append-add xs ys p 0

  pub two-after : (p q : ℕ) → q ≡ length xs + p → two_at (xs ++ ys) q ≡ two_at ys p
  unfolding two_at
  two-after p q e = ap₂ (λ (a b : ℕ). a + 256 * b) (get_d_after p q e) (get_d_after (p + 1) (q + 1) (omega arith))

  pub four_after : (p q : ℕ) → q ≡ length xs + p → four_at (xs ++ ys) q ≡ four_at ys p
  unfolding four_at
  four_after p q e = ap₂ (λ (a b : ℕ). a + 65536 * b) (two-after p q e) (two-after (p + 2) (q + 2) (omega arith))

-- a part, and what follows it
pub cut : (f : List ℕ) (p n : ℕ) → drop p f ≡ take n (drop p f) ++ drop (p + n) f
cut f p n = sym (take-append-drop n (drop p f)) ∙ ap (λ (t : List ℕ). take n (drop p f) ++ t) (drop-drop n p f)

-- what is written are bytes
pub two-below : (x : ℕ) → Below 256 (two_bytes x)
two-below x = (omega arith, (omega arith, tt))

pub four_below : (x : ℕ) → Below 256 (four_bytes x)
four_below x = All-append (λ (y : ℕ). y < 256) (two_bytes x) (two_bytes (x / 65536)) (two-below x) (two-below (x / 65536))
