-- The line that a coin takes: it is a row or a column of the space, and each is taken by some coin.
use Rattle.std.specs.Prelude.{◌≡◌, Bool, true, false, ℕ, ◌+◌, ◌*◌, ◌^◌, ◌/◌, ◌%◌, ◌≤◌, ◌<◌, eqb}
use Rattle.std.proofs.Common.{ap, ◌∙◌, mod-lt, arith, eq-eqb, ne_eqb, pow-add, pow_pos, pow_mono}
use Rattle.std.proofs.Math.Arith.{digits_lt, digits_div, digits_mod}
use Rattle.lists.specs.Pick.{pick, pick_true, pick_false}
use Rattle.proximity.specs.Dim.{half, col_dim}
use Rattle.proximity.specs.declared.Line.{Line}
use Rattle.proximity.specs.declared.Line.TheVariants.{Row, Column}
use Rattle.proximity.specs.Verifier.{line_of, bits_left}

-- What holds of each row and each column with any bits left over holds of what a coin takes
pub line_cases {ℓ} : (k coin : ℕ) (T : Line → ℕ → Type ℓ)
    → ((r i : ℕ) → r < 2 ^ col_dim k → T (Row r) i) → ((a i : ℕ) → a < 2 ^ (half k + 2) → T (Column a) i) → T (line_of k coin) (bits_left k coin)
unfolding pick line_of bits_left
line_cases k coin T f g = by (eqb (coin % 2) 0)
  where
    by : (t : Bool) → T (pick t (Row (coin / 2 % 2 ^ col_dim k)) (Column (coin / 2 % 2 ^ (half k + 2)))) (pick t (coin / 2 / 2 ^ col_dim k) (coin / 2 / 2 ^ (half k + 2)))
    by true = f _ _ (mod-lt (coin / 2) (pow_pos (col_dim k)))
    by false = g _ _ (mod-lt (coin / 2) (pow_pos (half k + 2)))

-- An even coin takes a row, an odd one a column
pub even_row : (k coin : ℕ) → coin % 2 ≡ 0 → (line_of k coin ≡ Row (coin / 2 % 2 ^ col_dim k)) × (bits_left k coin ≡ coin / 2 / 2 ^ col_dim k)
unfolding line_of bits_left
even_row k coin e = (pick_true _ _ (eq-eqb (coin % 2) 0 e), pick_true _ _ (eq-eqb (coin % 2) 0 e))

pub odd_column : (k coin : ℕ) → coin % 2 ≡ 1 → (line_of k coin ≡ Column (coin / 2 % 2 ^ (half k + 2))) × (bits_left k coin ≡ coin / 2 / 2 ^ (half k + 2))
unfolding line_of bits_left
odd_column k coin e = (pick_false _ _ (ne_eqb (coin % 2) 0 (λ z. omega arith)), pick_false _ _ (ne_eqb (coin % 2) 0 (λ z. omega arith)))

-- The coin that takes row r and leaves the bits of i, and the one that takes column a
abbrev pub row_coin : ℕ → ℕ → ℕ → ℕ
row_coin k r i = 2 * (i * 2 ^ col_dim k + r)

abbrev pub col_coin : ℕ → ℕ → ℕ → ℕ
col_coin k a i = 2 * (i * 2 ^ (half k + 2) + a) + 1

pub row-taken : (k r i : ℕ) → r < 2 ^ col_dim k → (line_of k (row_coin k r i) ≡ Row r) × (bits_left k (row_coin k r i) ≡ i)
row-taken k r i h =
    let e = even_row k (row_coin k r i) (omega arith) in
    let v : row_coin k r i / 2 ≡ i * 2 ^ col_dim k + r = omega arith in (
      e.0 ∙ ap Row (ap (λ (x : ℕ). x % 2 ^ col_dim k) v ∙ digits_mod i h),
      e.1 ∙ ap (λ (x : ℕ). x / 2 ^ col_dim k) v ∙ digits_div i h,
    )

pub column-taken : (k a i : ℕ) → a < 2 ^ (half k + 2) → (line_of k (col_coin k a i) ≡ Column a) × (bits_left k (col_coin k a i) ≡ i)
column-taken k a i h =
    let e = odd_column k (col_coin k a i) (omega arith) in
    let v : col_coin k a i / 2 ≡ i * 2 ^ (half k + 2) + a = omega arith in (
      e.0 ∙ ap Column (ap (λ (x : ℕ). x % 2 ^ (half k + 2)) v ∙ digits_mod i h),
      e.1 ∙ ap (λ (x : ℕ). x / 2 ^ (half k + 2)) v ∙ digits_div i h,
    )

-- They are coins: with x bits for the line and y for the rest, of n in all
coin_lt : (n x y : ℕ) {i r : ℕ} → r < 2 ^ x → i < 2 ^ y → x + y ≤ n → 2 * (i * 2 ^ x + r) + 1 < 2 ^ (1 + n)
coin_lt n x y hr hi h =
    omega (arith, digits_lt hi hr, pow-add 2 y x, pow_mono {i = y + x} {j = n} (omega arith), pow-add 2 1 n)

pub row_coin-lt : (k n y : ℕ) {r i : ℕ} → r < 2 ^ col_dim k → i < 2 ^ y → col_dim k + y ≤ n → row_coin k r i < 2 ^ (1 + n)
row_coin-lt k n y hr hi h = omega (arith, coin_lt n (col_dim k) y hr hi h)

pub col_coin-lt : (k n y : ℕ) {a i : ℕ} → a < 2 ^ (half k + 2) → i < 2 ^ y → half k + 2 + y ≤ n → col_coin k a i < 2 ^ (1 + n)
col_coin-lt k n y ha hi h = coin_lt n (half k + 2) y ha hi h
