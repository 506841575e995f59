-- Unused bits change nothing: how many bits a coin uses, and that coins alike in these have the same positions and the same verdict.
use Rattle.std.specs.Prelude.{◌≡◌, refl, ◌⊎◌, List, map, ℕ, ◌+◌, ◌^◌, ◌/◌, ◌%◌, ◌≤◌}
use Rattle.std.proofs.Common.{sym, ap, ◌∙◌, subst, inl, inr, add_comm, arith}
use Rattle.std.proofs.Math.Decide.{ℕ_discrete}
use Rattle.std.proofs.Math.Pow.{mod-mod-pow, field}
use Rattle.field.specs.Laws.{Ops}
use Rattle.proximity.specs.Dim.{half, col_dim, Dim, leaf, node, size, coin_bits}
use Rattle.proximity.specs.Proof.{row, column, row_proof, col_proof}
use Rattle.proximity.specs.Spaces.{row_basis, col_basis}
use Rattle.proximity.specs.declared.Line.{Line}
use Rattle.proximity.specs.declared.Line.TheVariants.{Row, Column}
use Rattle.proximity.specs.Verifier.{line_of, bits_left, by_line, positions, row_place, col_place, Accepts, leaf_dim, leaf_basis}
use Rattle.proximity.specs.Lines.{line_cases, even_row, odd_column}

-- The number of bits that a coin uses: none at k ≤ 6; at k ≥ 7 those of the line taken, and those that the bits left over use there
abbrev pub used : {k : ℕ} → Dim k → ℕ → ℕ
used (leaf s) coin = 0
used (node {k = k} s rows cols) coin =
    by_line (line_of k coin) (λ r. 1 + (col_dim k + used rows (bits_left k coin))) (λ a. 1 + (half k + 2 + used cols (bits_left k coin)))

-- The other number has the bits that the coin uses
abbrev pub SameUsed : {k : ℕ} → Dim k → ℕ → ℕ → Type 0
SameUsed d coin other = other % 2 ^ used d coin ≡ coin % 2 ^ used d coin

-- A coin uses no more bits than there are
pub used-within : {k : ℕ} (d : Dim k) (coin : ℕ) → used d coin ≤ coin_bits d
used-within (leaf s) coin = omega arith
used-within (node {k = k} s rows cols) coin =
    line_cases k coin (λ l i. by_line l (λ r. 1 + (col_dim k + used rows i)) (λ a. 1 + (half k + 2 + used cols i)) ≤ coin_bits (node s rows cols))
    (λ r i h. omega (arith, used-within rows i)) (λ a i h. omega (arith, used-within cols i))

-- ---- two numbers alike in their lowest bits

-- in x bits and the u after them
lowest : (n m x u : ℕ) → n % 2 ^ (x + u) ≡ m % 2 ^ (x + u) → (n % 2 ^ x ≡ m % 2 ^ x) × (n / 2 ^ x % 2 ^ u ≡ m / 2 ^ x % 2 ^ u)
lowest n m x u e =
    let f : n % 2 ^ (u + x) ≡ m % 2 ^ (u + x) = subst (λ (t : ℕ). n % 2 ^ t ≡ m % 2 ^ t) (add_comm x u) e in (
      sym (mod-mod-pow n u x) ∙ ap (λ (t : ℕ). t % 2 ^ x) f ∙ mod-mod-pow m u x,
      sym (field n u x) ∙ ap (λ (t : ℕ). t / 2 ^ x) f ∙ field m u x,
    )

-- in the bit that takes a row or a column, the x bits of its number, and u more
record Alike (n m x u : ℕ) : Type 0 where
  bit : n % 2 ≡ m % 2
  number : n / 2 % 2 ^ x ≡ m / 2 % 2 ^ x
  rest : n / 2 / 2 ^ x % 2 ^ u ≡ m / 2 / 2 ^ x % 2 ^ u

alike : (n m x u : ℕ) → n % 2 ^ (1 + (x + u)) ≡ m % 2 ^ (1 + (x + u)) → Alike n m x u
alike n m x u e =
    let a = lowest n m 1 (x + u) e in
    let b = lowest (n / 2) (m / 2) x u a.1 in
    record { bit = a.0; number = b.0; rest = b.1 }

parity : (x : ℕ) → (x % 2 ≡ 0) ⊎ (x % 2 ≡ 1)
parity x = by (ℕ_discrete (x % 2) 0)
  where
    by : Dec (x % 2 ≡ 0) → (x % 2 ≡ 0) ⊎ (x % 2 ≡ 1)
    by (yes e) = inl e
    by (no n) = inr (omega (arith, n))

-- ---- what follows the line and the bits left over alone

module _ {ℓ} {A : Type ℓ} (k coin other : ℕ) (f g : ℕ → ℕ → A) (used_rows used_cols : ℕ → ℕ)
    (rows_alike : (r i : ℕ) → i % 2 ^ used_rows (bits_left k coin) ≡ bits_left k coin % 2 ^ used_rows (bits_left k coin) → f r i ≡ f r (bits_left k coin))
    (cols_alike : (a i : ℕ) → i % 2 ^ used_cols (bits_left k coin) ≡ bits_left k coin % 2 ^ used_cols (bits_left k coin) → g a i ≡ g a (bits_left k coin)) where
  abbrev At : Line → ℕ → A
  At l i = by_line l (λ r. f r i) (λ a. g a i)

  abbrev bits : Line → ℕ
  bits l = by_line l (λ r. 1 + (col_dim k + used_rows (bits_left k coin))) (λ a. 1 + (half k + 2 + used_cols (bits_left k coin)))

  follows : other % 2 ^ bits (line_of k coin) ≡ coin % 2 ^ bits (line_of k coin) → At (line_of k other) (bits_left k other) ≡ At (line_of k coin) (bits_left k coin)
  follows same = by (parity coin)
    where
      same-on : (l : Line) → line_of k coin ≡ l → other % 2 ^ bits l ≡ coin % 2 ^ bits l
      same-on l e = subst (λ (x : Line). other % 2 ^ bits x ≡ coin % 2 ^ bits x) e same

      by : (coin % 2 ≡ 0) ⊎ (coin % 2 ≡ 1) → At (line_of k other) (bits_left k other) ≡ At (line_of k coin) (bits_left k coin)
      by (inl e) =
          let (l, b) = even_row k coin e in
          let a = alike other coin (col_dim k) (used_rows (bits_left k coin)) (same-on _ l) in
          let (l', b') = even_row k other (a.bit ∙ e) in
          ap (λ (x : Line). At x (bits_left k other)) (l' ∙ ap Row a.number)
          ∙ rows_alike _ (bits_left k other) (ap (λ (t : ℕ). t % 2 ^ used_rows (bits_left k coin)) b' ∙ a.rest ∙ ap (λ (t : ℕ). t % 2 ^ used_rows (bits_left k coin)) (sym b))
          ∙ ap (λ (x : Line). At x (bits_left k coin)) (sym l)
      by (inr e) =
          let (l, b) = odd_column k coin e in
          let a = alike other coin (half k + 2) (used_cols (bits_left k coin)) (same-on _ l) in
          let (l', b') = odd_column k other (a.bit ∙ e) in
          ap (λ (x : Line). At x (bits_left k other)) (l' ∙ ap Column a.number)
          ∙ cols_alike _ (bits_left k other) (ap (λ (t : ℕ). t % 2 ^ used_cols (bits_left k coin)) b' ∙ a.rest ∙ ap (λ (t : ℕ). t % 2 ^ used_cols (bits_left k coin)) (sym b))
          ∙ ap (λ (x : Line). At x (bits_left k coin)) (sym l)

-- ---- two coins alike in the used bits

-- Each uses as many bits as the other
used_alike : {k : ℕ} (d : Dim k) (coin other : ℕ) → SameUsed d coin other → used d other ≡ used d coin
used_alike (leaf s) coin other e = refl
used_alike (node {k = k} s rows cols) coin other e =
    follows k coin other (λ r i. 1 + (col_dim k + used rows i)) (λ a i. 1 + (half k + 2 + used cols i)) (used rows) (used cols)
    (λ r i h. ap (λ (n : ℕ). 1 + (col_dim k + n)) (used_alike rows (bits_left k coin) i h)) (λ a i h. ap (λ (n : ℕ). 1 + (half k + 2 + n)) (used_alike cols (bits_left k coin) i h)) e

pub same-used-back : {k : ℕ} (d : Dim k) (coin other : ℕ) → SameUsed d coin other → SameUsed d other coin
same-used-back d coin other e = subst (λ (n : ℕ). coin % 2 ^ n ≡ other % 2 ^ n) (sym (used_alike d coin other e)) (sym e)

-- They have the same positions
pub unused_positions : {k : ℕ} (d : Dim k) (coin other : ℕ) → SameUsed d coin other → positions d other ≡ positions d coin
unused_positions (leaf s) coin other e = refl
unused_positions (node {k = k} s rows cols) coin other e =
    follows k coin other (λ r i. map (row_place k (size rows) r) (positions rows i)) (λ a i. map (col_place k (size rows) (size cols) a) (positions cols i)) (used rows) (used cols)
    (λ r i h. ap (map (row_place k (size rows) r)) (unused_positions rows (bits_left k coin) i h))
    (λ a i h. ap (map (col_place k (size rows) (size cols) a)) (unused_positions cols (bits_left k coin) i h)) e

-- and are accepted alike
pub unused_accepts : (K : Ops) {k : ℕ} (d : Dim k) (b w π : List ℕ) (coin other : ℕ) → SameUsed d coin other → Accepts K d b w π other ≡ Accepts K d b w π coin
unused_accepts K (leaf s) b w π coin other e = refl
unused_accepts K (node {k = k} s rows cols) b w π coin other e =
    follows k coin other (λ r i. Accepts K rows (row_basis K k b r) (row k w π r) (row_proof k (size rows) π r) i)
    (λ a i. Accepts K cols (col_basis K k b) (column k w π a) (col_proof k (size rows) (size cols) π a) i) (used rows) (used cols)
    (λ r i h. unused_accepts K rows (row_basis K k b r) (row k w π r) (row_proof k (size rows) π r) (bits_left k coin) i h)
    (λ a i h. unused_accepts K cols (col_basis K k b) (column k w π a) (col_proof k (size rows) (size cols) π a) (bits_left k coin) i h) e

-- They end in the same space
pub unused_dimension : {k : ℕ} (d : Dim k) (coin other : ℕ) → SameUsed d coin other → leaf_dim d other ≡ leaf_dim d coin
unused_dimension (leaf s) coin other e = refl
unused_dimension (node {k = k} s rows cols) coin other e =
    follows k coin other (λ r i. leaf_dim rows i) (λ a i. leaf_dim cols i) (used rows) (used cols)
    (λ r i h. unused_dimension rows (bits_left k coin) i h) (λ a i h. unused_dimension cols (bits_left k coin) i h) e

pub unused_basis : (K : Ops) {k : ℕ} (d : Dim k) (b : List ℕ) (coin other : ℕ) → SameUsed d coin other → leaf_basis K d b other ≡ leaf_basis K d b coin
unused_basis K (leaf s) b coin other e = refl
unused_basis K (node {k = k} s rows cols) b coin other e =
    follows k coin other (λ r i. leaf_basis K rows (row_basis K k b r) i) (λ a i. leaf_basis K cols (col_basis K k b) i) (used rows) (used cols)
    (λ r i h. unused_basis K rows (row_basis K k b r) (bits_left k coin) i h) (λ a i h. unused_basis K cols (col_basis K k b) (bits_left k coin) i h) e
