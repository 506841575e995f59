-- The verdict at a coin, by the symbols at its positions: they are the values of the polynomial through the first eighth of them, or the least degree of a polynomial through them is an eighth of their number at least.
use Rattle.std.specs.Prelude.{◌≡◌, ◌↔◌, List, map, ℕ, ◌^◌, ◌-◌, ◌≤◌, ◌<◌, length, get_or}
use Rattle.std.proofs.Common.{sym, ◌∙◌, subst}
use Rattle.std.proofs.Math.Path.{transport}
use Rattle.std.proofs.lemmas.List.{length-map}
use Rattle.lists.specs.All.{All}
use Rattle.lists.specs.Tables.{All-tab}
use Rattle.field.specs.Laws.{Ops, IsField}
use Rattle.poly.specs.Poly.{eval}
use Rattle.poly.proofs.Poly.{eval_sym}
use Rattle.poly.specs.Span.{elem}
use Rattle.poly.proofs.Span.{elem_sym}
use Rattle.poly.specs.Codeword.{Basis, word_of, Codeword}
use Rattle.poly.proofs.Codeword.{first, codeword_iff}
use Rattle.poly.specs.LeastDegree.{LeastDegree}
use Rattle.poly.proofs.LeastDegree.{least_exists, least_range}
use Rattle.proximity.specs.Dim.{Dim, leaf, node, size}
use Rattle.proximity.specs.Spaces.{row_basis, col_basis}
use Rattle.proximity.specs.Verifier.{by_line, Accepts, positions, read_at, leaf_dim, leaf_basis}
use Rattle.proximity.specs.Subspaces.{row-basis, col_basis_lem}
use Rattle.proximity.specs.Lines.{line_cases}
use Rattle.proximity.specs.Reads.{reads, length_positions}

module _ {K : Ops} (F : IsField K) where
  open K use {Sym}

  -- The space at which a coin ends has a basis
  pub leaf_basis_lem : {k : ℕ} (d : Dim k) (b : List ℕ) (coin : ℕ) → Basis K k b → Basis K (leaf_dim d coin) (leaf_basis K d b coin)
  leaf_basis_lem (leaf s) b coin B = B
  leaf_basis_lem (node {k = k} s rows cols) b coin B =
      line_cases k coin
      (λ l i. Basis K (by_line l (λ r. leaf_dim rows i) (λ a. leaf_dim cols i)) (by_line l (λ r. leaf_basis K rows (row_basis K k b r) i) (λ a. leaf_basis K cols (col_basis K k b) i)))
      (λ r i h. leaf_basis_lem rows (row_basis K k b r) i (row-basis F k b s B r h))
      (λ a i h. leaf_basis_lem cols (col_basis K k b) i (col_basis_lem F k b s B))

  -- The symbols of a codeword are symbols
  pub codeword_sym : (k : ℕ) (b w : List ℕ) → Basis K k b → Codeword K k b w → All Sym w
  codeword_sym k b w B (p, lp, sp, e) =
      subst (All Sym) (sym e) (All-tab Sym (2 ^ k) (λ i. eval K p (elem K b i)) (λ i h. eval_sym F p (elem K b i) sp (elem_sym F b i B.elements)))

  module _ {k : ℕ} (d : Dim k) (b w π : List ℕ) (B : Basis K k b) (lw : length w ≡ 2 ^ k) (lπ : length π ≡ size d) (coin : ℕ) where
    -- The symbols that the coin reads
    abbrev pub symbols_read : List ℕ
    symbols_read = map (read_at w π) (positions d coin)

    -- What is accepted was read as symbols
    pub accepted_sym : Accepts K d b w π coin → All Sym symbols_read
    accepted_sym a = codeword_sym (leaf_dim d coin) (leaf_basis K d b coin) symbols_read (leaf_basis_lem d b coin B) (transport (reads K d b w π lw lπ coin) a)

    pub verdict : (sy : (i : ℕ) → i < 2 ^ (leaf_dim d coin - 3) → Sym (get_or symbols_read i 0))
        → Accepts K d b w π coin ↔ (symbols_read ≡ word_of K (leaf_dim d coin) (leaf_basis K d b coin) (first F (leaf_dim d coin) (leaf_basis K d b coin) (leaf_basis_lem d b coin B) symbols_read sy).coeffs)
    verdict sy =
        let t = codeword_iff F (leaf_dim d coin) (leaf_basis K d b coin) (leaf_basis_lem d b coin B) symbols_read sy in
        ((λ a. t.0 (transport (reads K d b w π lw lπ coin) a)), λ e. transport (sym (reads K d b w π lw lπ coin)) (t.1 e))

    no_codeword : (Accepts K d b w π coin → ⊥) → Codeword K (leaf_dim d coin) (leaf_basis K d b coin) symbols_read → ⊥
    no_codeword n c = n (transport (sym (reads K d b w π lw lπ coin)) c)

    long : length symbols_read ≡ 2 ^ leaf_dim d coin
    long = length-map (positions d coin) (read_at w π) ∙ length_positions d coin

    -- Symbols that are rejected have a least degree of a polynomial through them
    pub degree_exists : All Sym symbols_read → (Accepts K d b w π coin → ⊥) → (g : ℕ) × LeastDegree K (word_of K (leaf_dim d coin) (leaf_basis K d b coin)) symbols_read g
    degree_exists s n = least_exists F (leaf_dim d coin) (leaf_basis K d b coin) (leaf_basis_lem d b coin B) symbols_read s long (no_codeword n)

    -- It is an eighth of their number at least, and below their number
    pub degree_range : (g : ℕ) → (Accepts K d b w π coin → ⊥) → LeastDegree K (word_of K (leaf_dim d coin) (leaf_basis K d b coin)) symbols_read g → (2 ^ (leaf_dim d coin - 3) ≤ g) × (g ≤ 2 ^ leaf_dim d coin - 1)
    degree_range g n L = let r = least_range F (leaf_dim d coin) (leaf_basis K d b coin) (leaf_basis_lem d b coin B) symbols_read g long L in (r.1.0 (no_codeword n), r.0)
