-- What `check_parts` hands to the check of the short word that a coin reads in a column, and what it makes of the answer. Assumes nothing.
use mathlib.Core.Path.{◌≡◌, sym, ap, ◌∙◌, subst, transport}
use mathlib.Core.List.{List}
use Prim.Native.Nat.{ℕ, ◌^◌, ◌≤◌}
use native.Mathlib.Omega.{arith}
use lib.ListN.{length}
use Rattle.field.specs.Symbols.{symbols, symbols-field}
use Rattle.field.specs.declared.Field.{Field}
use Rattle.poly.specs.Codeword.{Basis}
use Rattle.space.specs.Images.{Images}
use Rattle.proximity.specs.Dim.{dim, S}
use Rattle.proximity.specs.LeafTable.{LeafTable, leaf_low}
use Rattle.proximity.specs.Reads.{leaf_small, length_positions}
use Rattle.proximity.specs.Verdict.{leaf_basis_lem}
use Rattle.proximity.specs.Verifier.{leaf_basis}
use Rattle.verifier.specs.Checker.{OnCoin, symbols_at, reads_of}
use Rattle.verifier.specs.OnCoin.{on_leaf}
use Rattle.verifier.specs.Parts.{InSpace}
use Rattle.refusals.specs.declared.Refusal.{Refusal}
use Rattle.std.specs.Prelude.{Result}
use Rattle.verifier.specs.declared.Verdict.{Verdict}
use Rattle.verifier.proofs.Lines.{Claim}

-- a word and its proof, and the table u of the space at which the coin ends, of dimension e
module _ (f : Field) (k : ℕ) (t : List ℕ) (S₀ : InSpace f k t) (w π : List ℕ) (lw : length w ≡ 2 ^ k) (lπ : length π ≡ S k) (coin e : ℕ) (u : List ℕ) (table : LeafTable k t coin e u) where
  small : e ≤ 6
  small = omega (arith, table.dimension, leaf_small (dim k) coin)

  count : 2 ^ e ≡ reads_of k coin
  count = ap (λ (n : ℕ). 2 ^ n) table.dimension ∙ sym (length_positions (dim k) coin)

  last-basis : (b : List ℕ) → Basis (symbols f.modulus) k b → Basis (symbols f.modulus) e (leaf_basis (symbols f.modulus) (dim k) b coin)
  last-basis b B =
      subst (λ (n : ℕ). Basis (symbols f.modulus) n (leaf_basis (symbols f.modulus) (dim k) b coin)) (sym table.dimension)
      (leaf_basis_lem (symbols-field f.modulus S₀.irreducible) (dim k) b coin B)

  last-table : (b : List ℕ) → Basis (symbols f.modulus) k b → Images (symbols f.modulus) b t → Images (symbols f.modulus) (leaf_basis (symbols f.modulus) (dim k) b coin) u
  last-table = table.right f.modulus S₀.irreducible

  last_space : InSpace f e u
  last_space =
      record {
        sized = S₀.sized;
        irreducible = S₀.irreducible;
        low = omega (arith, table.dimension, leaf_low (dim k) coin S₀.low);
        high = omega (arith, small);
        basis = leaf_basis (symbols f.modulus) (dim k) S₀.basis coin;
        right = last-basis S₀.basis S₀.right;
        table = last-table S₀.basis S₀.right S₀.table;
      }

  -- the answer on the symbols that the coin reads is that on the whole
  outer_claim : (v : Result Verdict Refusal) (short ρ : List ℕ) (c : ℕ) → short ≡ symbols_at k w π coin → Claim f e u short ρ c v → Claim f k t w π coin v
  outer_claim v short ρ c es claim b B I =
      on_leaf (symbols f.modulus) k b w π lw lπ coin ρ c v
      (transport (λ i. OnCoin (symbols f.modulus) (table.dimension i) (leaf_basis (symbols f.modulus) (dim k) b coin) (es i) ρ c v)
      (claim (leaf_basis (symbols f.modulus) (dim k) b coin) (last-basis b B) (last-table b B I)))

  -- all of these at once
  pub leaf_facts : (e ≤ 6) × (2 ^ e ≡ reads_of k coin) × InSpace f e u × ((v : Result Verdict Refusal) (short ρ : List ℕ) (c : ℕ) → short ≡ symbols_at k w π coin → Claim f e u short ρ c v → Claim f k t w π coin v)
  leaf_facts = (small, count, last_space, outer_claim)
