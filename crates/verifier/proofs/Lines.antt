-- What `check_parts` hands to the check of a line, and what it makes of the answer. Assumes nothing.
use mathlib.Core.Path.{◌≡◌, sym, ap, ◌∙◌, subst}
use mathlib.Core.List.{List}
use Prim.Native.Nat.{ℕ, ◌*◌, ◌^◌, ◌≤◌, ◌<◌}
use native.Mathlib.Omega.{arith}
use lib.ListN.{length}
use Rattle.field.specs.Laws.{Ops}
use Rattle.field.specs.Symbols.{symbols, symbols-field}
use Rattle.field.specs.declared.Field.{Field}
use Rattle.poly.specs.Codeword.{Basis}
use Rattle.space.specs.Images.{Images}
use Rattle.proximity.specs.ByLine.{InRange, line_dim, line_basis, line_word, line_proof}
use Rattle.proximity.specs.Dim.{S}
use Rattle.proximity.specs.LineImages.{LineTable}
use Rattle.proximity.specs.LineLaws.{line_in_range, line_falls, line_at_least, line_basis_lem, length_line_proof}
use Rattle.proximity.specs.Verifier.{line_of, bits_left}
use Rattle.proximity.specs.declared.Line.{Line}
use Rattle.verifier.specs.Checker.{OnCoin}
use Rattle.verifier.specs.OnCoin.{on_line}
use Rattle.verifier.specs.Parts.{InSpace, Lent, joined}
use Rattle.refusals.specs.declared.Refusal.{Refusal}
use Rattle.std.specs.Prelude.{Result}
use Rattle.verifier.specs.declared.Verdict.{Verdict}
use Rattle.verifier.proofs.Laws.{length_joined}
use Rattle.poly.specs.Blocks.{eighths}

-- the answer on a word, whatever basis the table is of
abbrev pub Claim : Field → ℕ → List ℕ → List ℕ → List ℕ → ℕ → Result Verdict Refusal → Type 0
Claim f k t w π coin v = (b : List ℕ) → Basis (symbols f.modulus) k b → Images (symbols f.modulus) b t → OnCoin (symbols f.modulus) k b w π coin v

module _ (f : Field) (k : ℕ) (t : List ℕ) (near far : List ℕ) (s : ℕ) (π : List ℕ) (coin : ℕ) (S₀ : InSpace f k t) (L : Lent k near far s π) where
  abbrev w : List ℕ
  w = joined near far s

  pub word-long : length w ≡ 2 ^ k
  word-long = length_joined near far s L.parts ∙ ap (λ (n : ℕ). 8 * n) L.eighth ∙ sym (eighths k S₀.low)

  -- at dimension 7 or more, with the line that the coin takes
  module _ (h : 7 ≤ k) (l line : Line) (el : l ≡ line_of k coin) (e : l ≡ line) (m : ℕ) (em : m ≡ line_dim k l) (t' : List ℕ) (T : LineTable k t l t') (ρ : List ℕ) (eρ : ρ ≡ line_proof k π l)
      (rest : ℕ) (er : rest ≡ bits_left k coin) where
    taken : line_of k coin ≡ line
    taken = sym el ∙ e

    in_range : InRange k line
    in_range = subst (InRange k) taken (line_in_range k coin)

    dimension : m ≡ line_dim k line
    dimension = em ∙ ap (line_dim k) e

    dimension_falls : m < k
    dimension_falls = subst (λ (n : ℕ). n < k) (sym dimension) (line_falls k h line)

    right-table : LineTable k t line t'
    right-table = subst (λ (x : Line). LineTable k t x t') e T

    inner-proof : ρ ≡ line_proof k π line
    inner-proof = eρ ∙ ap (line_proof k π) e

    inner-long : length ρ ≡ S m
    inner-long = ap length inner-proof ∙ length_line_proof k h π L.proof line in_range ∙ ap S (sym dimension)

    inner_space : InSpace f m t'
    inner_space =
        subst (λ (n : ℕ). InSpace f n t') (sym dimension)
        (record {
          sized = S₀.sized;
          irreducible = S₀.irreducible;
          low = line_at_least k h line;
          high = omega (arith, line_falls k h line, S₀.high);
          basis = line_basis (symbols f.modulus) k S₀.basis line;
          right = line_basis_lem k h (symbols-field f.modulus S₀.irreducible) S₀.basis S₀.right line in_range;
          table = right-table.right f.modulus S₀.irreducible S₀.basis S₀.right S₀.table;
        })

    -- the answer on the line's word and proof is that on the whole
    outer_claim : (v : Result Verdict Refusal) (u : List ℕ) → u ≡ line_word k w π line → Claim f m t' u ρ rest v → Claim f k t w π coin v
    outer_claim v u eu claim b B I =
        on_line k h w π word-long L.proof coin line taken (symbols f.modulus) b v
        (same (inner (line_basis (symbols f.modulus) k b line) (line_basis_lem k h (symbols-field f.modulus S₀.irreducible) b B line in_range)
        (right-table.right f.modulus S₀.irreducible b B I)))
      where
        K : Ops
        K = symbols f.modulus

        inner : (c : List ℕ) → Basis (symbols f.modulus) (line_dim k line) c → Images (symbols f.modulus) c t' → OnCoin (symbols f.modulus) (line_dim k line) c u ρ rest v
        inner = subst (λ (n : ℕ). Claim f n t' u ρ rest v) dimension claim

        same : OnCoin (symbols f.modulus) (line_dim k line) (line_basis (symbols f.modulus) k b line) u ρ rest v
            → OnCoin (symbols f.modulus) (line_dim k line) (line_basis (symbols f.modulus) k b line) (line_word k w π line) (line_proof k π line) (bits_left k coin) v
        same a =
            subst (λ (n : ℕ). OnCoin (symbols f.modulus) (line_dim k line) (line_basis (symbols f.modulus) k b line) (line_word k w π line) (line_proof k π line) n v) er
            (subst (λ (x : List ℕ). OnCoin (symbols f.modulus) (line_dim k line) (line_basis (symbols f.modulus) k b line) (line_word k w π line) x rest v) inner-proof
            (subst (λ (x : List ℕ). OnCoin (symbols f.modulus) (line_dim k line) (line_basis (symbols f.modulus) k b line) x ρ rest v) eu a))

    -- all of these at once
    pub line_facts : InRange k line × (m ≡ line_dim k line) × (m < k) × (length ρ ≡ S m) × InSpace f m t'
        × ((v : Result Verdict Refusal) (u : List ℕ) → u ≡ line_word k w π line → Claim f m t' u ρ rest v → Claim f k t w π coin v)
    line_facts = (in_range, dimension, dimension_falls, inner-long, inner_space, outer_claim)
