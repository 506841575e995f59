-- The answer on a word, from that on the line that the coin takes, and at last on a short word. Assumes nothing.
use Rattle.std.specs.Prelude.{◌≡◌, Result, List, [], ◌∷◌, map, ℕ, ◌*◌, ◌^◌, ◌≤◌, length}
use Rattle.std.proofs.Common.{sym, ap, ◌∙◌, subst, arith}
use Rattle.std.proofs.Math.Path.{transport}
use Rattle.std.proofs.lemmas.List.{length-map}
use Rattle.lists.specs.All.{All}
use Rattle.lists.specs.Members.{map_through, map_tab}
use Rattle.lists.specs.Tables.{tab, tab_of, length_tab}
use Rattle.field.specs.Laws.{Ops}
use Rattle.poly.specs.Codeword.{Codeword}
use Rattle.proximity.specs.ByLine.{InRange, line_dim, line_basis, line_word, line_proof, line_place, place_at}
use Rattle.proximity.specs.Dim.{dim, S}
use Rattle.proximity.specs.LeafTable.{leaf_dim_line, leaf_basis_line}
use Rattle.proximity.specs.LineLaws.{accepts_of_line, positions_of_line, line_in_range}
use Rattle.proximity.specs.PlaceLaws.{positions-table}
use Rattle.proximity.specs.Places.{leaf_dim_leaf, leaf_basis_leaf}
use Rattle.proximity.specs.Reads.{Inside, read-row, read_col, positions-inside, leaf_small, length_positions, reads}
use Rattle.proximity.specs.Steps.{accepts_leaf, positions_leaf}
use Rattle.proximity.specs.Tree.{S_node}
use Rattle.proximity.specs.Verifier.{positions, read_at, line_of, bits_left, leaf_dim, leaf_basis}
use Rattle.proximity.specs.declared.Line.{Line}
use Rattle.proximity.specs.declared.Line.TheVariants.{Row, Column}
use Rattle.proximity.specs.declared.Place.{Place}
use Rattle.proximity.specs.declared.Place.TheVariants.{InWord}
use Rattle.verifier.specs.Checker.{symbols_at, reads_of, Judged, OnCoin}
use Rattle.refusals.specs.declared.Refusal.{Refusal}
use Rattle.verifier.specs.declared.Verdict.{Verdict}

-- past checks 1 to 8 the answer hangs on the symbols read, their number, their space and the sentence of acceptance alone
abbrev pub By : Ops → Type 0 → ℕ → ℕ → List ℕ → List ℕ → Result Verdict Refusal → Type 0
By K A n m b xs = Judged ((9, (All K.Sym xs → ⊥)) ∷ []) K A n m b xs

by-same : (K : Ops) {A B : Type 0} {n n' m m' : ℕ} {b b' xs ys : List ℕ} → A ≡ B → n ≡ n' → m ≡ m' → b ≡ b' → xs ≡ ys → (v : Result Verdict Refusal) → By K A n m b xs v → By K B n' m' b' ys v
by-same K ea en em eb ex v = transport (λ i. By K (ea i) (en i) (em i) (eb i) (ex i) v)

-- the symbols that a coin reads, by number
pub symbols-table : (k : ℕ) (w π : List ℕ) (coin : ℕ) → tab (reads_of k coin) (λ (i : ℕ). read_at w π (place_at k coin i)) ≡ symbols_at k w π coin
symbols-table k w π coin = sym (ap (map (read_at w π)) (positions-table k coin) ∙ map_tab (read_at w π) (reads_of k coin) (place_at k coin))

-- what is read of a line is what the coin reads
module _ (k : ℕ) (s : 7 ≤ k) (w π : List ℕ) (lw : length w ≡ 2 ^ k) (lπ : length π ≡ S k) where
  stored : 7 * 2 ^ k ≤ length π
  stored = omega (arith, S_node k s)

  pub read_line : (l : Line) → InRange k l → (p : Place) → Inside (2 ^ line_dim k l) (S (line_dim k l)) p → read_at (line_word k w π l) (line_proof k π l) p ≡ read_at w π (line_place k l p)
  read_line (Row r) h p i = read-row k w π lw stored (S (line_dim k (Row r))) r h p i
  read_line (Column a) h p i = read_col k w π lw stored _ (S (line_dim k (Column a))) a h p i

  module _ (coin : ℕ) (l : Line) (e : line_of k coin ≡ l) where
    in_range : InRange k l
    in_range = subst (InRange k) e (line_in_range k coin)

    symbols_line : symbols_at (line_dim k l) (line_word k w π l) (line_proof k π l) (bits_left k coin) ≡ symbols_at k w π coin
    symbols_line =
        map_through _ (read_at w π) (line_place k l) (positions (dim (line_dim k l)) (bits_left k coin))
        (λ p m. read_line l in_range p (positions-inside (dim (line_dim k l)) (bits_left k coin) p m))
        ∙ ap (map (read_at w π)) (sym (positions_of_line k s coin l e))

    reads_line : reads_of (line_dim k l) (bits_left k coin) ≡ reads_of k coin
    reads_line = sym (ap length (positions_of_line k s coin l e) ∙ length-map (positions (dim (line_dim k l)) (bits_left k coin)) (line_place k l))

    pub on_line : (K : Ops) (b : List ℕ) (v : Result Verdict Refusal) → OnCoin K (line_dim k l) (line_basis K k b l) (line_word k w π l) (line_proof k π l) (bits_left k coin) v → OnCoin K k b w π coin v
    on_line K b v =
        by-same K (sym (accepts_of_line k s K b w π coin l e)) reads_line (sym (leaf_dim_line k coin s l e)) (sym (leaf_basis_line k coin s K b l e)) symbols_line v

-- a short word is read whole
module _ (K : Ops) (k : ℕ) (s : k ≤ 6) (b w π : List ℕ) (lw : length w ≡ 2 ^ k) (coin : ℕ) where
  symbols-short : w ≡ symbols_at k w π coin
  symbols-short = tab_of (2 ^ k) w 0 lw ∙ sym (map_tab (read_at w π) (2 ^ k) InWord) ∙ ap (map (read_at w π)) (sym (positions_leaf k s coin))

  reads_short : 2 ^ k ≡ reads_of k coin
  reads_short = sym (ap length (positions_leaf k s coin) ∙ length_tab (2 ^ k) InWord)

  pub on-short : (v : Result Verdict Refusal) → By K (Codeword K k b w) (2 ^ k) k b w v → OnCoin K k b w π coin v
  on-short = by-same K (sym (accepts_leaf K k b w π s coin)) reads_short (sym (leaf_dim_leaf k coin s)) (sym (leaf_basis_leaf K k coin s b)) symbols-short

-- the symbols that a coin reads are a short word over the space at which it ends
module _ (K : Ops) (k : ℕ) (b w π : List ℕ) (lw : length w ≡ 2 ^ k) (lπ : length π ≡ S k) (coin : ℕ) where
  abbrev m : ℕ
  m = leaf_dim (dim k) coin

  abbrev basis : List ℕ
  basis = leaf_basis K (dim k) b coin

  abbrev read : List ℕ
  read = symbols_at k w π coin

  long : length read ≡ 2 ^ m
  long = length-map (positions (dim k) coin) (read_at w π) ∙ length_positions (dim k) coin

  small : m ≤ 6
  small = leaf_small (dim k) coin

  pub on_leaf : (ρ : List ℕ) (c : ℕ) (v : Result Verdict Refusal) → OnCoin K m basis read ρ c v → OnCoin K k b w π coin v
  on_leaf ρ c =
      by-same K (accepts_leaf K m basis read ρ small c ∙ sym (reads K (dim k) b w π lw lπ coin)) (sym (reads_short K m small basis read ρ long c) ∙ sym (length_positions (dim k) coin))
      (leaf_dim_leaf m c small) (leaf_basis_leaf K m c small basis) (sym (symbols-short K m small basis read ρ long c))
