-- The positions of a coin one by one: at k ≤ 6 those of the word, at k ≥ 7 those that the bits left over have at the coin's line. Assumes nothing.
use Rattle.std.specs.Prelude.{◌≡◌, List, ℕ, ◌+◌, ◌^◌, ◌≤◌, ◌<◌, length, get_or}
use Rattle.std.proofs.Common.{ap, ◌∙◌, arith}
use Rattle.std.proofs.lemmas.List.{length-map}
use Rattle.lists.specs.Members.{among_at, get_or_map_in}
use Rattle.lists.specs.Tables.{tab, length_tab, get_or_tab, tab_of}
use Rattle.proximity.specs.Dim.{dim, S}
use Rattle.proximity.specs.declared.Line.{Line}
use Rattle.proximity.specs.declared.Line.TheVariants.{Row, Column}
use Rattle.proximity.specs.declared.Place.{Place}
use Rattle.proximity.specs.declared.Place.TheVariants.{InWord, InProof}
use Rattle.proximity.specs.Verifier.{line_of, bits_left, positions}
use Rattle.proximity.specs.ByLine.{line_dim, proof_at, line_place, place_at}
use Rattle.proximity.specs.Reads.{Inside, positions-inside}
use Rattle.proximity.specs.Steps.{positions_leaf}
use Rattle.proximity.specs.LineLaws.{positions_of_line}

-- The positions are the table of these
pub positions-table : (k coin : ℕ) → positions (dim k) coin ≡ tab (length (positions (dim k) coin)) (place_at k coin)
positions-table k coin = tab_of (length (positions (dim k) coin)) (positions (dim k) coin) (InWord 0) (λ i. length (positions (dim k) coin))

-- Each lies inside the word and the proof
pub place_inside : (k coin i : ℕ) → i < length (positions (dim k) coin) → Inside (2 ^ k) (S k) (place_at k coin i)
place_inside k coin i h = positions-inside (dim k) coin (place_at k coin i) (among_at (positions (dim k) coin) i (InWord 0) h)

-- At k ≤ 6
module _ (k coin : ℕ) (s : k ≤ 6) where
  pub length_leaf : length (positions (dim k) coin) ≡ 2 ^ k
  length_leaf = ap length (positions_leaf k s coin) ∙ length_tab (2 ^ k) InWord

  pub place_leaf : (i : ℕ) → i < length (positions (dim k) coin) → place_at k coin i ≡ InWord i
  place_leaf i h =
      ap (λ (t : List Place). get_or t i (InWord 0)) (positions_leaf k s coin) ∙ get_or_tab (2 ^ k) InWord i (InWord 0) (omega (arith, length_leaf))

-- At k ≥ 7
module _ (k coin : ℕ) (s : 7 ≤ k) (l : Line) (e : line_of k coin ≡ l) where
  abbrev inner : List Place
  inner = positions (dim (line_dim k l)) (bits_left k coin)

  pub length_line : length (positions (dim k) coin) ≡ length inner
  length_line = ap length (positions_of_line k s coin l e) ∙ length-map inner (line_place k l)

  pub place_line : (i : ℕ) → i < length (positions (dim k) coin) → place_at k coin i ≡ line_place k l (place_at (line_dim k l) (bits_left k coin) i)
  place_line i h =
      ap (λ (t : List Place). get_or t i (InWord 0)) (positions_of_line k s coin l e)
      ∙ get_or_map_in (line_place k l) inner i (InWord 0) (InWord 0) (omega (arith, length_line))

-- A place of a line's own proof
pub line_place-proof : (k : ℕ) (l : Line) (i : ℕ) → line_place k l (InProof i) ≡ InProof (proof_at k l + i)
line_place-proof k (Row r) i = ap InProof (omega arith)
line_place-proof k (Column a) i = ap InProof (omega arith)
