use mathlib.Core.Path.{◌≡◌, refl, sym, ap, ◌∙◌, subst}
use mathlib.Core.List.{List, []}
use Prim.Native.Nat.{ℕ, ◌-◌, ◌*◌, ◌%◌, ◌^◌, ◌≤◌, ◌<◌}
use native.Mathlib.Omega.{arith}
use lib.ListN.{length, take}
use lib.Pow.{pow_mono}
use lib.Seq.{length-take-le}
use Rattle.field.specs.Symbols.{symbols}
use Rattle.transform.specs.Slices.{Transposed}
use Rattle.proximity.specs.ByLine.{InRange, line_dim, line_word, line_proof}
use Rattle.proximity.specs.Dim.{row_dim, col_dim, S}
use Rattle.proximity.specs.LineLaws.{line_in_range, length_line_word}
use Rattle.proximity.specs.Proof.{slot}
use Rattle.proximity.specs.Tree.{S_leaf}
use Rattle.proximity.specs.declared.Line.{Line}
use Rattle.proximity.specs.declared.Line.TheVariants.{Row, Column}
use Rattle.verifier.specs.Checker.{symbols_at, reads_of}
use Rattle.verifier.specs.OnCoin.{on-short}
use Rattle.refusals.specs.declared.Refusal.{Refusal}
use Rattle.std.specs.Prelude.{Result}
use Rattle.verifier.specs.declared.Verdict.{Verdict}
use Rattle.verifier.specs.Parts.{InSpace, Lent, joined, no_symbols}
use Rattle.verifier.proofs.Joins.{row-lent, row-joined, plain-lent, plain-joined}
use Rattle.verifier.proofs.Laws.{length_no-symbols, one_shifted}
use Rattle.verifier.proofs.Leaf.{leaf_facts}
use Rattle.verifier.proofs.Lines.{Claim, word-long, line_facts}
use Rattle.verifier.proofs.parts.+check_parts.Goals.{Start, After-line_proof-inner, After-slot, After-leaf_space-s, After-other_blocks-others}
use Rattle.verifier.proofs.parts.+check_parts.Goals as goal

-- what the contract gives at the entry
module _ (t : ℕ) (c : goal.Start t) where
  abbrev near : List ℕ
  near = c.args.near.now

  abbrev far : List ℕ
  far = c.args.far.now

  abbrev proof : List ℕ
  proof = c.args.proof.now

  abbrev space : InSpace c.args.f c.args.k c.args.images.now
  space = c.requires.0

  abbrev lent : Lent c.args.k near far c.args.slot proof
  lent = c.requires.1

  abbrev word : List ℕ
  word = joined near far c.args.slot

  long : length word ≡ 2 ^ c.args.k
  long = word-long c.args.f c.args.k c.args.images.now near far c.args.slot proof c.args.coin space lent

pub gather-requires : goal.gather-requires
gather-requires t c =
    let s = (goal.at.gather-requires t c).Start in
    let small : 2 ^ (s.args.k - 3) ≤ 8 = pow_mono {j = 3} (omega arith) in
    ((lent t s).parts, omega (arith, (lent t s).eighth))

pub short_verdict-requires : goal.short_verdict-requires
short_verdict-requires t c = (space t (goal.at.short_verdict-requires t c).Start, omega arith, c.gather.ensures.kept ∙ length_no-symbols)

pub returns-then-k-le6 : goal.returns-then-k-le6
returns-then-k-le6 t c = λ b B I.
    let s = (goal.at.returns-then-k-le6 t c).Start in
    on-short (symbols s.args.f.modulus) s.args.k (omega arith) b (word t s) (proof t s) (long t s) s.args.coin c.short_verdict.result
    (c.short_verdict.ensures b (word t s) B I (long t s)
    (subst (λ (n : ℕ). Transposed 8 n (word t s) no_symbols c.gather.result) (lent t s).eighth c.gather.ensures))

pub line_images-t-requires : goal.line_images-t-requires
line_images-t-requires t c =
    let s = (goal.at.line_images-t-requires t c).Start in
    (omega arith, (space t s).high, (space t s).table.count)

pub line_proof-inner-requires : goal.line_proof-inner-requires
line_proof-inner-requires t c =
    let s = (goal.at.line_proof-inner-requires t c).Start in
    (omega arith, (space t s).high, (lent t s).proof, subst (InRange s.args.k) (sym c.line_of-line.ensures) (line_in_range s.args.k s.args.coin))

-- after the line's table and proof: the facts that the two arms share
module _ (t : ℕ) (c : goal.After-line_proof-inner t) (line : Line) (e : c.line_of-line.result ≡ line) where
  abbrev start : goal.Start t
  start = (goal.at.After-line_proof-inner t c).Start

  abbrev k : ℕ
  k = start.args.k

  seven : 7 ≤ k
  seven = omega (arith, c.if-k-le6.false)

  facts : InRange k line × (c.line_dimension-m.result ≡ line_dim k line) × (c.line_dimension-m.result < k)
      × (length c.line_proof-inner.result.now ≡ S c.line_dimension-m.result) × InSpace start.args.f c.line_dimension-m.result c.line_images-t.result
      × ((v : Result Verdict Refusal) (u : List ℕ) → u ≡ line_word k (word t start) (proof t start) line
      → Claim start.args.f c.line_dimension-m.result c.line_images-t.result u c.line_proof-inner.result.now c.rest_of-rest.result v
      → Claim start.args.f k start.args.images.now (word t start) (proof t start) start.args.coin v)
  facts =
      line_facts start.args.f k start.args.images.now (near t start) (far t start) start.args.slot (proof t start) start.args.coin (space t start) (lent t start) seven
      c.line_of-line.result line c.line_of-line.ensures e c.line_dimension-m.result c.line_dimension-m.ensures
      c.line_images-t.result c.line_images-t.ensures c.line_proof-inner.result.now c.line_proof-inner.ensures c.rest_of-rest.result
      c.rest_of-rest.ensures

  falls_below : c.line_dimension-m.result < t
  falls_below = omega (arith, facts.2, start.decreases)

pub row_near-requires : goal.row_near-requires
row_near-requires t c =
    let p = (goal.at.row_near-requires t c).After-line_proof-inner in
    let s = start t p _ c.in-Row.is in
    ((lent t s).parts, (lent t s).eighth, seven t p _ c.in-Row.is, (space t s).high, (facts t p _ c.in-Row.is).0)

pub row_far-requires : goal.row_far-requires
row_far-requires t c =
    let p = (goal.at.row_far-requires t c).After-line_proof-inner in
    let e = c.in-Row.is in
    let s = start t p _ e in
    (seven t p _ e, (space t s).high, (lent t s).proof, (facts t p _ e).0)

-- the row arm: the row's word is in two parts
module _ (t : ℕ) (c : goal.After-slot t) where
  abbrev lines : goal.After-line_proof-inner t
  lines = (goal.at.After-slot t c).After-line_proof-inner

  abbrev row_number : ℕ
  row_number = c.in-Row.r

  row-taken : lines.line_of-line.result ≡ Row row_number
  row-taken = c.in-Row.is

  abbrev entry : goal.Start t
  entry = start t lines (Row row_number) row-taken

  row-parts : (ρ : List ℕ) → length ρ ≡ S (row_dim entry.args.k) → Lent (row_dim entry.args.k) c.row_near.result.now c.row_far.result.now (slot row_number) ρ
  row-parts =
      row-lent entry.args.k (seven t lines (Row row_number) row-taken) (word t entry) (proof t entry) (long t entry) (lent t entry).proof row_number (facts t lines (Row row_number) row-taken).0
      c.row_near.result.now c.row_far.result.now c.row_near.ensures c.row_far.ensures

  row_word : joined c.row_near.result.now c.row_far.result.now c.slot.result ≡ line_word entry.args.k (word t entry) (proof t entry) (Row row_number)
  row_word =
      ap (joined c.row_near.result.now c.row_far.result.now) c.slot.ensures
      ∙ row-joined entry.args.k (seven t lines (Row row_number) row-taken) (word t entry) (proof t entry) (long t entry) (lent t entry).proof row_number (facts t lines (Row row_number) row-taken).0
      c.row_near.result.now c.row_far.result.now c.row_near.ensures c.row_far.ensures

pub check_parts-requires : goal.check_parts-requires
check_parts-requires t c =
    let s = (goal.at.check_parts-requires t c).After-slot in
    let p = lines t s in
    let e = row-taken t s in
    let d = (facts t p _ e).1 in (
      falls_below t p _ e,
      (
        (facts t p _ e).4,
        subst (λ (i : ℕ). Lent p.line_dimension-m.result c.row_near.result.now c.row_far.result.now i p.line_proof-inner.result.now) (sym c.slot.ensures)
            (subst (λ (n : ℕ). Lent n c.row_near.result.now c.row_far.result.now (slot (row_number t s)) p.line_proof-inner.result.now) (sym d)
            (row-parts t s p.line_proof-inner.result.now ((facts t p _ e).3 ∙ ap S d))),
      ),
    )

pub leaf_space-s-requires : goal.leaf_space-s-requires
leaf_space-s-requires t c =
    let s = (facts t (goal.at.leaf_space-s-requires t c).After-line_proof-inner _ c.in-Column.is).4 in (s.high, s.table.count)

-- the column arm: what is left is the short word of the symbols that the coin reads
module _ (t : ℕ) (c : goal.After-leaf_space-s t) where
  abbrev lines2 : goal.After-line_proof-inner t
  lines2 = (goal.at.After-leaf_space-s t c).After-line_proof-inner

  abbrev column-number : ℕ
  column-number = c.in-Column.a

  column-taken : lines2.line_of-line.result ≡ Column column-number
  column-taken = c.in-Column.is

  abbrev entry2 : goal.Start t
  entry2 = start t lines2 (Column column-number) column-taken

  abbrev m : ℕ
  m = lines2.line_dimension-m.result

  abbrev rest : ℕ
  rest = lines2.rest_of-rest.result

  abbrev column-word : List ℕ
  column-word = line_word entry2.args.k (word t entry2) (proof t entry2) (Column column-number)

  abbrev column-proof : List ℕ
  column-proof = line_proof entry2.args.k (proof t entry2) (Column column-number)

  -- the column's facts, its dimension and its proof
  dimension : m ≡ col_dim entry2.args.k
  dimension = (facts t lines2 _ column-taken).1

  inner : lines2.line_proof-inner.result.now ≡ column-proof
  inner = lines2.line_proof-inner.ensures ∙ ap (line_proof entry2.args.k (proof t entry2)) column-taken

  abbrev e : ℕ
  e = c.leaf_space-s.result.k

  abbrev u : List ℕ
  u = c.leaf_space-s.result.images

  abbrev n : ℕ
  n = 1 * 2 ^ e % 18446744073709551616

  leaf : (e ≤ 6) × (2 ^ e ≡ reads_of m rest) × InSpace entry2.args.f e u
      × ((v : Result Verdict Refusal) (short ρ : List ℕ) (i : ℕ) → short ≡ symbols_at m column-word column-proof rest → Claim entry2.args.f e u short ρ i v
      → Claim entry2.args.f m lines2.line_images-t.result column-word column-proof rest v)
  leaf =
      leaf_facts entry2.args.f m lines2.line_images-t.result (facts t lines2 _ column-taken).4 column-word column-proof
      (length_line_word entry2.args.k (seven t lines2 _ column-taken) (proof t entry2) (lent t entry2).proof (word t entry2) (long t entry2) (Column column-number) (facts t lines2 _ column-taken).0
      ∙ ap (λ (i : ℕ). 2 ^ i) (sym dimension))
      (ap length (sym inner) ∙ (facts t lines2 _ column-taken).3) rest e u c.leaf_space-s.ensures

  size : n ≡ 2 ^ e
  size = one_shifted e (omega (arith, leaf.0))

  few : n ≤ 64
  few = omega (arith, size, pow_mono {i = e} {j = 6} leaf.0)

pub overflow_shl-n : goal.overflow_shl-n
overflow_shl-n t c = omega (arith, (leaf t c).0)

pub symbols-read-requires : goal.symbols-read-requires
symbols-read-requires t c =
    let l = (goal.at.symbols-read-requires t c).After-leaf_space-s in
    let p = lines2 t l in
    let s = entry2 t l in
    (lent t s, seven t p _ (column-taken t l), (space t s).high, (facts t p _ (column-taken t l)).0, size t l ∙ (leaf t l).1 ∙ ap (λ (i : ℕ). reads_of i (rest t l)) (dimension t l))

pub slice_bounds-read-end : goal.slice_bounds-read-end
slice_bounds-read-end t c = omega (arith, few t (goal.at.slice_bounds-read-end t c).After-leaf_space-s, c.symbols-read.ensures.0)

pub slice_bounds-short-end : goal.slice_bounds-short-end
slice_bounds-short-end t c =
    let l = (goal.at.slice_bounds-short-end t c).After-leaf_space-s in
    sym (length-take-le (n t l) c.symbols-read.result (omega (arith, few t l, c.symbols-read.ensures.0)))

-- the short word
module _ (t : ℕ) (c : goal.After-other_blocks-others t) where
  abbrev last : goal.After-leaf_space-s t
  last = (goal.at.After-other_blocks-others t c).After-leaf_space-s

  abbrev gathered : List ℕ
  gathered = c.symbols-read.result

  abbrev short : List ℕ
  short = take (n t last) gathered

  short-long : length short ≡ 2 ^ e t last
  short-long = length-take-le (n t last) gathered (omega (arith, few t last, c.symbols-read.ensures.0)) ∙ size t last

  short-word : joined c.first_block-first.result.now c.other_blocks-others.result.now 0 ≡ symbols_at (m t last) (column-word t last) (column-proof t last) (rest t last)
  short-word =
      plain-joined (e t last) (leaf t last).2.low short short-long c.first_block-first.result.now c.other_blocks-others.result.now c.first_block-first.ensures c.other_blocks-others.ensures
      ∙ c.symbols-read.ensures.1 ∙ ap (λ (i : ℕ). symbols_at i (column-word t last) (column-proof t last) (rest t last)) (sym (dimension t last))

pub check_parts-requires-in-Column : goal.check_parts-requires-in-Column
check_parts-requires-in-Column t c =
    let s = (goal.at.check_parts-requires-in-Column t c).After-other_blocks-others in
    let l = last t s in (
      omega (arith, (leaf t l).0, seven t (lines2 t l) _ (column-taken t l), (entry2 t l).decreases),
      (
        (leaf t l).2,
        plain-lent (e t l) (leaf t l).2.low (short t s) (short-long t s) c.first_block-first.result.now c.other_blocks-others.result.now c.first_block-first.ensures c.other_blocks-others.ensures []
            (sym (S_leaf (e t l) (leaf t l).0)),
      ),
    )

pub returns-in-Row : goal.returns-in-Row
returns-in-Row t c =
    let s = (goal.at.returns-in-Row t c).After-slot in
    (facts t (lines t s) _ (row-taken t s)).5 c.check_parts.result _ (row_word t s) c.check_parts.ensures

pub returns-in-Column : goal.returns-in-Column
returns-in-Column t c =
    let s = (goal.at.returns-in-Column t c).After-other_blocks-others in
    let l = last t s in
    let p = lines2 t l in
    let v = c.check_parts-in-Column.result in
    let claim : Claim (entry2 t l).args.f (m t l) p.line_images-t.result (column-word t l) (column-proof t l) (rest t l) v = (leaf t l).3 v (joined c.first_block-first.result.now c.other_blocks-others.result.now 0) [] 0 (short-word t s) c.check_parts-in-Column.ensures in
    (facts t p _ (column-taken t l)).5 v (column-word t l) refl
    (subst (λ (ρ : List ℕ). Claim (entry2 t l).args.f (m t l) p.line_images-t.result (column-word t l) ρ (rest t l) v) (sym (inner t l)) claim)
