use mathlib.Core.Path.{◌≡◌, sym, ◌∙◌}
use mathlib.Core.List.{List}
use Prim.Native.Nat.{ℕ, ◌*◌, ◌%◌, ◌^◌, ◌≤◌}
use native.Mathlib.Omega.{arith}
use lib.ListN.{length, take}
use lib.Pow.{pow_mono}
use lib.Seq.{length-take-le}
use Rattle.std.specs.Prelude.{Result}
use Rattle.field.specs.declared.Field.{Field}
use Rattle.refusals.specs.declared.Refusal.{Refusal}
use Rattle.proximity.specs.Dim.{S}
use Rattle.proximity.specs.Tree.{S_leaf}
use Rattle.verifier.specs.Checker.{symbols_at, reads_of}
use Rattle.verifier.specs.Parts.{InSpace}
use Rattle.verifier.specs.declared.Verdict.{Verdict}
use Rattle.verifier.proofs.Leaf.{leaf_facts}
use Rattle.verifier.proofs.Lines.{Claim}
use Rattle.stored.specs.Bytes.{numbers_at}
use Rattle.stored.specs.Packed.{length_numbers}
use Rattle.stored.proofs.Laws.{word_count}
use Rattle.stored.proofs.check.verdict.Goals.{Start, After-leaf_space-t, After-symbols-read}
use Rattle.stored.proofs.check.verdict.Goals as goal

pub leaf_space-t-requires : goal.leaf_space-t-requires
leaf_space-t-requires c = let s = c.before.before.before in (s.requires.0.high, s.requires.0.table.count)

-- the space at which the coin ends
module _ (c : goal.After-leaf_space-t) where
  abbrev start : goal.Start
  start = (goal.at.After-leaf_space-t c).Start

  abbrev f : Field
  f = start.args.f

  abbrev k : ℕ
  k = start.args.s.k

  abbrev coin : ℕ
  coin = start.args.coin

  abbrev w : List ℕ
  w = numbers_at start.args.narrow start.args.file.now start.args.word (2 ^ k)

  abbrev π : List ℕ
  π = numbers_at start.args.narrow start.args.file.now start.args.proof (S k)

  abbrev m : ℕ
  m = c.leaf_space-t.result.k

  abbrev u : List ℕ
  u = c.leaf_space-t.result.images

  leaf : (m ≤ 6) × (2 ^ m ≡ reads_of k coin) × InSpace f m u
      × ((v : Result Verdict Refusal) (short ρ : List ℕ) (i : ℕ) → short ≡ symbols_at k w π coin → Claim f m u short ρ i v → Claim f k start.args.s.images w π coin v)
  leaf =
      leaf_facts f k start.args.s.images start.requires.0 w π (length_numbers start.args.narrow start.args.file.now start.args.word (2 ^ k))
      (length_numbers start.args.narrow start.args.file.now start.args.proof (S k)) coin m u c.leaf_space-t.ensures

  abbrev n : ℕ
  n = 1 * 2 ^ m % 18446744073709551616

  size : n ≡ 2 ^ m
  size = (word_count m (omega (arith, leaf.0))).0

  few : n ≤ 64
  few = omega (arith, size, pow_mono {i = m} {j = 6} leaf.0)

pub overflow_shl-n : goal.overflow_shl-n
overflow_shl-n c = omega (arith, (leaf c).0)

pub symbols-read-requires : goal.symbols-read-requires
symbols-read-requires c = ((start c).requires.1, size c ∙ (leaf c).1)

-- the symbols read
module _ (c : goal.After-symbols-read) where
  abbrev found : goal.After-leaf_space-t
  found = (goal.at.After-symbols-read c).After-leaf_space-t

  short : length (take (n found) c.symbols-read.result) ≡ n found
  short = length-take-le (n found) c.symbols-read.result (omega (arith, few found, c.symbols-read.ensures.0))

pub slice_bounds-read-end : goal.slice_bounds-read-end
slice_bounds-read-end c = omega (arith, few (found c), c.symbols-read.ensures.0)

pub slice_bounds-short-end : goal.slice_bounds-short-end
slice_bounds-short-end c = sym (short (goal.at.slice_bounds-short-end c).After-symbols-read)

pub check_word-requires : goal.check_word-requires
check_word-requires c = let s = (goal.at.check_word-requires c).After-symbols-read in
    let l = leaf (found s) in
    (l.2, short s ∙ size (found s), sym (S_leaf (m (found s)) l.0))

pub returns : goal.returns
returns c = let s = (goal.at.returns c).After-symbols-read in
    (leaf (found s)).3 c.check_word.result (take (n (found s)) s.symbols-read.result) (take 0 (take (n (found s)) s.symbols-read.result)) 0 s.symbols-read.ensures.1 c.check_word.ensures
