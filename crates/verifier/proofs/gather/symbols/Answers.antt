use mathlib.Core.Path.{◌≡◌, sym, ap, ◌∙◌, subst}
use mathlib.Core.List.{List}
use Prim.Native.Nat.{ℕ, ◌+◌, ◌*◌, ◌^◌, ◌≤◌, ◌<◌}
use native.Mathlib.Omega.{arith}
use lib.ListN.{length}
use Rattle.lists.specs.Filled.{Filled, filled_none, filled-front, filled_take}
use Rattle.lists.specs.Tables.{tab}
use Rattle.poly.specs.Blocks.{eighths}
use Rattle.proximity.specs.ByLine.{place_at}
use Rattle.proximity.specs.Dim.{half, col_dim, dim}
use Rattle.proximity.specs.PlaceLaws.{place_inside}
use Rattle.proximity.specs.Reads.{few_reads}
use Rattle.proximity.specs.Verifier.{read_at}
use Rattle.proximity.specs.declared.Line.TheVariants.{Column}
use Rattle.verifier.specs.Checker.{reads_of}
use Rattle.verifier.specs.OnCoin.{read_line, symbols-table}
use Rattle.verifier.specs.Parts.{joined}
use Rattle.verifier.proofs.Laws.{length_joined, length_no-symbols}
use Rattle.verifier.proofs.gather.symbols.Invariants.{entry}
use Rattle.verifier.proofs.gather.symbols.Goals.{Start, At-loop-i, In-loop-i}
use Rattle.verifier.proofs.gather.symbols.Goals as goal

pub loop-i-init : goal.loop-i-init
loop-i-init c = (ap length c.no_symbols-out.ensures ∙ length_no-symbols, filled_none 0 _ _)

-- symbol i
module _ (c : goal.In-loop-i) where
  abbrev start : goal.Start
  start = (goal.at.In-loop-i c).Start

  abbrev k : ℕ
  k = start.args.k

  abbrev rest : ℕ
  rest = start.args.rest

  abbrev i : ℕ
  i = c.loop-i.i

  read : i < reads_of (col_dim k) rest
  read = omega (arith, start.requires.4)

  room : i < 64
  room = omega (arith, read, few_reads (dim (col_dim k)) rest)

  abbrev word : List ℕ
  word = joined start.args.near.now start.args.far.now start.args.slot

  long : length word ≡ 2 ^ k
  long =
      length_joined start.args.near.now start.args.far.now start.args.slot start.requires.0.parts
      ∙ ap (λ (x : ℕ). 8 * x) start.requires.0.eighth ∙ sym (eighths k (omega (arith, start.requires.1)))

pub column_place-place-requires : goal.column_place-place-requires
column_place-place-requires c = let p = (start c).requires in
    let column : (start c).args.a < 2 ^ (half (k c) + 2) = p.3 in
    (p.1, p.2, omega arith, omega (arith, read c))

pub symbol_at-requires : goal.symbol_at-requires
symbol_at-requires c = let p = (start (goal.at.symbol_at-requires c).In-loop-i).requires in (p.0, omega (arith, p.1), p.2, c.column_place-place.ensures.1)

pub offset_bounds-out-i : goal.offset_bounds-out-i
offset_bounds-out-i c = omega (arith, room (goal.at.offset_bounds-out-i c).In-loop-i)

pub bounds-out-i : goal.bounds-out-i
bounds-out-i c = room (goal.at.bounds-out-i c).In-loop-i

pub loop-i-preserved : goal.loop-i-preserved
loop-i-preserved c = let h = (goal.at.loop-i-preserved c).In-loop-i in
    let s = start h in
    let v = h.loop-i.invariant in
    let told =
    c.symbol_at.ensures ∙ ap (read_at (word h) s.args.proof.now) c.column_place-place.ensures.0
    ∙ sym (read_line (k h) s.requires.1 (word h) s.args.proof.now (long h) s.requires.0.proof (Column s.args.a) s.requires.3 (place_at (col_dim (k h)) (rest h) (i h)) (place_inside (col_dim (k h)) (rest h) (i h) (read h))) in
    (v.0, filled-front c.symbol_at.result (omega (arith, room h, v.0)) told v.1)

pub returns : goal.returns
returns c = let h = (goal.at.returns c).At-loop-i in
    let s = (goal.at.At-loop-i h).Start in
    let a = s.args in
    let f = entry a.near.now a.far.now a.slot a.proof.now a.k a.a a.rest in
    let last : h.loop-i.i ≡ a.n = omega arith in
    let filled : Filled 0 a.n f h.no_symbols-out.result h.loop-i.out = subst (λ (j : ℕ). Filled 0 j f h.no_symbols-out.result h.loop-i.out) last h.loop-i.invariant.1 in
    let fits : a.n ≤ length h.no_symbols-out.result = omega (arith, h.loop-i.invariant.0, s.requires.4, few_reads (dim (col_dim a.k)) a.rest) in (
      filled.kept ∙ h.loop-i.invariant.0,
      filled_take fits filled ∙ ap (λ (n : ℕ). tab n f) s.requires.4 ∙ symbols-table (col_dim a.k) _ _ a.rest,
    )
