use mathlib.Core.Path.{◌≡◌, ap, ◌∙◌, subst}
use Prim.Native.Nat.{ℕ, ◌≤◌, ◌<◌}
use native.Mathlib.Omega.{arith}
use lib.ListN.{length}
use Rattle.lists.specs.Filled.{Filled, filled-front, filled_take}
use Rattle.lists.specs.Tables.{tab}
use Rattle.proximity.specs.Dim.{dim}
use Rattle.proximity.specs.Reads.{few_reads}
use Rattle.verifier.specs.OnCoin.{symbols-table}
use Rattle.stored.proofs.check.symbols.Invariants.{entry}
use Rattle.stored.proofs.check.symbols.Goals.{Start, At-loop-i, After-symbol}
use Rattle.stored.proofs.check.symbols.Goals as goal

-- there is room
module _ (c : goal.After-symbol) where
  abbrev head : goal.At-loop-i
  head = (goal.at.After-symbol c).At-loop-i

  abbrev start : goal.Start
  start = (goal.at.After-symbol c).Start

  inside : head.loop-i.i < 64
  inside = omega (arith, start.requires.1, few_reads (dim start.args.k) start.args.coin)

pub offset_bounds-out-i : goal.offset_bounds-out-i
offset_bounds-out-i c = omega (arith, inside c)

pub bounds-out-i : goal.bounds-out-i
bounds-out-i c = inside c

pub loop-i-preserved : goal.loop-i-preserved
loop-i-preserved c = filled-front c.symbol.result (omega (arith, inside c, (head c).no_symbols-out.ensures)) c.symbol.ensures (head c).loop-i.invariant

pub returns : goal.returns
returns c = let h = (goal.at.returns c).At-loop-i in
    let a = h.args in
    let f = entry a.file.now a.narrow a.word a.proof a.k a.coin in
    let last : h.loop-i.i ≡ a.n = omega arith in
    let filled : Filled 0 a.n f h.no_symbols-out.result h.loop-i.out = subst (λ (i : ℕ). Filled 0 i f h.no_symbols-out.result h.loop-i.out) last h.loop-i.invariant in
    let room : a.n ≤ length h.no_symbols-out.result = omega (arith, h.no_symbols-out.ensures, h.requires.1, few_reads (dim a.k) a.coin) in (
      filled.kept ∙ h.no_symbols-out.ensures,
      filled_take room filled ∙ ap (λ (n : ℕ). tab n f) h.requires.1 ∙ symbols-table a.k _ _ a.coin,
    )
