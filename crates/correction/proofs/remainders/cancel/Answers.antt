use mathlib.Core.Path.{sym, ap, ◌∙◌, subst}
use mathlib.Core.List.{List}
use Prim.Native.Nat.{ℕ, ◌+◌, ◌<◌, ◌^◌}
use native.Mathlib.Omega.{arith}
use lib.ListN.{get_or}
use lib.Pow.{pow_pos}
use Rattle.lists.specs.All.{All-at}
use Rattle.field.specs.Binary.{degree}
use Rattle.field.specs.Laws.{IsField}
use Rattle.field.specs.Symbols.{symbols, symbols-field}
use Rattle.correction.proofs.PairLaws.{target_inside, source-inside, rows_apart, factors-apart, cancel_zero}
use Rattle.correction.proofs.remainders.cancel.Goals.{Start, After-mul-c}
use Rattle.correction.proofs.remainders.cancel.Goals as goal

module _ (s : goal.Start) where
  abbrev q : ℕ
  q = s.args.f.modulus

  abbrev work : List ℕ
  work = s.args.work.now

  abbrev x : ℕ
  x = get_or work (s.args.to + s.args.j) 0

  abbrev y : ℕ
  y = get_or work (s.args.from + s.args.i) 0

  F : IsField (symbols q)
  F = symbols-field q s.requires.irreducible

  symbol : (p : ℕ) → get_or work p 0 < 2 ^ degree q
  symbol p = All-at (λ (x : ℕ). x < 2 ^ degree q) work 0 s.requires.below (pow_pos (degree q)) p

pub overflow_add-x : goal.overflow_add-x
overflow_add-x c = omega (arith, target_inside c.requires)

pub offset_bounds-work-to : goal.offset_bounds-work-to
offset_bounds-work-to c = omega (arith, target_inside c.requires)

pub bounds-work-to : goal.bounds-work-to
bounds-work-to c = target_inside c.requires

pub overflow_add-y : goal.overflow_add-y
overflow_add-y c = omega (arith, source-inside c.requires)

pub offset_bounds-work-from : goal.offset_bounds-work-from
offset_bounds-work-from c = omega (arith, source-inside c.requires)

pub bounds-work-from : goal.bounds-work-from
bounds-work-from c = source-inside c.requires

pub inverse-requires : goal.inverse-requires
inverse-requires c = let s = (goal.at.inverse-requires c).Start in
    record { sized = (s.requires.sized, s.requires.irreducible); x_nonzero = (omega (arith, s.requires.lead), symbol s (s.args.from + s.args.i)) }

pub mul-c-requires : goal.mul-c-requires
mul-c-requires c = let s = (goal.at.mul-c-requires c).Start in
    (s.requires.sized, symbol s (s.args.to + s.args.j), subst (λ (t : ℕ). t < 2 ^ degree (q s)) (sym c.inverse.ensures) ((F s).sym_inv (symbol s (s.args.from + s.args.i))))

pub overflow_add-to : goal.overflow_add-to
overflow_add-to c = let s = (goal.at.overflow_add-to c).Start in omega (arith, target_inside s.requires)

module _ (c : goal.After-mul-c) where
  abbrev start : goal.Start
  start = (goal.at.After-mul-c c).Start

  factor-symbol : c.mul-c.result < 2 ^ degree (q start)
  factor-symbol =
      subst (λ (t : ℕ). t < 2 ^ degree (q start)) (sym (c.mul-c.ensures ∙ ap ((symbols (q start)).◌⊗◌ (x start)) c.inverse.ensures))
      ((F start).sym_prod (symbol start (start.args.to + start.args.j)) ((F start).sym_inv (symbol start (start.args.from + start.args.i))))

pub add_pair-requires : goal.add_pair-requires
add_pair-requires c = let a = (goal.at.add_pair-requires c).After-mul-c in
    let s = start a in
    record { sized = (s.requires.sized, s.requires.irreducible, factor-symbol a, s.requires.below); apart = (rows_apart s.requires, factors-apart s.requires) }

pub returns : goal.returns
returns c = let a = (goal.at.returns c).After-mul-c in
    let s = start a in
    record {
      factor = a.mul-c.result;
      symbol = factor-symbol a;
      zero =
          cancel_zero (F s) (x s) (y s) a.inverse.result a.mul-c.result (symbol s (s.args.to + s.args.j)) (symbol s (s.args.from + s.args.i)) s.requires.lead
          a.inverse.ensures a.mul-c.ensures;
      added = c.add_pair.ensures;
    }
