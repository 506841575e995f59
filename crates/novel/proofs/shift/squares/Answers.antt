-- `novel::shift::squares` meets its contract. Assumes nothing.
use mathlib.Core.Path.{◌≡◌, refl, sym, ap, ◌∙◌, subst}
use Prim.Native.Nat.{ℕ, ◌+◌, ◌^◌, ◌<◌}
use native.Mathlib.Numerals.{add-one}
use native.Mathlib.Omega.{arith}
use lib.Pow.{pow_pos}
use Rattle.std.proofs.Common.{take, drop, length}
use Rattle.std.proofs.lemmas.List.{get_or_append_left}
use Rattle.space.specs.Sizes.{max_dim}
use Rattle.lists.specs.All.{Below, All-append, All-replicate, All-drop}
use Rattle.lists.specs.Upto.{upto_none, upto_next, upto_each}
use Rattle.field.specs.Binary.{degree, product}
use Rattle.field.specs.Symbols.{symbols, symbols-field}
use Rattle.novel.specs.Sparse.{squared, table_cells, zero_cells}
use Rattle.novel.proofs.Evaluate.{squared_symbol}
use Rattle.novel.proofs.shift.squares.Goals.{Start, At-loop-square}
use Rattle.novel.proofs.shift.squares.Goals as goal

pub loop-square-init : goal.loop-square-init
unfolding squared zero_cells
loop-square-init c = (refl, rw c.cells-t.ensures (upto_none max_dim _))

-- what is known at the loop's head
module _ (c : goal.At-loop-square) where
  abbrev start : goal.Start
  start = (goal.at.At-loop-square c).Start

  abbrev q : ℕ
  q = start.args.f.modulus

  y-symbol : c.loop-square.y < 2 ^ degree q
  y-symbol = subst (λ (t : ℕ). t < 2 ^ degree q) (sym c.loop-square.invariant.0) (squared_symbol (symbols-field q start.requires.1) start.args.x start.requires.2 c.loop-square.square-index)

pub mul-y-requires : goal.mul-y-requires
mul-y-requires c = let here = (goal.at.mul-y-requires c).At-loop-square in
    let y = y-symbol here in
    let x = (start here).requires.2 in ((start here).requires.0, omega (arith, y, x), omega (arith, y, x))

next-square : (q x y z j : ℕ) → y ≡ squared (symbols q) j x → z ≡ product q y y → z ≡ squared (symbols q) (j + 1) x
unfolding squared
next-square q x y z j e h = h ∙ ap (λ (t : ℕ). product q t t) e ∙ ap (λ (k : ℕ). squared (symbols q) k x) (sym (add-one j))

pub loop-square-preserved : goal.loop-square-preserved
loop-square-preserved c = let here = (goal.at.loop-square-preserved c).At-loop-square in
    let a = (start here).args in
    (next-square a.f.modulus a.x here.loop-square.y c.mul-y.result here.loop-square.square-index here.loop-square.invariant.0 c.mul-y.ensures, upto_next here.loop-square.y (omega arith) here.loop-square.invariant.0 here.loop-square.invariant.1)

pub returns : goal.returns
unfolding zero_cells
returns c = let here = (goal.at.returns c).At-loop-square in
    let s = start here in
    let u = here.loop-square.invariant.1 in
    let n : ℕ = 2 ^ degree (q here) in
    let zero : 0 < n = pow_pos (degree (q here)) in
    let all : length (take max_dim c.cells-t.result) ≡ max_dim = rw c.cells-t.ensures refl in
    let left : Below n c.cells-t.result = subst (Below n) (sym c.cells-t.ensures) (All-replicate (λ (x : ℕ). x < n) table_cells 0 zero) in
    record {
      below = All-append (λ (x : ℕ). x < n) here.loop-square.square-items (drop max_dim c.cells-t.result)
          (upto_each (λ (x : ℕ). x < n) zero (λ i h. squared_symbol (symbols-field (q here) s.requires.1) s.args.x s.requires.2 i) u)
          (All-drop (λ (x : ℕ). x < n) max_dim c.cells-t.result left);
      right = λ i h. get_or_append_left here.loop-square.square-items (drop max_dim c.cells-t.result) 0 i (omega (arith, u.count)) ∙ u.done i (omega arith) h;
    }
