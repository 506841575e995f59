use mathlib.Core.Path.{◌≡◌, sym, ap, ap₂, ◌∙◌, subst}
use mathlib.Core.List.{List}
use Prim.Native.Nat.{ℕ, ◌+◌, ◌-◌, ◌*◌, ◌/◌, ◌%◌, ◌^◌, ◌≤◌}
use native.Mathlib.Nat.{div-lt_iff_lt-mul}
use native.Mathlib.Omega.{arith}
use lib.ListN.{length, take, drop}
use lib.Pow.{pow_pos, pow_mono}
use Rattle.lists.specs.Tables.{part, length_part, part-fits}
use Rattle.verifier.specs.Parts.{joined}
use Rattle.verifier.proofs.Laws.{length_joined, stretch-part, one_shifted}
use Rattle.verifier.proofs.blocks.stretch.Goals.{Start, After-block-b}
use Rattle.verifier.proofs.blocks.stretch.Goals as goal

pub block-b-requires : goal.block-b-requires
block-b-requires c = let start = (goal.at.block-b-requires c).Start in
    (start.requires.in_parts.0, (div-lt_iff_lt-mul (pow_pos start.args.e)).1 start.requires.at_bound.0)

-- the offset in the block
module _ (c : goal.After-block-b) where
  abbrev start : goal.Start
  start = (goal.at.After-block-b c).Start

  abbrev size : ℕ
  size = 2 ^ start.args.e

  abbrev offset : ℕ
  offset = start.args.at % (1 * size % 18446744073709551616)

  offset-is : offset ≡ start.args.at % size
  offset-is = ap (λ (n : ℕ). start.args.at % n) (one_shifted start.args.e start.requires.in_parts.2)

  small : size ≤ 2 ^ 32
  small = pow_mono {j = 32} (omega (arith, start.requires.in_parts.2))

  inside : offset + start.args.count ≤ size
  inside = subst (λ (n : ℕ). n + start.args.count ≤ size) (sym offset-is) start.requires.at_bound.1

  abbrev word : List ℕ
  word = joined start.args.near.now start.args.far.now start.args.slot

  here : c.block-b.result.now ≡ part size (start.args.at / size) word
  here = c.block-b.ensures ∙ ap (λ (n : ℕ). part n (start.args.at / size) word) start.requires.in_parts.1

  long : length c.block-b.result.now ≡ size
  long =
      ap length here
      ∙ length_part size (start.args.at / size) word
      (omega (arith, part-fits {i = start.args.at / size} {n = 8} size ((div-lt_iff_lt-mul (pow_pos start.args.e)).1 start.requires.at_bound.0), length_joined start.args.near.now start.args.far.now start.args.slot start.requires.in_parts.0, start.requires.in_parts.1))

pub overflow_add-end : goal.overflow_add-end
overflow_add-end c = omega (arith, inside c, small c)

pub offset_bounds-b-o : goal.offset_bounds-b-o
offset_bounds-b-o c = omega (arith, inside c, small c)

pub slice_bounds-result-end : goal.slice_bounds-result-end
slice_bounds-result-end c = let b = (goal.at.slice_bounds-result-end c).After-block-b in
    omega (arith, inside b, long b)

pub returns : goal.returns
returns c = let b = (goal.at.returns c).After-block-b in
    let a = (start b).args in
    let count : offset b + a.count - offset b ≡ a.count = omega arith in
    ap (λ (n : ℕ). take n (drop (offset b) b.block-b.result.now)) count
    ∙ ap₂ (λ (n : ℕ) (l : List ℕ). take a.count (drop n l)) (offset-is b) (here b)
    ∙ stretch-part (size b) a.at a.count (word b) (pow_pos a.e) (start b).requires.at_bound.1
