use mathlib.Core.Path.{◌≡◌, sym, ◌∙◌}
use mathlib.Core.List.{List}
use Prim.Native.Nat.{ℕ, ◌^◌, ◌≤◌}
use native.Mathlib.Omega.{arith}
use lib.ListN.{length, take}
use lib.Seq.{length-take-le}
use Rattle.stored.specs.File.{small_dim}
use Rattle.delivery.specs.Steps.{encoded}
use Rattle.delivery.proofs.Laws.{at_most, length_back, front-back}
use Rattle.delivery.proofs.parts.word_of.Goals.{Start, After-no_scratch-scratch, After-encode}
use Rattle.delivery.proofs.parts.word_of.Goals as goal

pub power-n-requires : goal.power-n-requires
power-n-requires c = omega (arith, c.requires.0.few)

-- the part that is lent
module _ (c : goal.After-no_scratch-scratch) where
  abbrev start : goal.Start
  start = (goal.at.After-no_scratch-scratch c).Start

  abbrev n : ℕ
  n = c.power-n.result

  abbrev zeros : List ℕ
  zeros = c.no_word-word.result

  few : n ≤ 2 ^ small_dim
  few = at_most small_dim c.power-n.ensures start.requires.0.few

  fits : n ≤ length zeros
  fits = omega (arith, few, c.no_word-word.ensures)

  part : length (take n zeros) ≡ n
  part = length-take-le n zeros fits

pub slice_bounds-word-end : goal.slice_bounds-word-end
slice_bounds-word-end c = fits c

pub slice_bounds-encode-end : goal.slice_bounds-encode-end
slice_bounds-encode-end c = sym (part (goal.at.slice_bounds-encode-end c).After-no_scratch-scratch)

pub returns : goal.returns
returns c = let e = (goal.at.returns c).After-encode in
    let s = (goal.at.returns c).After-no_scratch-scratch in
    let a = (start s).args in
    let new : List ℕ = e.encode.new.word in
    let long : length new ≡ n s = e.encode.auto.word ∙ part s in
    let power = s.power-n.ensures in (
      length_back (n s) new (zeros s) long (fits s) ∙ s.no_word-word.ensures,
      front-back (n s) new (zeros s) long power
          ∙ encoded a.modulus a.basis.now a.shift (start s).requires.0.sound a.coefficients.now (take (n s) (zeros s)) new s.no_scratch-scratch.result e.encode.new.scratch e.encode.result
          (start s).requires.1 (part s ∙ power) (omega (arith, few s, s.no_scratch-scratch.ensures)) e.encode.ensures,
    )
