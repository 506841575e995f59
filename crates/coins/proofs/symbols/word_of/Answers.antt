use mathlib.Core.Path.{◌≡◌, sym, ◌∙◌, subst}
use mathlib.Core.List.{List}
use Prim.Native.Nat.{ℕ, ◌+◌, ◌≤◌}
use native.Mathlib.Omega.{arith}
use lib.ListN.{length, take}
use lib.Seq.{length-take-le}
use Rattle.stored.specs.Bytes.{packed_size}
use Rattle.stored.proofs.CheckLaws.{read_laid}
use Rattle.stored.specs.Packed.{front_length, front-numbers}
use Rattle.stored.specs.declared.Reading.{Reading}
use Rattle.coins.proofs.FileSymbols.{symbol_count, small, count-is, few_symbols}
use Rattle.coins.proofs.symbols.word_of.Goals.{Start, After-no_word-word, After-numbers_at}
use Rattle.coins.proofs.symbols.word_of.Goals as goal

pub overflow_shl-n : goal.overflow_shl-n
overflow_shl-n c = let s = (goal.at.overflow_shl-n c).Start in omega (arith, small s.args.file.now s.args.r s.requires.0 s.requires.1)

-- the part that is lent
module _ (c : goal.After-no_word-word) where
  abbrev start : goal.Start
  start = (goal.at.After-no_word-word c).Start

  abbrev bytes : List ℕ
  bytes = start.args.file.now

  abbrev found : Reading
  found = start.args.r

  abbrev n : ℕ
  n = symbol_count found.setting.space.k

  abbrev zeros : List ℕ
  zeros = c.no_word-word.result

  fits : n ≤ length zeros
  fits = omega (arith, few_symbols bytes found start.requires.0 start.requires.1, c.no_word-word.ensures)

  part : length (take n zeros) ≡ n
  part = length-take-le n zeros fits

pub slice_bounds-word-end : goal.slice_bounds-word-end
slice_bounds-word-end c = fits c

pub slice_bounds-numbers_at-end : goal.slice_bounds-numbers_at-end
slice_bounds-numbers_at-end c = sym (part (goal.at.slice_bounds-numbers_at-end c).After-no_word-word)

pub numbers_at-requires : goal.numbers_at-requires
numbers_at-requires c = let t = (goal.at.numbers_at-requires c).After-no_word-word in
    let s = start t in
    subst (λ (m : ℕ). (found t).word + packed_size (found t).narrow m ≤ length (bytes t)) (sym (part t ∙ count-is (bytes t) (found t) s.requires.0 s.requires.1))
    (read_laid (bytes t) (found t) s.requires.0).word_fits

pub returns : goal.returns
returns c = let e = (goal.at.returns c).After-numbers_at in
    let t = (goal.at.After-numbers_at e).After-no_word-word in
    let s = start t in
    let new : List ℕ = e.numbers_at.new.out in (
      front_length (found t).narrow (bytes t) (found t).word (n t) (zeros t) new (fits t) e.numbers_at.ensures ∙ t.no_word-word.ensures,
      front-numbers (found t).narrow (bytes t) (found t).word (n t) (zeros t) new (fits t) e.numbers_at.ensures (count-is (bytes t) (found t) s.requires.0 s.requires.1),
    )
