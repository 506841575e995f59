use mathlib.Core.Path.{◌≡◌, sym}
use mathlib.Core.List.{List}
use Prim.Native.Nat.{ℕ, ◌^◌, ◌≤◌}
use native.Mathlib.Omega.{arith}
use lib.ListN.{length, take}
use lib.Seq.{length-take-le}
use Rattle.std.proofs.lemmas.Result.{err_from_is_err_and}
use Rattle.stored.specs.Bytes.{numbers_at}
use Rattle.stored.proofs.CheckLaws.{read-passes}
use Rattle.stored.specs.File.{file_limit, small_dim, modulus_in, basis_in, word_in}
use Rattle.stored.specs.declared.Reading.{Reading}
use Rattle.coins.specs.Answer.{told_refused, told_totals}
use Rattle.coins.specs.Tally.{Readable}
use Rattle.coins.specs.Totals.{Off}
use Rattle.coins.proofs.FileSymbols.{symbol_count, small, few_symbols, word-front, word_set, word_off}
use Rattle.coins.proofs.count.Goals.{In_ok-r, After-word_of-places, After-off-off}
use Rattle.coins.proofs.count.Goals as goal

pub returns-in_err-r : goal.returns-in_err-r
returns-in_err-r c = let out = err_from_is_err_and c.from_residual.result c.from_residual.ensures.1 in
    rw (out.1, out.2) (told_refused c.args.file.now c.if-file-gt-FILE_LIMIT.false c.in_err-r.field-0.0 c.in_err-r.ensures)

-- the word is decoded
module _ (c : goal.After-word_of-places) where
  abbrev reading : goal.In_ok-r
  reading = (goal.at.After-word_of-places c).In_ok-r

  abbrev bytes : List ℕ
  bytes = reading.args.file.now

  abbrev found : Reading
  found = reading.in_ok-r.r

  read : Readable bytes found
  read = reading.in_ok-r.ensures

  short : length bytes ≤ file_limit
  short = reading.if-file-gt-FILE_LIMIT.false

  abbrev word : List ℕ
  word = take (symbol_count found.setting.space.k) c.word_of-places.result

  few : symbol_count found.setting.space.k ≤ 2 ^ small_dim
  few = few_symbols bytes found read short

  long : length word ≡ symbol_count found.setting.space.k
  long = length-take-le _ _ (omega (arith, few, c.word_of-places.ensures.0))

  word-is : word ≡ numbers_at found.narrow bytes found.word (2 ^ found.setting.space.k)
  word-is = word-front bytes found read short c.word_of-places.result c.word_of-places.ensures.1

pub overflow_shl-places : goal.overflow_shl-places
overflow_shl-places c = let t = (goal.at.overflow_shl-places c).After-word_of-places in omega (arith, small (bytes t) (found t) (read t) (short t))

pub slice_bounds-places-end : goal.slice_bounds-places-end
slice_bounds-places-end c = let t = (goal.at.slice_bounds-places-end c).After-word_of-places in omega (arith, few t, t.word_of-places.ensures.0)

pub slice_bounds-word-end : goal.slice_bounds-word-end
slice_bounds-word-end c = sym (long (goal.at.slice_bounds-word-end c).After-word_of-places)

pub off-off-requires : goal.off-off-requires
off-off-requires c = let t = (goal.at.off-off-requires c).After-word_of-places in
    (word_set (bytes t) (found t) (read t) (short t) (word t) (word-is t), omega (arith, long t, few t))

-- how far the file's word is off
module _ (c : goal.After-off-off) where
  abbrev decoded : goal.After-word_of-places
  decoded = (goal.at.After-off-off c).After-word_of-places

  word-differs : Off (modulus_in (bytes decoded)) (basis_in (bytes decoded)) (word_in (bytes decoded)) c.off-off.result
  word-differs = let t = decoded in word_off (bytes t) (found t) (read t) (short t) (word t) c.off-off.result (word-is t) c.off-off.ensures

pub all_coins-sweep-requires : goal.all_coins-sweep-requires
all_coins-sweep-requires c = let t = decoded c in (read t, short t)

pub returns : goal.returns
returns c = let t = decoded (goal.at.returns c).After-off-off in
    told_totals (bytes t) (short t) (read-passes (bytes t) (found t) (read t)) _ (record { swept = c.all_coins-sweep.ensures; off = word-differs (goal.at.returns c).After-off-off })
