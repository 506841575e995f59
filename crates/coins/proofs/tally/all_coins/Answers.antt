use mathlib.Core.Path.{◌≡◌, refl, sym, ap, ap₂, ◌∙◌, subst, transport}
use mathlib.Core.List.{List}
use Prim.Native.Nat.{ℕ, ◌+◌, ◌*◌, ◌%◌, ◌^◌, ◌≤◌, ◌<◌, max}
use native.Mathlib.Omega.{arith}
use lib.ListN.{length, take}
use lib.Pow.{pow_mono}
use lib.Seq.{length-take-le}
use Rattle.lists.specs.Answers.{Passes}
use Rattle.field.specs.Symbols.{symbols}
use Rattle.proximity.specs.Dim.{S, R}
use Rattle.proximity.specs.LineLaws.{R-small}
use Rattle.proximity.specs.Tree.{max_bits}
use Rattle.verifier.proofs.Laws.{one_shifted}
use Rattle.verifier.specs.Checker.{reads_of, OnCoin}
use Rattle.stored.specs.Bytes.{numbers_at}
use Rattle.stored.specs.Check.{AnsweredFile}
use Rattle.stored.proofs.CheckLaws.{read-passes, read_dimension, read-basis, read-images, read_space, read_laid, read_answer}
use Rattle.stored.specs.File.{dim_in, basis_in}
use Rattle.stored.specs.Packed.{length_numbers}
use Rattle.std.specs.Prelude.{Ok}
use Rattle.stored.specs.Reader.{file_checks, Told}
use Rattle.stored.specs.declared.Reading.{Reading}
use Rattle.coins.specs.Counted.{Counted, counted-most}
use Rattle.coins.specs.Tally.{count_verdict, most_verdict}
use Rattle.coins.specs.Totals.{Rejects, most_of}
use Rattle.coins.proofs.FileSymbols.{symbol_count, few_symbols, word-front, short}
use Rattle.space.specs.Sizes.{max_dim}
use Rattle.coins.proofs.tally.all_coins.Goals.{Start, After-word_of-word, After-coin_bits, At-loop-coin, After-check_word-v}
use Rattle.coins.proofs.tally.all_coins.Goals as goal

-- the file is accepted
module _ (c : goal.Start) where
  abbrev bytes : List ℕ
  bytes = c.args.file.now

  abbrev found : Reading
  found = c.args.r

  abbrev told : Told (file_checks bytes) bytes (Ok found)
  told = c.requires.0

  few : found.setting.space.k ≤ max_dim
  few = (read_laid bytes found told).few

pub overflow_shl-n : goal.overflow_shl-n
overflow_shl-n c = omega (arith, few (goal.at.overflow_shl-n c).Start)

pub proof_length-s-requires : goal.proof_length-s-requires
proof_length-s-requires c = few (goal.at.proof_length-s-requires c).Start

pub word_of-word-requires : goal.word_of-word-requires
word_of-word-requires c = let s = (goal.at.word_of-word-requires c).Start in (s.requires.0, s.requires.1)

pub proof_of-proof-requires : goal.proof_of-proof-requires
proof_of-proof-requires c = let s = (goal.at.proof_of-proof-requires c).Start in (s.requires.0, s.requires.1)

pub coin_bits-requires : goal.coin_bits-requires
coin_bits-requires c = few (goal.at.coin_bits-requires c).Start

-- the symbols are decoded
module _ (c : goal.After-coin_bits) where
  abbrev decoded : goal.After-word_of-word
  decoded = (goal.at.After-coin_bits c).After-word_of-word

  abbrev start : goal.Start
  start = (goal.at.After-coin_bits c).Start

  abbrev k : ℕ
  k = (found start).setting.space.k

  abbrev coins : ℕ
  coins = 1 * 2 ^ c.coin_bits.result % 18446744073709551616

  abbrev word : List ℕ
  word = take (symbol_count k) decoded.word_of-word.result

  abbrev proof : List ℕ
  proof = take decoded.proof_length-s.result c.proof_of-proof.result

  small : c.coin_bits.result ≤ max_bits
  small = omega (arith, c.coin_bits.ensures, R-small k (omega (arith, few start)))

  dimension : k ≡ dim_in (bytes start)
  dimension = read_dimension (bytes start) (found start) (told start)

  all_coins : coins ≡ 2 ^ R (dim_in (bytes start))
  all_coins = one_shifted c.coin_bits.result (omega (arith, small)) ∙ ap (λ (n : ℕ). 2 ^ n) (c.coin_bits.ensures ∙ ap R dimension)

  bounded : coins ≤ 2 ^ max_bits
  bounded = omega (arith, one_shifted c.coin_bits.result (omega (arith, small)), pow_mono {i = c.coin_bits.result} {j = max_bits} (omega (arith, small)))

  word-is : word ≡ numbers_at (found start).narrow (bytes start) (found start).word (2 ^ k)
  word-is = word-front (bytes start) (found start) start.requires.0 start.requires.1 decoded.word_of-word.result decoded.word_of-word.ensures.1

  word_fits : symbol_count k ≤ length decoded.word_of-word.result
  word_fits = omega (arith, few_symbols (bytes start) (found start) start.requires.0 start.requires.1, decoded.word_of-word.ensures.0)

  proof-is : proof ≡ numbers_at (found start).narrow (bytes start) (found start).proof (S k)
  proof-is = ap (λ (i : ℕ). take i c.proof_of-proof.result) decoded.proof_length-s.ensures ∙ c.proof_of-proof.ensures.1

  proof-fits : decoded.proof_length-s.result ≤ length c.proof_of-proof.result
  proof-fits = omega (arith, short (bytes start) (found start) start.requires.0 start.requires.1, decoded.proof_length-s.ensures, c.proof_of-proof.ensures.0)

pub overflow_cast-coins : goal.overflow_cast-coins
overflow_cast-coins c = omega (arith, small c)

pub overflow_shl-coins : goal.overflow_shl-coins
overflow_shl-coins c = omega (arith, small c)

pub loop-coin-init : goal.loop-coin-init
loop-coin-init c = (refl, refl)

pub slice_bounds-word-end : goal.slice_bounds-word-end
slice_bounds-word-end c = word_fits (goal.at.slice_bounds-word-end c).After-coin_bits

pub slice_bounds-check_word-end : goal.slice_bounds-check_word-end
slice_bounds-check_word-end c = sym (length-take-le _ _ (word_fits (goal.at.slice_bounds-check_word-end c).After-coin_bits))

pub slice_bounds-proof-end : goal.slice_bounds-proof-end
slice_bounds-proof-end c = proof-fits (goal.at.slice_bounds-proof-end c).After-coin_bits

pub slice_bounds-check_word-end-in-loop-coin : goal.slice_bounds-check_word-end-in-loop-coin
slice_bounds-check_word-end-in-loop-coin c = sym (length-take-le _ _ (proof-fits (goal.at.slice_bounds-check_word-end-in-loop-coin c).After-coin_bits))

pub check_word-v-requires : goal.check_word-v-requires
check_word-v-requires c = let t = (goal.at.check_word-v-requires c).After-coin_bits in
    let s = start t in (
      read_space (bytes s) (found s) (told s),
      ap length (word-is t) ∙ length_numbers (found s).narrow (bytes s) (found s).word (2 ^ k t),
      ap length (proof-is t) ∙ length_numbers (found s).narrow (bytes s) (found s).proof (S (k t)),
    )

-- the verdict at this coin
module _ (c : goal.After-check_word-v) where
  abbrev head : goal.At-loop-coin
  head = (goal.at.After-check_word-v c).At-loop-coin

  abbrev at : goal.After-coin_bits
  at = (goal.at.After-check_word-v c).After-coin_bits

  abbrev file : List ℕ
  file = bytes (start at)

  inside : head.loop-coin.coin < 2 ^ R (dim_in file)
  inside = omega (arith, all_coins at)

  answered : AnsweredFile file head.loop-coin.coin c.check_word-v.result
  answered =
      let s = start at in
      let r = found s in
      let b = basis_in file in
      let m = r.setting.field.modulus in
      let v = c.check_word-v.result in
      read_answer file r (told s) head.loop-coin.coin inside v
      (transport (λ i. OnCoin (symbols m) (k at) b (word-is at i) (proof-is at i) head.loop-coin.coin v) (c.check_word-v.ensures b (read-basis file r (told s)) (read-images file r (told s))))

  passed : Passes (file_checks file)
  passed = read-passes file (found (start at)) (told (start at))

pub rejecting-rejects-requires : goal.rejecting-rejects-requires
rejecting-rejects-requires c = tt

pub overflow_add-rejects : goal.overflow_add-rejects
overflow_add-rejects c = let t = (goal.at.overflow_add-rejects c).After-check_word-v in
    let h = head t in
    let next = count_verdict (file t) (passed t) h.loop-coin.coin (inside t) t.check_word-v.result (answered t) h.loop-coin.rejects h.loop-coin.invariant.0 in
    omega (arith, c.rejecting-rejects.ensures, counted-most (Rejects (file t)) (h.loop-coin.coin + 1) next, bounded (at t))

pub reads-requires : goal.reads-requires
reads-requires c = tt

pub loop-coin-preserved : goal.loop-coin-preserved
loop-coin-preserved c = let t = (goal.at.loop-coin-preserved c).After-check_word-v in
    let h = head t in
    let f = file t in (
      subst (λ (n : ℕ). Counted (Rejects f) (h.loop-coin.coin + 1) (h.loop-coin.rejects + n)) (sym c.rejecting-rejects.ensures)
          (count_verdict f (passed t) h.loop-coin.coin (inside t) t.check_word-v.result (answered t) h.loop-coin.rejects h.loop-coin.invariant.0),
      c.max-most.ensures ∙ ap₂ max h.loop-coin.invariant.1 c.reads.ensures ∙ most_verdict f (passed t) h.loop-coin.coin (inside t) t.check_word-v.result (answered t),
    )

pub returns : goal.returns
returns c = let h = (goal.at.returns c).At-loop-coin in
    let t = (goal.at.At-loop-coin h).After-coin_bits in
    let f = bytes (start t) in
    let last : h.loop-coin.coin ≡ 2 ^ R (dim_in f) = omega (arith, all_coins t) in
    record {
      dimension = dimension t;
      all = all_coins t;
      rejecting = subst (λ (n : ℕ). Counted (Rejects f) n h.loop-coin.rejects) last h.loop-coin.invariant.0;
      reads = h.loop-coin.invariant.1 ∙ ap (λ (n : ℕ). most_of n (reads_of (dim_in f))) last;
    }
