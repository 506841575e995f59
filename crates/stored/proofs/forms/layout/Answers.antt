use mathlib.Core.Path.{◌≡◌, ap₂, ◌∙◌}
use mathlib.Core.Bool.{Bool}
use Prim.Native.Nat.{ℕ, ◌+◌, ◌*◌, ◌%◌, ◌^◌, ◌≤◌}
use native.Mathlib.Omega.{arith}
use Rattle.field.specs.Binary.{degree}
use Rattle.space.specs.Sizes.{max_dim}
use Rattle.proximity.specs.Dim.{S}
use Rattle.proximity.specs.LineLaws.{S-small}
use Rattle.stored.specs.Bytes.{packed_size}
use Rattle.stored.specs.File.{narrow_of, word_start, proof_start, file_end}
use Rattle.stored.specs.Packed.{size_double}
use Rattle.stored.specs.Passed.{record_size}
use Rattle.stored.proofs.Laws.{word_count}
use Rattle.stored.proofs.forms.layout.Goals.{Start, After-setting_size-word, After-packed_size, After-proof_length, After-packed_size-2}
use Rattle.stored.proofs.forms.layout.Goals as goal

-- the record of the setting is short
module _ (c : goal.After-setting_size-word) where
  abbrev start : goal.Start
  start = (goal.at.After-setting_size-word c).Start

  abbrev k : ℕ
  k = start.args.k

  abbrev t : Bool
  t = narrow_of start.args.form (degree start.args.f.modulus)

  abbrev n : ℕ
  n = 1 * 2 ^ k % 18446744073709551616

  count : (n ≡ 2 ^ k) × (2 ^ k ≤ 2 ^ max_dim)
  count = word_count k start.requires.1

  short : c.setting_size-word.result ≤ 9 + 2 * k
  short = omega (arith, c.setting_size-word.ensures, record_size start.args.form k)

pub overflow_add-word : goal.overflow_add-word
overflow_add-word c = omega (arith, short c)

pub packed_size-requires : goal.packed_size-requires
packed_size-requires c = let e = count c in omega arith

-- the word's symbols
module _ (c : goal.After-packed_size) where
  abbrev sized : goal.After-setting_size-word
  sized = (goal.at.After-packed_size c).After-setting_size-word

  word : c.packed_size.result ≡ packed_size (t sized) (2 ^ k sized)
  word = c.packed_size.ensures ∙ ap₂ packed_size sized.is_narrow-narrow.ensures (count sized).0

  word-short : c.packed_size.result ≤ 2 * 2 ^ max_dim
  word-short = let e = count sized in omega (arith, word, size_double (t sized) (2 ^ k sized))

pub overflow_add-proof : goal.overflow_add-proof
overflow_add-proof c = omega (arith, short (goal.at.overflow_add-proof c).After-setting_size-word, word-short c)

pub overflow_add-proof-2 : goal.overflow_add-proof-2
overflow_add-proof-2 c = omega (arith, short (goal.at.overflow_add-proof-2 c).After-setting_size-word, word-short c)

-- S(k) is small
small : (c : goal.After-proof_length) → c.proof_length.result ≤ 67551232
small c = omega (arith, c.proof_length.ensures, S-small (k (sized (goal.at.After-proof_length c).After-packed_size)) (omega arith))

pub packed_size-requires-2 : goal.packed_size-requires-2
packed_size-requires-2 c = omega (arith, small c)

module _ (c : goal.After-packed_size-2) where
  abbrev told : goal.After-packed_size
  told = (goal.at.After-packed_size-2 c).After-packed_size

  proof : c.packed_size-2.result ≡ packed_size (t (sized told)) (S (k (sized told)))
  proof = c.packed_size-2.ensures ∙ ap₂ packed_size (sized told).is_narrow-narrow.ensures c.proof_length.ensures

  proof-short : c.packed_size-2.result ≤ 2 * 67551232
  proof-short =
      let s = small (goal.at.After-packed_size-2 c).After-proof_length in
      omega (arith, c.packed_size-2.ensures, size_double (sized told).is_narrow-narrow.result c.proof_length.result)

pub overflow_add-end : goal.overflow_add-end
overflow_add-end c = omega (arith, short (sized (told c)), word-short (told c), proof-short c)

pub returns : goal.returns
returns c = let s = sized (told c) in
    let a = (start s).args in
    let l = degree a.f.modulus in
    let first : s.setting_size-word.result + 6 ≡ word_start a.form (k s) = omega (arith, s.setting_size-word.ensures) in
    let second : s.setting_size-word.result + 6 + (told c).packed_size.result + 6 ≡ proof_start a.form l (k s) = omega (arith, s.setting_size-word.ensures, word (told c)) in
    let last : s.setting_size-word.result + 6 + (told c).packed_size.result + 6 + c.packed_size-2.result ≡ file_end a.form l (k s) =
    omega (arith, s.setting_size-word.ensures, word (told c), proof c) in
    λ i. record { narrow = s.is_narrow-narrow.ensures i; word = first i; proof = second i; end = last i }
