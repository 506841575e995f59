use mathlib.Core.Path.{◌≡◌, refl, ◌∙◌}
use mathlib.Core.Logic.{inr}
use mathlib.Core.List.{List}
use Prim.Native.Nat.{ℕ, ◌^◌}
use native.Mathlib.Omega.{arith}
use lib.ListN.{length, drop, length-append, length-drop}
use lib.Seq.{length-take-le}
use Rattle.lists.specs.All.{Below}
use Rattle.lists.specs.Decides.{decides_true}
use Rattle.field.specs.Binary.{degree}
use Rattle.poly.proofs.Shift.{codeword_shift}
use Rattle.space.specs.Usable.{ready_field}
use Rattle.codec.proofs.WordLaws.{front_below, tested_zero, tested_none, coefficients_at_lem}
use Rattle.codec.proofs.decoder.decode_with.Goals.{After-is_codeword}
use Rattle.codec.proofs.decoder.decode_with.Goals as goal

-- ---- past check 9, once the word is tested
module _ (c : goal.After-is_codeword) where
  abbrev word : List ℕ
  word = c.args.word.now

  symbols : Below (2 ^ degree c.args.s.field.modulus) word
  symbols = decides_true (Below (2 ^ degree c.args.s.field.modulus) word) c.all_symbols.ensures c.if-not-all_symbols.false

  abbrev work : List ℕ
  work = c.is_codeword.new.work

  length-work : length work ≡ 2 ^ c.args.s.space.k
  length-work = c.is_codeword.auto.work ∙ length-take-le (length word) c.args.scratch.now (omega (arith, c.requires.1.whole, c.requires.1.room)) ∙ c.requires.1.whole

  abbrev rest : List ℕ
  rest = drop (length word) c.args.scratch.now

pub returns-then-not-is_codeword : goal.returns-then-not-is_codeword
returns-then-not-is_codeword c = let at = (goal.at.returns-then-not-is_codeword c).After-is_codeword in
    inr (
      refl,
      symbols at,
      (λ bs r w. tested_none r (word at) c.is_codeword.ensures c.if-not-is_codeword.true ((codeword_shift (ready_field r) c.args.s.shift r.sound.shift (length bs) bs (word at)).0 w)),
      refl,
    )

pub read_coefficients-requires : goal.read_coefficients-requires
read_coefficients-requires c = let at = (goal.at.read_coefficients-requires c).After-is_codeword in
    let (u, l) = c.requires in (
      u,
      l.eighth,
      omega (arith, length-append (work at) (rest at), length-work at, length-drop (length (word at)) c.args.scratch.now, l.room, l.whole),
      front_below u (word at) (work at) (rest at) (length-work at) c.is_codeword.ensures.below,
    )

pub returns : goal.returns
returns c = let at = (goal.at.returns c).After-is_codeword in
    let (u, l) = c.requires in (
      symbols at,
      λ bs r. coefficients_at_lem (ready_field r) c.args.s.shift r.sound.shift bs r.sound.basis.elements (word at) c.read_coefficients.new.coefficients c.shift_powers.new.values c.shift_powers.ensures
          (c.read_coefficients.ensures.1 bs r (word at)
          (tested_zero u (word at) (work at) (rest at) (length-work at) c.is_codeword.ensures r (symbols at) l.whole c.if-not-is_codeword.false)),
    )
