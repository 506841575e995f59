use mathlib.Core.Path.{subst}
use mathlib.Core.List.{List}
use Prim.Native.Nat.{ℕ}
use lib.ListN.{length}
use Rattle.std.proofs.lemmas.Result.{err_from_is_err_and}
use Rattle.field.specs.Symbols.{symbols}
use Rattle.refusals.specs.Gives.{number_positive}
use Rattle.space.specs.Ready.{Ready, ready}
use Rattle.verifier.specs.Checker.{OnCoin}
use Rattle.verifier.specs.Parts.{ready_space}
use Rattle.verifier.specs.Verdicts.{Right, right_of, told-delivery, told_coin}
use Rattle.verifier.proofs.check.Goals.{Start, In_ok-s, In_ok-check_delivery}
use Rattle.verifier.proofs.check.Goals as goal

-- the setting passed
module _ (c : goal.In_ok-s) where
  abbrev start : goal.Start
  start = (goal.at.In_ok-s c).Start

  abbrev bs : List ℕ
  bs = start.args.basis.now

  passed : Ready start.args.modulus bs c.in_ok-s.s
  passed = ready start.args.modulus bs start.args.shift c.in_ok-s.s c.in_ok-s.ensures

-- the lengths and the coin are right
module _ (c : goal.In_ok-check_delivery) where
  abbrev setting : goal.In_ok-s
  setting = (goal.at.In_ok-check_delivery c).In_ok-s

  right : Right (length (bs setting)) (length (start setting).args.word.now) (length (start setting).args.proof.now) (start setting).args.coin
  right = right_of (length (bs setting)) (length (start setting).args.word.now) (length (start setting).args.proof.now) (start setting).args.coin c.in_ok-check_delivery.ensures

pub returns-in_err-check_delivery : goal.returns-in_err-check_delivery
returns-in_err-check_delivery c = let a = c.args in
    let e = c.in_err-check_delivery.field-0.0 in
    let out = err_from_is_err_and c.from_residual-in_err-check_delivery.result c.from_residual-in_err-check_delivery.ensures.1 in
    rw (out.1, out.2) (told-delivery a.modulus a.basis.now a.shift a.word.now a.proof.now a.coin c.in_ok-s.ensures.0 e (number_positive e, c.in_err-check_delivery.ensures))

pub check_word-requires : goal.check_word-requires
check_word-requires c = let e = (goal.at.check_word-requires c).In_ok-check_delivery in
    (ready_space (passed (setting e)), (right e).word, (right e).proof)

pub returns : goal.returns
unfolding ready_space
returns c = let e = (goal.at.returns c).In_ok-check_delivery in
    let s = setting e in
    let args = (start s).args in
    let space = ready_space (passed s) in
    told_coin args.modulus (bs s) args.shift args.word.now args.proof.now args.coin s.in_ok-s.ensures.0 e.in_ok-check_delivery.ensures c.check_word.result
    (subst (λ (q : ℕ). OnCoin (symbols q) (length (bs s)) (bs s) args.word.now args.proof.now args.coin c.check_word.result) (passed s).modulus
    (c.check_word.ensures (bs s) space.right space.table))
