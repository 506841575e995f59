-- `novel::convert::from_monomials` meets its contract. Assumes nothing.
use mathlib.Core.Path.{◌≡◌, sym, ap, subst, ◌∙◌}
use mathlib.Core.List.{List}
use Prim.Native.Nat.{ℕ, ◌+◌, ◌-◌, ◌/◌, ◌^◌, ◌<◌}
use native.Mathlib.Omega.{arith}
use lib.ListN.{length, take, drop, length-drop, take-append-drop}
use lib.Seq.{length-take-le}
use Rattle.lists.specs.All.{Below, All-take, All-drop}
use Rattle.lists.specs.Overwrite.{second-lent, both-back}
use Rattle.field.specs.Binary.{degree}
use Rattle.novel.specs.Convert.{value_by, Expanded, Monomials}
use Rattle.novel.proofs.Recursion.{tabled_fewer, half_power, monomials-none, monomials_halves}
use Rattle.novel.proofs.convert.+from_monomials.Goals as goal

pub returns-then-m-eq0 : goal.returns-then-m-eq0
returns-then-m-eq0 t c =
    let a = c.args in
    monomials-none a.f.modulus c.requires.0.irreducible (value_by a.f.modulus a.table.now) a.m a.values.now c.if-m-eq0.true c.requires.2 c.requires.1

pub divide-requires : goal.divide-requires
divide-requires t c =
    let m = c.args.m in
    (tabled_fewer (m - 1 + 1) (omega arith) c.requires.0, c.requires.1, (half_power m (length c.args.values.now) c.if-m-eq0.false c.requires.2).1)

pub from_monomials-requires : goal.from_monomials-requires
from_monomials-requires t c =
    let a = c.args in
    let n = length a.values.now / 2 in
    let parts = c.divide.new.values in
    let half = half_power a.m (length a.values.now) c.if-m-eq0.false c.requires.2 in (
      omega arith,
      (
        tabled_fewer (a.m - 1) (omega arith) c.requires.0,
        All-take (λ (x : ℕ). x < 2 ^ degree a.f.modulus) n parts c.divide.ensures.below.0,
        length-take-le n parts (omega arith) ∙ half.0,
      ),
    )

pub from_monomials-requires-2 : goal.from_monomials-requires-2
from_monomials-requires-2 t c =
    let a = c.args in
    let n = length a.values.now / 2 in
    let parts = c.divide.new.values in
    let half = half_power a.m (length a.values.now) c.if-m-eq0.false c.requires.2 in
    let two : length parts ≡ n + n = omega arith in
    let second-arg-is = second-lent n parts c.from_monomials.new.values (c.from_monomials.auto.values ∙ length-take-le n parts (omega arith)) two in (
      omega arith,
      (
        tabled_fewer (a.m - 1) (omega arith) c.requires.0,
        subst (Below (2 ^ degree a.f.modulus)) (sym second-arg-is) (All-drop (λ (x : ℕ). x < 2 ^ degree a.f.modulus) n parts c.divide.ensures.below.0),
        ap length second-arg-is ∙ length-drop n parts ∙ omega arith,
      ),
    )

pub returns : goal.returns
returns t c =
    let a = c.args in
    let q = a.f.modulus in
    let g = value_by q a.table.now in
    let n = length a.values.now / 2 in
    let parts = c.divide.new.values in
    let first = c.from_monomials.new.values in
    let second = c.from_monomials-2.new.values in
    let half = half_power a.m (length a.values.now) c.if-m-eq0.false c.requires.2 in
    let two : length parts ≡ n + n = omega arith in
    let length_first : length first ≡ n = c.from_monomials.auto.values ∙ length-take-le n parts (omega arith) in
    let second-arg-is = second-lent n parts first length_first two in
    let length_second : length second ≡ n = c.from_monomials-2.auto.values ∙ ap length second-arg-is ∙ length-drop n parts ∙ omega arith in
    subst (λ (xs : List ℕ). Monomials q g a.m xs a.values.now) (sym (both-back n parts first length_first two second))
    (monomials_halves q c.requires.0.irreducible g (a.m - 1) a.m first second (take n parts) (drop n parts) a.values.now
    (omega arith)
    (length_first ∙ half.0)
    (length_second ∙ half.0)
    c.from_monomials.ensures
    (subst (λ (xs : List ℕ). Monomials q g (a.m - 1) second xs) second-arg-is c.from_monomials-2.ensures)
    (subst (λ (xs : List ℕ). Expanded q g (a.m - 1) xs a.values.now) (sym (take-append-drop n parts)) c.divide.ensures))
