-- `novel::convert::to_monomials` meets its contract. Assumes nothing.
use mathlib.Core.Bool.{Bool}
use mathlib.Core.Path.{◌≡◌, sym, ap, subst, ◌∙◌}
use mathlib.Core.List.{List, ◌++◌}
use Prim.Native.Nat.{ℕ, ◌+◌, ◌-◌, ◌/◌, ◌^◌, ◌<◌}
use native.Mathlib.Omega.{arith}
use lib.ListN.{length, take, drop, length-drop, length-append, take-append-drop}
use lib.Seq.{length-take-le}
use borrow.Rule.Slice.PartMut.{put_mid}
use Rattle.lists.specs.All.{Below, All-take, All-drop, All-append}
use Rattle.lists.specs.Overwrite.{second-lent, both-back}
use Rattle.field.specs.Binary.{degree, Irreducible}
use Rattle.novel.specs.Convert.{factor_by, Tabled, Expanded, Monomials}
use Rattle.novel.proofs.Recursion.{tabled_fewer, half_power, monomials-none, monomials_halves}
use Rattle.novel.proofs.convert.+to_monomials.Goals as goal

-- ---- after both calls: `first` and `second` are the halves of the 2^m values, changed
module _ (m n : ℕ) (values first second : List ℕ) (some : m ≡ 0 → ⊥) (size : length values ≡ 2 ^ m) (half : n ≡ 2 ^ (m - 1)) (length_first : length first ≡ n) where
  two : length values ≡ n + n
  two = omega (arith, half, (half_power m (length values) some size).1)

  abbrev lent : List ℕ
  lent = first ++ drop n values

  -- the part that the second call is lent
  abbrev second-arg : List ℕ
  second-arg = take (length lent - n) (drop n lent)

  second-arg-is : second-arg ≡ drop n values
  second-arg-is = second-lent n values first length_first two

  length-second-arg : length second-arg ≡ n
  length-second-arg = ap length second-arg-is ∙ length-drop n values ∙ omega (arith, two)

  abbrev back : List ℕ
  back = put_mid n (length lent - n) lent second

  back_is : back ≡ first ++ second
  back_is = both-back n values first length_first two second

  length-level : length second ≡ length second-arg → length back ≡ 2 ^ (m - 1) + 2 ^ (m - 1)
  length-level e =
      ap length back_is ∙ length-append first second ∙ omega (arith, half, length_first, e, length-second-arg)

  back_below : (q : ℕ) → Below (2 ^ degree q) first → Below (2 ^ degree q) second → Below (2 ^ degree q) back
  back_below q a b =
      subst (Below (2 ^ degree q)) (sym back_is) (All-append (λ (x : ℕ). x < 2 ^ degree q) first second a b)

  -- and both halves are joined
  joined : (q : ℕ) (g : ℕ → ℕ → ℕ) (new : List ℕ) → Irreducible q → Monomials q g (m - 1) (take n values) first → Monomials q g (m - 1) second-arg second → Expanded q g (m - 1) back new → Monomials q g m values new
  joined q g new irr a b e =
      subst (λ (xs : List ℕ). Monomials q g m xs new) (take-append-drop n values)
      (monomials_halves q irr g (m - 1) m (take n values) (drop n values) first second new
      (omega (arith, some))
      (length-take-le n values (omega (arith, two)) ∙ half)
      (length-drop n values ∙ omega (arith, two, half))
      a
      (subst (λ (xs : List ℕ). Monomials q g (m - 1) xs second) second-arg-is b)
      (subst (λ (xs : List ℕ). Expanded q g (m - 1) xs new) back_is e))

pub returns-then-m-eq0 : goal.returns-then-m-eq0
returns-then-m-eq0 t c =
    let a = c.args in
    monomials-none a.f.modulus c.requires.0.irreducible (factor_by a.shifted a.f.modulus a.table.now) a.m a.values.now c.if-m-eq0.true c.requires.2 c.requires.1

pub to_monomials-requires : goal.to_monomials-requires
to_monomials-requires t c =
    let a = c.args in
    let n = length a.values.now / 2 in
    let half = half_power a.m (length a.values.now) c.if-m-eq0.false c.requires.2 in (
      omega arith,
      (
        tabled_fewer (a.m - 1) (omega arith) c.requires.0,
        All-take (λ (x : ℕ). x < 2 ^ degree a.f.modulus) n a.values.now c.requires.1,
        length-take-le n a.values.now (omega arith) ∙ half.0,
      ),
    )

pub to_monomials-requires-2 : goal.to_monomials-requires-2
to_monomials-requires-2 t c =
    let a = c.args in
    let n = length a.values.now / 2 in
    let half = half_power a.m (length a.values.now) c.if-m-eq0.false c.requires.2 in
    let two : length a.values.now ≡ n + n = omega arith in
    let second-arg-is = second-lent n a.values.now c.to_monomials.new.values (c.to_monomials.auto.values ∙ length-take-le n a.values.now (omega arith)) two in (
      omega arith,
      (
        tabled_fewer (a.m - 1) (omega arith) c.requires.0,
        subst (Below (2 ^ degree a.f.modulus)) (sym second-arg-is) (All-drop (λ (x : ℕ). x < 2 ^ degree a.f.modulus) n a.values.now c.requires.1),
        ap length second-arg-is ∙ length-drop n a.values.now ∙ omega arith,
      ),
    )

-- ---- with x^(2^j) plus a number

pub add_high-requires : goal.add_high-requires
add_high-requires t c =
    let a = c.args in
    let n = length a.values.now / 2 in
    let first = c.to_monomials.new.values in
    let second = c.to_monomials-2.new.values in
    let some = c.if-m-eq0.false in
    let half = half_power a.m (length a.values.now) some c.requires.2 in
    let length_first : length first ≡ n = c.to_monomials.auto.values ∙ length-take-le n a.values.now (omega arith) in (
      subst (λ (b : Bool). Tabled b a.f a.none.now a.table.now (a.m - 1 + 1)) c.if-shifted.true (tabled_fewer (a.m - 1 + 1) (omega arith) c.requires.0),
      back_below a.m n a.values.now first second some c.requires.2 half.0 length_first a.f.modulus c.to_monomials.ensures.below.1 c.to_monomials-2.ensures.below.1,
      length-level a.m n a.values.now first second some c.requires.2 half.0 length_first c.to_monomials-2.auto.values,
    )

pub returns-then-shifted : goal.returns-then-shifted
returns-then-shifted t c =
    let a = c.args in
    let q = a.f.modulus in
    let n = length a.values.now / 2 in
    let first = c.to_monomials.new.values in
    let second = c.to_monomials-2.new.values in
    let new = c.add_high.new.values in
    let some = c.if-m-eq0.false in
    let half = half_power a.m (length a.values.now) some c.requires.2 in
    let length_first : length first ≡ n = c.to_monomials.auto.values ∙ length-take-le n a.values.now (omega arith) in
    joined a.m n a.values.now first second some c.requires.2 half.0 length_first q (factor_by a.shifted q a.table.now) new c.requires.0.irreducible c.to_monomials.ensures c.to_monomials-2.ensures
    (subst (λ (b : Bool). Expanded q (factor_by b q a.table.now) (a.m - 1) (back a.m n a.values.now first second some c.requires.2 half.0 length_first) new) (sym c.if-shifted.true) c.add_high.ensures)

-- ---- with W_j

pub expand-requires : goal.expand-requires
expand-requires t c =
    let a = c.args in
    let n = length a.values.now / 2 in
    let first = c.to_monomials.new.values in
    let second = c.to_monomials-2.new.values in
    let some = c.if-m-eq0.false in
    let half = half_power a.m (length a.values.now) some c.requires.2 in
    let length_first : length first ≡ n = c.to_monomials.auto.values ∙ length-take-le n a.values.now (omega arith) in (
      subst (λ (b : Bool). Tabled b a.f a.none.now a.table.now (a.m - 1 + 1)) c.if-shifted.false (tabled_fewer (a.m - 1 + 1) (omega arith) c.requires.0),
      back_below a.m n a.values.now first second some c.requires.2 half.0 length_first a.f.modulus c.to_monomials.ensures.below.1 c.to_monomials-2.ensures.below.1,
      length-level a.m n a.values.now first second some c.requires.2 half.0 length_first c.to_monomials-2.auto.values,
    )

pub returns : goal.returns
returns t c =
    let a = c.args in
    let q = a.f.modulus in
    let n = length a.values.now / 2 in
    let first = c.to_monomials.new.values in
    let second = c.to_monomials-2.new.values in
    let new = c.expand.new.values in
    let some = c.if-m-eq0.false in
    let half = half_power a.m (length a.values.now) some c.requires.2 in
    let length_first : length first ≡ n = c.to_monomials.auto.values ∙ length-take-le n a.values.now (omega arith) in
    joined a.m n a.values.now first second some c.requires.2 half.0 length_first q (factor_by a.shifted q a.table.now) new c.requires.0.irreducible c.to_monomials.ensures c.to_monomials-2.ensures
    (subst (λ (b : Bool). Expanded q (factor_by b q a.table.now) (a.m - 1) (back a.m n a.values.now first second some c.requires.2 half.0 length_first) new) (sym c.if-shifted.false) c.expand.ensures)
