use mathlib.Core.Path.{◌≡◌, sym, ap, ap₂, ◌∙◌, subst}
use mathlib.Core.List.{List}
use Prim.Native.Nat.{ℕ, ◌+◌, ◌<◌, ◌^◌}
use native.Mathlib.Omega.{arith}
use lib.ListN.{length, get_or, set}
use lib.Pow.{pow_pos}
use Rattle.field.specs.Binary.{◌⊕◌, degree, product}
use Rattle.lists.specs.All.{Below, All-at}
use Rattle.lists.specs.Stretch.{Apart, stretch, turned, turned_none, turned-all, turned-here, turned-next, turned_outside}
use Rattle.field.specs.Xor.{xor_below}
use Rattle.field.specs.Products.{add_products, accumulated}
use Rattle.field.proofs.Accumulate.{length_new, new-at, outside}
use Rattle.field.proofs.products.add_products.Goals.{Start, In-loop-i}
use Rattle.field.proofs.products.add_products.Goals as goal

pub loop-i-init : goal.loop-i-init
loop-i-init c = let a = c.args in
    let apart = c.requires.below.2 in
    let len = length_new a.f.modulus a.c a.t.now a.from a.to a.values.now apart in
    sym (turned_none (length a.t.now) a.to _ a.values.now apart.second len)

-- a turn
module _ (c : goal.In-loop-i) where
  abbrev start : goal.Start
  start = (goal.at.In-loop-i c).Start

  abbrev n : ℕ
  n = length start.args.t.now

  abbrev i : ℕ
  i = c.loop-i.i

  abbrev changed : List ℕ
  changed = add_products start.args.f.modulus start.args.c start.args.t.now (stretch n start.args.from start.args.values.now) (stretch n start.args.to start.args.values.now)

  apart : Apart n start.args.from start.args.to (length start.args.values.now)
  apart = start.requires.below.2

  length-changed : length changed ≡ n
  length-changed = length_new start.args.f.modulus start.args.c start.args.t.now start.args.from start.args.to start.args.values.now apart

  factor : get_or c.loop-i.values (start.args.from + i) 0 ≡ get_or start.args.values.now (start.args.from + i) 0
  factor =
      ap (λ (x : List ℕ). get_or x (start.args.from + i) 0) c.loop-i.invariant
      ∙ turned_outside n start.args.to changed start.args.values.now apart.second length-changed i (start.args.from + i)
      (outside start.args.f.modulus start.args.c start.args.t.now start.args.from start.args.to start.args.values.now apart i c.loop-i-test.true)

  summand : get_or c.loop-i.values (start.args.to + i) 0 ≡ get_or start.args.values.now (start.args.to + i) 0
  summand =
      ap (λ (x : List ℕ). get_or x (start.args.to + i) 0) c.loop-i.invariant
      ∙ turned-here n start.args.to changed start.args.values.now apart.second length-changed i c.loop-i-test.true

pub bounds-values-from : goal.bounds-values-from
bounds-values-from c = omega (arith, (apart (goal.at.bounds-values-from c).In-loop-i).first)

-- a symbol of the field has as many bits as its degree says
module _ (c : goal.In-loop-i) where
  sized : (x : ℕ) → x < 2 ^ degree (start c).args.f.modulus → x < 2 ^ (start c).args.f.degree
  sized x h = subst (λ (k : ℕ). x < 2 ^ k) (sym (start c).requires.sized.0.right) h

  every : (xs : List ℕ) → Below (2 ^ degree (start c).args.f.modulus) xs → (k : ℕ) → get_or xs k 0 < 2 ^ degree (start c).args.f.modulus
  every xs h = All-at (λ (x : ℕ). x < 2 ^ degree (start c).args.f.modulus) xs 0 h (pow_pos (degree (start c).args.f.modulus))

pub times-requires : goal.times-requires
unfolding ◌⊕◌
times-requires c = let here = (goal.at.times-requires c).In-loop-i in
    let a = (start here).args in
    let pre = (start here).requires in (
      pre.sized.0.right,
      pre.sized.0.positive,
      pre.sized.0.small,
      sized here _ (xor_below (degree a.f.modulus) (every here a.t.now pre.below.0 (i here)) pre.sized.1),
      sized here _ (rw (factor here) (every here a.values.now pre.below.1 (a.from + i here))),
    )

pub bounds-values-to : goal.bounds-values-to
bounds-values-to c = omega (arith, (apart (goal.at.bounds-values-to c).In-loop-i).second)

pub bounds-values-to-in-loop-i : goal.bounds-values-to-in-loop-i
bounds-values-to-in-loop-i c = omega (arith, (apart (goal.at.bounds-values-to-in-loop-i c).In-loop-i).second)

pub loop-i-preserved : goal.loop-i-preserved
unfolding ◌⊕◌
loop-i-preserved c = let here = (goal.at.loop-i-preserved c).In-loop-i in
    let a = (start here).args in
    let v = here.loop-i.values in
    let x : ℕ = get_or v (a.to + i here) 0 ⊕ c.times.result in
    let e : x ≡ get_or (changed here) (i here) 0 =
    ap₂ ◌⊕◌ (summand here) (c.times.ensures ∙ ap (product a.f.modulus (get_or a.t.now (i here) 0 ⊕ a.c)) (factor here))
    ∙ sym (new-at a.f.modulus a.c a.t.now a.from a.to a.values.now (apart here) (i here) here.loop-i-test.true) in
    ap₂ (λ (z : List ℕ) (y : ℕ). set z (a.to + i here) y) here.loop-i.invariant e
    ∙ turned-next (n here) a.to (changed here) a.values.now (apart here).second (length-changed here) (i here) here.loop-i-test.true

pub returns : goal.returns
unfolding accumulated
returns c = let start = (goal.at.returns c).Start in
    let a = start.args in
    let apart = start.requires.below.2 in
    let len = length_new a.f.modulus a.c a.t.now a.from a.to a.values.now apart in
    let last : c.loop-i.i ≡ length a.t.now = omega arith in
    c.loop-i.invariant
    ∙ ap (turned (length a.t.now) a.to _ a.values.now) last
    ∙ turned-all (length a.t.now) a.to _ a.values.now apart.second len
