use mathlib.Core.Path.{◌≡◌, sym, ap, subst, ◌∙◌}
use mathlib.Core.List.{List}
use Prim.Native.Nat.{ℕ, ◌-◌, ◌^◌, ◌≤◌}
use native.Mathlib.Omega.{arith}
use lib.ListN.{length, take}
use lib.Pow.{pow_mono}
use lib.Seq.{take_all}
use Rattle.lists.specs.All.{Below}
use Rattle.lists.specs.Decides.{decides_true}
use Rattle.lists.specs.Stretch.{stretch}
use Rattle.field.specs.Binary.{degree}
use Rattle.field.specs.Symbols.{symbols}
use Rattle.poly.specs.Span.{elem}
use Rattle.poly.proofs.Span.{elem_sym}
use Rattle.poly.proofs.Shift.{word-at-values}
use Rattle.space.specs.Sizes.{max_dim, max_coefficients}
use Rattle.space.specs.Usable.{ready_field}
use Rattle.novel.specs.Shift.{Shifted}
use Rattle.codec.proofs.encoder.encode_with.Goals.{Start, After-taken-moved}
use Rattle.codec.proofs.encoder.encode_with.Goals as goal

few : (c : goal.Start) → length c.args.coefficients.now ≤ max_coefficients
few c = let k = c.args.s.space.k in omega (arith, c.requires.1.eighth, pow_mono {i = k - 3} {j = max_dim - 3} (omega (arith, c.requires.0.high)))

pub taken-moved-requires : goal.taken-moved-requires
taken-moved-requires c = (omega arith, few (goal.at.taken-moved-requires c).Start)

-- ---- past check 9, with the coefficients in front of an array of their own
module _ (c : goal.After-taken-moved) where
  abbrev p : List ℕ
  p = c.args.coefficients.now

  below : Below (2 ^ degree c.args.s.field.modulus) p
  below = decides_true (Below (2 ^ degree c.args.s.field.modulus) p) c.all_symbols.ensures c.if-not-all_symbols.false

  front-is : take (length p) c.taken-moved.result ≡ p
  unfolding stretch
  front-is = c.taken-moved.ensures.right ∙ take_all (length p) p (omega arith)

pub slice_bounds-moved-end : goal.slice_bounds-moved-end
slice_bounds-moved-end c = omega (arith, c.taken-moved.ensures.count, few (goal.at.After-taken-moved c).Start)

pub slice_bounds-front-end : goal.slice_bounds-front-end
slice_bounds-front-end c = sym (ap length (front-is (goal.at.slice_bounds-front-end c).After-taken-moved))

pub shift_powers-requires : goal.shift_powers-requires
shift_powers-requires c = let u = c.requires.0 in
    let at = (goal.at.shift_powers-requires c).After-taken-moved in
    (u.sized, u.irreducible, omega (arith, u.shift), omega (arith, u.high), subst (Below (2 ^ degree c.args.s.field.modulus)) (sym (front-is at)) (below at), ap length (front-is at) ∙ c.requires.1.eighth)

pub write_word-requires : goal.write_word-requires
write_word-requires c = let l = c.requires.1 in
    let at = (goal.at.write_word-requires c).After-taken-moved in
    (c.requires.0, record { eighth = c.shift_powers.ensures.kept ∙ ap length (front-is at) ∙ l.eighth; whole = l.whole; room = l.room }, c.shift_powers.ensures.below)

pub returns : goal.returns
returns c = let at = (goal.at.returns c).After-taken-moved in
    let q = c.args.s.field.modulus in
    let σ = c.args.s.shift in
    let new = c.shift_powers.new.values in
    let shifted = subst (λ (l : List ℕ). Shifted q σ l new) (front-is at) c.shift_powers.ensures in (
      below at,
      λ bs r. c.write_word.ensures bs r
          ∙ word-at-values (ready_field r) σ (length bs) bs (p at) new (λ i. shifted.values (elem (symbols q) bs i) (elem_sym (ready_field r) bs i r.sound.basis.elements)),
    )
