use mathlib.Core.Path.{◌≡◌, ap, ◌∙◌}
use Prim.Native.Nat.{ℕ, ◌+◌, ◌*◌, ◌-◌, ◌/◌}
use native.Mathlib.Omega.{arith}
use lib.ListN.{length}
use borrow.Rule.Slice.PartMut.{put_mid}
use Rattle.lists.specs.Filled.{put-filled}
use Rattle.lists.specs.Overwrite.{length_cut}
use Rattle.proximity.proofs.Rows.{row_low, row-filled}
use Rattle.proximity.proofs.spaces.row_images.Goals.{Start}
use Rattle.proximity.proofs.spaces.row_images.Goals as goal

pub returns-then-r-lt4 : goal.returns-then-r-lt4
returns-then-r-lt4 c = let s = (goal.at.returns-then-r-lt4 c).Start in row_low s.args.images.now s.args.k s.requires.0 s.requires.1 s.requires.2 s.args.r c.if-r-lt4.true

pub returns : goal.returns
returns c = let a = c.args in
    let pre = c.requires in
    let t = a.images.now in
    let x = c.copy_from_slice.new.self in
    let p : ℕ = 16 * (a.k / 2 + 2) in
    let long : length x ≡ 16 = c.copy_from_slice.ensures.len ∙ length_cut p 16 t (omega (arith, pre.2)) in
    let count : p + 16 - p ≡ 16 = omega arith in
    ap (λ (n : ℕ). put_mid p n t x) count
    ∙ row-filled t a.k pre.0 pre.1 pre.2 a.r x (put_mid p 16 t x) (omega arith) (c.copy_from_slice.ensures.after ∙ c.element_images-x.ensures) (put-filled p 16 t x (omega (arith, pre.2)) long)
