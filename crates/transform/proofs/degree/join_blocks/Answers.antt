use mathlib.Core.Path.{◌≡◌, sym, ◌∙◌, subst, transport}
use mathlib.Core.List.{List}
use Prim.Native.Nat.{ℕ, ◌-◌, ◌*◌, ◌/◌, ◌%◌, ◌^◌, ◌≤◌, ◌<◌}
use native.Mathlib.Omega.{arith}
use lib.ListN.{length, take, drop}
use lib.Pow.{pow_pos, pow_mono}
use lib.Seq.{take_at, length-take-le, length_front}
use Rattle.lists.specs.All.{Below}
use Rattle.field.specs.Binary.{degree}
use Rattle.field.specs.declared.Field.{Field}
use Rattle.poly.specs.Blocks.{eighths}
use Rattle.space.specs.Images.{upper_images, upper_each}
use Rattle.transform.specs.Blocks.{InBlocks}
use Rattle.transform.specs.Lanes.{Interpolated}
use Rattle.transform.specs.Slices.{Transposed}
use Rattle.transform.proofs.Layers.{power}
use Rattle.transform.proofs.DegreeLaws.{blocks_joined, zeros-small, transposed_small}
use Rattle.transform.proofs.degree.join_blocks.Goals as goal

-- the sizes
module _ (k : ℕ) (low : 3 ≤ k) (high : k ≤ 6) where
  abbrev n : ℕ
  n = 1 * 2 ^ k % 18446744073709551616

  whole : n ≡ 2 ^ k
  whole = power k (omega (arith, high))

  size : n / 8 ≡ 2 ^ (k - 3)
  size = omega (arith, whole, eighths k low)

  few : n ≤ 64
  few = omega (arith, whole, pow_mono {i = k} {j = 6} high)

  whole-size : n ≡ 8 * 2 ^ (k - 3)
  whole-size = whole ∙ eighths k low

-- the blocks one after the other
module _ (f : Field) (images : List ℕ) (k : ℕ) (blocks : List ℕ) (taken : InBlocks f images k (take (2 ^ k) blocks)) (high : k ≤ 6) (full : length blocks ≡ 64)
    (room out : List ℕ) (room-long : length room ≡ 64) {rows cols : ℕ} (put : Transposed rows cols blocks room out) where
  abbrev m : ℕ
  m = n k taken.low high

  out-long : length out ≡ 64
  out-long = put.kept ∙ room-long

  front : length (take m out) ≡ m
  front = length-take-le m out (omega (arith, few k taken.low high, out-long))

  symbols-front : cols * rows ≡ m → Below (2 ^ degree f.modulus) (take m out)
  symbols-front all =
      let le = few k taken.low high in
      subst (λ (s : ℕ). Below (2 ^ degree f.modulus) (take s out)) all
      (transposed_small (λ (x : ℕ). x < 2 ^ degree f.modulus) rows cols blocks room out (omega (arith, all, le, full)) (omega (arith, all, le, out-long)) put
      (subst (λ (s : ℕ). Below (2 ^ degree f.modulus) (take s blocks)) (sym (all ∙ whole k taken.low high)) taken.symbols))

pub interpolate-requires : goal.interpolate-requires
interpolate-requires c =
    let a = c.args in
    let taken = c.requires.0 in
    let high = c.requires.1 in
    let out = c.transpose.new.to in
    let bound = 2 ^ degree a.f.modulus in
    let some : 0 < bound = pow_pos (degree a.f.modulus) in
    let zeros = c.no_lanes-lanes in
    let w = whole-size a.k taken.low high in
    record {
      sized = taken.sized;
      few = omega arith;
      long = front a.f a.images.now a.k a.blocks taken high c.requires.2 c.no_symbols-out.result out c.no_symbols-out.ensures c.transpose.ensures
          ∙ omega (arith, w, size a.k taken.low high);
      room = omega (arith, few a.k taken.low high, zeros.ensures.count);
      image-symbols = subst (Below bound) (sym c.upper_images-upper.ensures) (upper_each (λ (x : ℕ). x < bound) (a.k - 3) a.images.now some taken.image-symbols);
      lane-symbols = zeros-small bound zeros.result some zeros.ensures.each;
      shift_symbols = zeros-small bound c.no_shift.result some c.no_shift.ensures.each;
      symbols = symbols-front a.f a.images.now a.k a.blocks taken high c.requires.2 c.no_symbols-out.result out c.no_symbols-out.ensures c.transpose.ensures (omega (arith, w));
    }

pub returns : goal.returns
returns c =
    let a = c.args in
    let q = a.f.modulus in
    let taken = c.requires.0 in
    let high = c.requires.1 in
    let room = c.no_symbols-out.result in
    let out = c.transpose.new.to in
    let zeros = c.no_lanes-lanes.result in
    let shift = c.no_shift.result in
    let new = c.interpolate.new.values in
    let e = size a.k taken.low high in
    let w = whole a.k taken.low high in
    let long : length new ≡ n a.k taken.low high =
    c.interpolate.ensures.kept ∙ front a.f a.images.now a.k a.blocks taken high c.requires.2 room out c.no_symbols-out.ensures c.transpose.ensures in
    let moved : Transposed (2 ^ (a.k - 3)) 8 a.blocks room out = subst (λ (s : ℕ). Transposed s 8 a.blocks room out) e c.transpose.ensures in
    let upper : Interpolated q (upper_images (a.k - 3) a.images.now) zeros (n a.k taken.low high / 8) 3 shift (take (n a.k taken.low high) out) new =
    subst (λ (u : List ℕ). Interpolated q u zeros (n a.k taken.low high / 8) 3 shift (take (n a.k taken.low high) out) new) c.upper_images-upper.ensures c.interpolate.ensures in
    let right : Interpolated q (upper_images (a.k - 3) a.images.now) zeros (2 ^ (a.k - 3)) 3 shift (take (2 ^ a.k) out) new =
    transport (λ j. Interpolated q (upper_images (a.k - 3) a.images.now) zeros (e j) 3 shift (take (w j) out) new) upper in (
      length_front out new (n a.k taken.low high) c.interpolate.ensures.kept
          ∙ out-long a.f a.images.now a.k a.blocks taken high c.requires.2 room out c.no_symbols-out.ensures c.transpose.ensures,
      λ b B I word lw each.
          take_at new (drop (n a.k taken.low high) out) (2 ^ a.k) (long ∙ w)
          ∙ blocks_joined q taken.irreducible a.images.now a.k taken.low high b B I word lw a.blocks c.requires.2 each zeros
          shift c.no_lanes-lanes.ensures.each c.no_shift.ensures.each room out new moved (long ∙ w) right,
    )
