use mathlib.Core.Path.{◌≡◌, sym, ◌∙◌, transport}
use mathlib.Core.Bool.{false}
use mathlib.Core.List.{List}
use Prim.Native.Nat.{ℕ, ◌≤◌}
use native.Mathlib.Omega.{arith}
use lib.ListN.{length, take}
use lib.Seq.{length-take-le}
use Rattle.stored.specs.Bytes.{numbers_at}
use Rattle.stored.specs.File.{setting_record, word_record_at, modulus_in, basis_in}
use Rattle.filing.specs.Put.{Put}
use Rattle.filing.proofs.conversion.copy_setting.Goals.{Start, After-basis_at-basis, After-put_setting}
use Rattle.filing.proofs.conversion.copy_setting.Goals as goal

-- the basis is the first k of the 16 numbers
module _ (c : goal.After-basis_at-basis) where
  abbrev start : goal.Start
  start = (goal.at.After-basis_at-basis c).Start

  abbrev bytes : List ℕ
  bytes = start.args.file.now

  abbrev k : ℕ
  k = start.args.k

  room : k ≤ length c.basis_at-basis.result
  room = omega (arith, start.requires.0, c.basis_at-basis.ensures.0)

  long : length (take k c.basis_at-basis.result) ≡ k
  long = length-take-le k c.basis_at-basis.result room

  basis : take k c.basis_at-basis.result ≡ basis_in bytes
  unfolding basis_in
  basis = c.basis_at-basis.ensures.1 ∙ λ i. numbers_at false bytes 7 (start.requires.2 i)

pub slice_bounds-basis-end : goal.slice_bounds-basis-end
slice_bounds-basis-end c = room c

pub slice_bounds-put_setting-end : goal.slice_bounds-put_setting-end
slice_bounds-put_setting-end c = sym (long (goal.at.slice_bounds-put_setting-end c).After-basis_at-basis)

pub put_setting-requires : goal.put_setting-requires
put_setting-requires c = let b = (goal.at.put_setting-requires c).After-basis_at-basis in
    let s = start b in
    (omega (arith, long b, s.requires.0), transport (λ i. word_record_at s.args.to (sym (long b) i) ≤ length s.args.out.now) s.requires.3)

-- the record
module _ (c : goal.After-put_setting) where
  abbrev made : goal.After-basis_at-basis
  made = (goal.at.After-put_setting c).After-basis_at-basis

  abbrev new : List ℕ
  new = c.put_setting.new.out

  written : Put 0 (setting_record (start made).args.to (modulus_in (bytes made)) (basis_in (bytes made)) 0) (start made).args.out.now new
  written =
      transport (λ i. Put 0 (setting_record (start made).args.to (made.four_at-modulus.ensures i) (basis made i) 0) (start made).args.out.now new) c.put_setting.ensures

pub shape_of-out : goal.shape_of-out
shape_of-out c = (written (goal.at.shape_of-out c).After-put_setting).kept

pub returns : goal.returns
returns c = written (goal.at.returns c).After-put_setting
