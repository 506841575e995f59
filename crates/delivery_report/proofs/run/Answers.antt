use mathlib.Core.Path.{◌≡◌, sym, ◌∙◌, subst}
use Rattle.std.specs.Prelude.{Ok}
use mathlib.Core.List.{List}
use Prim.Native.Nat.{ℕ, ◌+◌, ◌-◌, ◌≤◌}
use native.Mathlib.Omega.{arith}
use lib.ListN.{length, take, drop, length-drop}
use lib.Seq.{length-take-le}
use Rattle.lists.specs.Decides.{decides_true}
use Rattle.lists.specs.Overwrite.{length-put}
use Rattle.stored.specs.File.{file_limit}
use Rattle.report.specs.Bounds.{told_bounded}
use Rattle.report.specs.Entry.{Told}
use Rattle.report.specs.Report.{GoesOn, Added}
use Rattle.report.specs.Steps.{next-added}
use Rattle.report.specs.declared.Report.{Report}
use borrow.Rule.Slice.PartMut.{put_mid}
use Rattle.delivery_report.proofs.run.Goals.{At-loop-bytes, After-read_full-n, After-next-report, In-Ok}
use Rattle.delivery_report.proofs.run.Goals as goal

pub loop-bytes-init : goal.loop-bytes-init
loop-bytes-init c = (c.window-bytes.ensures, omega arith)

pub slice_bounds-read_full-count : goal.slice_bounds-read_full-count
slice_bounds-read_full-count c = let h = (goal.at.slice_bounds-read_full-count c).At-loop-bytes in omega (arith, h.loop-bytes.invariant.0, h.loop-bytes.invariant.1)

-- more bytes are held
module _ (c : goal.After-read_full-n) where
  abbrev head : goal.At-loop-bytes
  head = (goal.at.After-read_full-n c).At-loop-bytes

  abbrev before : ℕ
  before = head.loop-bytes.n

  abbrev held : ℕ
  held = before + c.read_full-n.result

  abbrev bytes : List ℕ
  bytes = put_mid before (file_limit - before) head.loop-bytes.bytes c.read_full-n.new.buf

  read : length c.read_full-n.new.buf ≡ file_limit - before
  read = c.read_full-n.auto.buf ∙ length-take-le (file_limit - before) (drop before head.loop-bytes.bytes) (omega (arith, length-drop before head.loop-bytes.bytes, head.loop-bytes.invariant.0))

  whole : length bytes ≡ file_limit
  whole = length-put before (file_limit - before) head.loop-bytes.bytes c.read_full-n.new.buf (omega (arith, head.loop-bytes.invariant.0, head.loop-bytes.invariant.1)) read ∙ head.loop-bytes.invariant.0

  few : held ≤ file_limit
  few = omega (arith, c.read_full-n.ensures.0, read, head.loop-bytes.invariant.1)

  seen : length (take held bytes) ≡ held
  seen = length-take-le held bytes (omega (arith, whole, few))

pub overflow_add-n : goal.overflow_add-n
overflow_add-n c = omega (arith, few (goal.at.overflow_add-n c).After-read_full-n)

pub slice_bounds-bytes-end-in-loop-bytes : goal.slice_bounds-bytes-end-in-loop-bytes
slice_bounds-bytes-end-in-loop-bytes c = let f = (goal.at.slice_bounds-bytes-end-in-loop-bytes c).After-read_full-n in omega (arith, whole f, few f)

pub slice_bounds-next-end : goal.slice_bounds-next-end
slice_bounds-next-end c = sym (seen (goal.at.slice_bounds-next-end c).After-read_full-n)

-- one more file is read
module _ (c : goal.After-next-report) where
  abbrev filled : goal.After-read_full-n
  filled = (goal.at.After-next-report c).After-read_full-n

  abbrev p : Report
  p = (head filled).loop-bytes.report

  on : GoesOn p
  on = decides_true (GoesOn p) c.goes_on.ensures c.loop-bytes-test.true

  added : Added (take (held filled) (bytes filled)) p c.next-report.result
  added = next-added (take (held filled) (bytes filled)) p c.next-report.result on (omega (arith, seen filled, c.if-n-eq0.false)) c.next-report.ensures

-- it was accepted
module _ (c : goal.In-Ok) where
  abbrev next : goal.After-next-report
  next = (goal.at.In-Ok c).After-next-report

  fits : c.in-Ok.e.end ≤ held (filled next)
  fits =
      let a = added next in
      let bytes' = take (held (filled next)) (bytes (filled next)) in
      let same : a.entry ≡ Ok c.in-Ok.e = cc in
      omega (arith, (told_bounded bytes' c.in-Ok.e (subst (Told bytes') same a.told)).end, seen (filled next))

pub slice_bounds-slide-end : goal.slice_bounds-slide-end
slice_bounds-slide-end c = let f = filled (next (goal.at.slice_bounds-slide-end c).In-Ok) in omega (arith, whole f)

pub slide-requires : goal.slide-requires
slide-requires c = let g = (goal.at.slide-requires c).In-Ok in
    let f = filled (next g) in
    (fits g, omega (arith, whole f, few f))

pub overflow_sub-n : goal.overflow_sub-n
overflow_sub-n c = fits (goal.at.overflow_sub-n c).In-Ok

pub loop-bytes-smaller : goal.loop-bytes-smaller
loop-bytes-smaller c = let g = (goal.at.loop-bytes-smaller c).After-next-report in omega (arith, (added g).read, (on g).room)

pub loop-bytes-preserved : goal.loop-bytes-preserved
loop-bytes-preserved c = let f = filled (goal.at.loop-bytes-preserved c).After-next-report in
    (omega (arith, c.slide.auto.window, whole f), omega (arith, few f))
