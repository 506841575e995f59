-- `delivery_report::run` is safe and ends. The loop's invariant: the window has its size, and n bytes of it are held. Each turn reads one file more.
use mathlib.Core.Path.{◌≡◌}
use Prim.Native.Nat.{◌-◌, ◌≤◌}
use lib.ListN.{length}
use Rattle.stored.specs.File.{file_limit}
use Rattle.report.specs.Report.{most_files}
use Rattle.delivery_report.proofs.run.Given as goal

abbrev pub invariant-loop-bytes : goal.invariant-loop-bytes
invariant-loop-bytes l = (length l.bytes ≡ file_limit) × (l.n ≤ file_limit)

abbrev pub decreases-loop-bytes : goal.decreases-loop-bytes
decreases-loop-bytes l = most_files - l.report.read
