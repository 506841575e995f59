use Prim.Native.Nat.{◌≤◌}
use native.Mathlib.Omega.{arith}
use Rattle.host.proofs.Laws.{few_accepted, few_rejected}
use Rattle.host.proofs.degree.proximity_check_degree.Goals.{In-Ok-Reject}
use Rattle.host.proofs.degree.proximity_check_degree.Goals as goal

pub overflow_cast-reads : goal.overflow_cast-reads
overflow_cast-reads c = let e = c.in-Ok-Accept in
    record { fits = omega (arith, few_accepted c.args.file.now c.args.coin e.n (rw e.field-0-is at e.ensures)) }

-- a reject
small : (c : goal.In-Ok-Reject) → (c.in-Ok-Reject.r.reads ≤ 64) × (c.in-Ok-Reject.r.degree ≤ 63) × (c.in-Ok-Reject.r.dimension ≤ 6)
small c = let e = c.in-Ok-Reject in few_rejected c.args.file.now c.args.coin e.r (rw e.field-0-is at e.ensures)

pub overflow_cast-reads-in-Ok-Reject : goal.overflow_cast-reads-in-Ok-Reject
overflow_cast-reads-in-Ok-Reject c = record { fits = omega (arith, (small (goal.at.overflow_cast-reads-in-Ok-Reject c).In-Ok-Reject).0) }

pub overflow_cast-degree : goal.overflow_cast-degree
overflow_cast-degree c = record { fits = omega (arith, (small (goal.at.overflow_cast-degree c).In-Ok-Reject).1) }

pub overflow_cast-dimension : goal.overflow_cast-dimension
overflow_cast-dimension c = record { fits = omega (arith, (small (goal.at.overflow_cast-dimension c).In-Ok-Reject).2) }
