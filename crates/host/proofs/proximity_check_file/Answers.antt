use native.Mathlib.Omega.{arith}
use Rattle.host.proofs.Laws.{few_accepted, few_rejected}
use Rattle.host.proofs.proximity_check_file.Goals as goal

pub overflow_cast-reads : goal.overflow_cast-reads
overflow_cast-reads c = let e = c.in-Ok-Accept in
    record { fits = omega (arith, few_accepted c.args.file.now c.args.coin e.n (rw e.field-0-is at e.ensures)) }

pub overflow_cast-reads-in-Ok-Reject : goal.overflow_cast-reads-in-Ok-Reject
overflow_cast-reads-in-Ok-Reject c = let e = c.in-Ok-Reject in
    record { fits = omega (arith, (few_rejected c.args.file.now c.args.coin e.r (rw e.field-0-is at e.ensures)).0) }
