-- The loop's invariant: block j of the first r rows is stored.
use Rattle.rows.specs.Rows.{PassStored}
use Rattle.rows.proofs.store_rows.Given as goal

abbrev pub invariant-loop-r : goal.invariant-loop-r
invariant-loop-r l = PassStored l.k l.j l.r l.values l.initial.proof l.proof
