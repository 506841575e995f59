use mathlib.Core.Path.{sym, ◌∙◌, subst}
use mathlib.Core.List.{List}
use Prim.Native.Nat.{ℕ, ◌+◌}
use native.Mathlib.Omega.{arith}
use Rattle.rows.specs.Rows.{PassStored}
use Rattle.rows.proofs.Stores.{pass_skip, pass_next}
use Rattle.rows.proofs.store_rows.Goals.{Start, At-loop-r, then-j-slot, else-j-slot}
use Rattle.rows.proofs.store_rows.Goals as goal

pub loop-r-preserved : goal.loop-r-preserved
loop-r-preserved c = let head = (goal.at.loop-r-preserved c).At-loop-r in
    let s = (goal.at.At-loop-r head).Start in
    let a = s.args in
    let n = head.loop-r.r in
    let next : List ℕ → Type 0 = λ π. PassStored a.k a.j (n + 1) a.values.now a.proof.now π in
    elim c.if-j-slot.branch [
      | then-j-slot w ↦
          subst next (sym w.proof-is) (pass_next a.k a.j s.requires.2 a.values.now a.proof.now s.requires.4 n (omega (arith, head.rows-rows.ensures)) head.loop-r.proof w.store_lane.new.proof
          (λ e. w.if-j-slot.true (e ∙ sym c.slot.ensures)) head.loop-r.invariant w.store_lane.ensures)
      | else-j-slot w ↦ subst next (sym w.proof-is) (pass_skip a.k a.j s.requires.2 a.values.now a.proof.now s.requires.4 n head.loop-r.proof (w.if-j-slot.false ∙ c.slot.ensures) head.loop-r.invariant)
    ]
