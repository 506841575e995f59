use mathlib.Core.Path.{◌≡◌, sym, ◌∙◌, subst}
use Prim.Native.Nat.{ℕ, ◌-◌, ◌*◌, ◌%◌, ◌^◌, ◌≤◌, ◌<◌}
use native.Mathlib.Omega.{arith}
use lib.ListN.{length, take, drop}
use lib.Pow.{pow_mono}
use lib.Seq.{length-take-le}
use Rattle.proximity.specs.Dim.{S}
use Rattle.proximity.specs.Tree.{S_node}
use Rattle.proximity.specs.ByLine.{InRange}
use Rattle.proximity.specs.LineLaws.{S-small, line_falls}
use Rattle.prover.specs.Prover.{Proving}
use Rattle.rows.proofs.Passes.{power}
use Rattle.prover.proofs.Progress.{Progress, in_table, code_word, proved_leaf, progress_none, progress_turn, progress_all, line_in_range, line_facts}
use Rattle.prover.proofs.write.+prove_in.Goals.{After-line_at-line, After-line_proof_end-end}
use Rattle.prover.proofs.write.+prove_in.Goals as goal

pub returns-then-k-le6 : goal.returns-then-k-le6
returns-then-k-le6 t c = proved_leaf c.args.f.modulus c.args.k c.args.images.now c.args.word.now c.args.proof.now c.if-k-le6.true c.requires.1

pub fill_rows-requires : goal.fill_rows-requires
fill_rows-requires t c =
    let a = c.args in
    let p = c.requires in
    let w = code_word a.f a.k a.images.now a.word.now p.0 in record {
      in_table = (in_table a.f a.k a.images.now a.word.now p.0 (omega arith), w.0, w.1);
      k_in_bounds = (omega (arith, p.1, S_node a.k (omega arith)), p.2);
    }

-- the rows are stored
pub loop-i-init : goal.loop-i-init
loop-i-init t c =
    let a = c.args in
    let p = c.requires in
    progress_none a.f.modulus p.0.irreducible a.k (omega arith) p.0.high a.images.now a.word.now c.fill_rows.new.proof (c.fill_rows.auto.proof ∙ p.1) c.fill_rows.ensures

-- a line is chosen
module _ (t : ℕ) (c : goal.After-line_at-line t) where
  in_range : InRange c.args.k c.line_at-line.result
  in_range =
      let a = c.args in
      line_in_range a.f a.k a.images.now a.word.now c.requires.0 (omega arith) c.deep_lines-count.result c.loop-i.i c.deep_lines-count.ensures.0 c.loop-i-test.true
      c.loop-i.proof c.loop-i.invariant c.line_at-line.result c.line_at-line.ensures

pub line_word-inner-requires : goal.line_word-inner-requires
line_word-inner-requires t c =
    let a = c.args in
    let p = c.requires in (
      omega arith,
      p.0.high,
      (code_word a.f a.k a.images.now a.word.now p.0).0,
      omega (arith, c.loop-i.invariant.long, S_node a.k (omega arith)),
      in_range t (goal.at.line_word-inner-requires t c).After-line_at-line,
    )

-- all numbers of the line are there
module _ (t : ℕ) (c : goal.After-line_proof_end-end t) where
  large-k : 7 ≤ c.args.k
  large-k = omega arith

  abbrev m : ℕ
  m = c.line_dimension-m.result

  abbrev size : ℕ
  size = 1 * 2 ^ m % 18446744073709551616

  low : m < c.args.k
  low = omega (arith, c.line_dimension-m.ensures, line_falls c.args.k large-k c.line_at-line.result)

  size_is : size ≡ 2 ^ m
  size_is = power m (omega (arith, low, c.requires.0.high))

  facts : (size ≤ length c.line_word-inner.result) × ((c.line_proof_at-at.result ≤ c.line_proof_end-end.result) × (c.line_proof_end-end.result ≤ length c.loop-i.proof))
      × Proving c.args.f m c.line_images-table.result (take size c.line_word-inner.result)
      × (length (take (c.line_proof_end-end.result - c.line_proof_at-at.result) (drop c.line_proof_at-at.result c.loop-i.proof)) ≡ S m)
  facts =
      let a = c.args in
      line_facts a.f a.k a.images.now a.word.now c.requires.0 large-k c.deep_lines-count.result c.loop-i.i c.deep_lines-count.ensures.0 c.loop-i-test.true
      c.loop-i.proof c.loop-i.invariant c.line_at-line.result c.line_at-line.ensures m size c.line_proof_at-at.result c.line_proof_end-end.result c.line_dimension-m.ensures size_is
      c.line_proof_at-at.ensures c.line_proof_end-end.ensures c.line_word-inner.result c.line_images-table.result c.line_word-inner.ensures c.line_images-table.ensures

pub slice_bounds-inner-end : goal.slice_bounds-inner-end
slice_bounds-inner-end t c = (facts t (goal.at.slice_bounds-inner-end t c).After-line_proof_end-end).0

pub slice_bounds-prove_in-end : goal.slice_bounds-prove_in-end
slice_bounds-prove_in-end t c =
    let e = (goal.at.slice_bounds-prove_in-end t c).After-line_proof_end-end in
    sym (length-take-le (size t e) c.line_word-inner.result (facts t e).0)

pub offset_bounds-proof-at : goal.offset_bounds-proof-at
offset_bounds-proof-at t c =
    let e = (goal.at.offset_bounds-proof-at t c).After-line_proof_end-end in
    omega (arith, (facts t e).1.0, (facts t e).1.1, c.loop-i.invariant.long, S-small c.args.k (omega (arith, c.requires.0.high)))

pub slice_bounds-prove_in-end-in-loop-i : goal.slice_bounds-prove_in-end-in-loop-i
slice_bounds-prove_in-end-in-loop-i t c = (facts t (goal.at.slice_bounds-prove_in-end-in-loop-i t c).After-line_proof_end-end).1.1

pub prove_in-requires : goal.prove_in-requires
prove_in-requires t c =
    let e = (goal.at.prove_in-requires t c).After-line_proof_end-end in
    let a = c.args in (
      omega (arith, low t e, c.decreases),
      (
        (facts t e).2,
        (facts t e).3,
        omega (arith, pow_mono {i = m t e} {j = a.k} (omega (arith, low t e)), c.loop-i.auto.work, c.fill_rows.auto.work, c.requires.2),
      ),
    )

pub loop-i-preserved : goal.loop-i-preserved
loop-i-preserved t c =
    let e = (goal.at.loop-i-preserved t c).After-line_proof_end-end in
    let a = c.args in
    progress_turn a.f a.k a.images.now a.word.now c.requires.0 (large-k t e) c.deep_lines-count.result c.loop-i.i c.deep_lines-count.ensures.0 c.loop-i-test.true
    c.loop-i.proof c.loop-i.invariant c.line_at-line.result c.line_at-line.ensures (m t e) (size t e) c.line_proof_at-at.result c.line_proof_end-end.result c.line_dimension-m.ensures (size_is t e)
    c.line_proof_at-at.ensures c.line_proof_end-end.ensures c.line_word-inner.result c.line_images-table.result c.line_word-inner.ensures c.line_images-table.ensures
    c.prove_in.new.proof c.prove_in.auto.proof c.prove_in.ensures

pub returns : goal.returns
returns t c =
    let l = c.loop-i in
    let a = c.args in
    let p = c.requires.0 in
    let last : l.i ≡ c.deep_lines-count.result = omega arith in
    progress_all a.f.modulus p.irreducible a.k (omega arith) p.high a.images.now a.word.now c.deep_lines-count.result c.deep_lines-count.ensures.0 l.proof
    (subst (λ (i : ℕ). Progress a.f.modulus a.k a.images.now a.word.now i l.proof) last l.invariant)
