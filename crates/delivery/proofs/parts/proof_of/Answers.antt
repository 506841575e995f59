use mathlib.Core.Path.{◌≡◌, sym, ◌∙◌, subst}
use mathlib.Core.List.{List}
use Prim.Native.Nat.{ℕ, ◌≤◌}
use native.Mathlib.Omega.{arith}
use lib.ListN.{length, take}
use lib.Pow.{pow_mono}
use lib.Seq.{length-take-le}
use Rattle.codec.specs.Scratch.{scratch_for}
use Rattle.prover.specs.Calls.{ProofAt}
use Rattle.stored.specs.File.{small_dim}
use Rattle.stored.specs.Short.{short-proof}
use Rattle.delivery.specs.Steps.{proven}
use Rattle.delivery.proofs.Laws.{length_back, front-back}
use Rattle.delivery.proofs.parts.proof_of.Goals.{Start, After-no_scratch-scratch, After-prove}
use Rattle.delivery.proofs.parts.proof_of.Goals as goal

-- the part that is lent
module _ (c : goal.After-no_scratch-scratch) where
  abbrev start : goal.Start
  start = (goal.at.After-no_scratch-scratch c).Start

  abbrev n : ℕ
  n = c.proof_length-s.result

  abbrev zeros : List ℕ
  zeros = c.no_proof-proof.result

  fits : n ≤ length zeros
  fits = omega (arith, short-proof (length start.args.basis.now) start.requires.0.few, c.proof_length-s.ensures, c.no_proof-proof.ensures)

  part : length (take n zeros) ≡ n
  part = length-take-le n zeros fits

  room : scratch_for (length start.args.basis.now) ≤ length c.no_scratch-scratch.result
  room = omega (arith, pow_mono {i = length start.args.basis.now} {j = small_dim} start.requires.0.few, c.no_scratch-scratch.ensures)

pub slice_bounds-proof-end : goal.slice_bounds-proof-end
slice_bounds-proof-end c = fits c

pub slice_bounds-prove-end : goal.slice_bounds-prove-end
slice_bounds-prove-end c = sym (part (goal.at.slice_bounds-prove-end c).After-no_scratch-scratch)

pub returns : goal.returns
returns c = let e = (goal.at.returns c).After-prove in
    let s = (goal.at.returns c).After-no_scratch-scratch in
    let a = (start s).args in
    let new : List ℕ = e.prove.new.proof in
    let long : length new ≡ n s = e.prove.auto.proof ∙ part s in
    let count = s.proof_length-s.ensures in (
      length_back (n s) new (zeros s) long (fits s) ∙ s.no_proof-proof.ensures,
      subst (ProofAt a.modulus a.basis.now a.shift a.word.now) (sym (front-back (n s) new (zeros s) long count))
          (proven a.modulus a.basis.now a.shift (start s).requires.0.sound a.word.now (take (n s) (zeros s)) new s.no_scratch-scratch.result e.prove.new.scratch e.prove.result
          (start s).requires.1 (part s ∙ count) (room s) e.prove.ensures),
    )
