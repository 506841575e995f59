use mathlib.Core.Path.{◌≡◌, sym, ap, ◌∙◌, subst}
use mathlib.Core.List.{List}
use Prim.Native.Nat.{ℕ, ◌≤◌}
use native.Mathlib.Omega.{arith}
use lib.ListN.{length, take}
use lib.Seq.{length-take-le}
use Rattle.field.specs.Symbols.{symbols}
use Rattle.poly.specs.Shift.{word_at}
use Rattle.prover.specs.Calls.{ProofAt}
use Rattle.stored.specs.File.{file_of, small_dim}
use Rattle.stored.specs.Short.{short-proof}
use Rattle.delivery.specs.Steps.{written}
use Rattle.delivery.proofs.Laws.{at_most}
use Rattle.delivery.proofs.parts.write_coefficients.Goals.{Start, After-word_of-word, After-proof_of-proof, After-write_form}
use Rattle.delivery.proofs.parts.write_coefficients.Goals as goal

-- the word
module _ (c : goal.After-word_of-word) where
  abbrev start : goal.Start
  start = (goal.at.After-word_of-word c).Start

  abbrev m : ℕ
  m = start.args.modulus

  abbrev bs : List ℕ
  bs = start.args.basis.now

  abbrev σ : ℕ
  σ = start.args.shift

  abbrev xs : List ℕ
  xs = start.args.coefficients.now

  abbrev n : ℕ
  n = c.power-n.result

  abbrev w : List ℕ
  w = take n c.word_of-word.result

  fits : n ≤ length c.word_of-word.result
  fits = omega (arith, at_most small_dim c.power-n.ensures start.requires.1.few, c.word_of-word.ensures.0)

  part : n ≡ length w
  part = sym (length-take-le n c.word_of-word.result fits)

  word : w ≡ word_at (symbols m) σ (length bs) bs xs
  word = ap (λ (i : ℕ). take i c.word_of-word.result) c.power-n.ensures ∙ c.word_of-word.ensures.1

pub slice_bounds-word-end : goal.slice_bounds-word-end
slice_bounds-word-end c = fits c

pub slice_bounds-proof_of-end : goal.slice_bounds-proof_of-end
slice_bounds-proof_of-end c = part (goal.at.slice_bounds-proof_of-end c).After-word_of-word

pub proof_of-proof-requires : goal.proof_of-proof-requires
proof_of-proof-requires c = let s = start (goal.at.proof_of-proof-requires c).After-word_of-word in (s.requires.1, (xs (goal.at.proof_of-proof-requires c).After-word_of-word, s.requires.2.count, s.requires.2.symbols, word (goal.at.proof_of-proof-requires c).After-word_of-word))

-- its proof
module _ (c : goal.After-proof_of-proof) where
  abbrev here : goal.After-word_of-word
  here = (goal.at.After-proof_of-proof c).After-word_of-word

  abbrev s : ℕ
  s = here.proof_length-s.result

  abbrev π : List ℕ
  π = take s c.proof_of-proof.result

  proof-fits : s ≤ length c.proof_of-proof.result
  proof-fits = omega (arith, short-proof (length (bs here)) (start here).requires.1.few, here.proof_length-s.ensures, c.proof_of-proof.ensures.0)

  proof-part : s ≡ length π
  proof-part = sym (length-take-le s c.proof_of-proof.result proof-fits)

  proof : ProofAt (m here) (bs here) (σ here) (w here) π
  proof = subst (λ (i : ℕ). ProofAt (m here) (bs here) (σ here) (w here) (take i c.proof_of-proof.result)) (sym here.proof_length-s.ensures) c.proof_of-proof.ensures.1

pub slice_bounds-word-end-2 : goal.slice_bounds-word-end-2
slice_bounds-word-end-2 c = fits (here c)

pub slice_bounds-write_form-end : goal.slice_bounds-write_form-end
slice_bounds-write_form-end c = part (here (goal.at.slice_bounds-write_form-end c).After-proof_of-proof)

pub slice_bounds-proof-end : goal.slice_bounds-proof-end
slice_bounds-proof-end c = proof-fits (goal.at.slice_bounds-proof-end c).After-proof_of-proof

pub slice_bounds-write_form-end-2 : goal.slice_bounds-write_form-end-2
slice_bounds-write_form-end-2 c = proof-part (goal.at.slice_bounds-write_form-end-2 c).After-proof_of-proof

pub returns : goal.returns
returns c = let e = (goal.at.returns c).After-write_form in
    let p = (goal.at.After-write_form e).After-proof_of-proof in
    let h = here p in
    let s = start h in
    let g = s.args.form in
    let new : List ℕ = e.write_form.new.out in
    let file : new ≡ file_of g (m h) (bs h) (σ h) (w h) (π p) =
    written (m h) (bs h) (σ h) s.requires.1.sound g (w h) (π p) s.args.out.now new e.write_form.result (proof p) s.requires.3 e.write_form.ensures in
    (π p, subst (λ (v : List ℕ). ProofAt (m h) (bs h) (σ h) v (π p)) (word h) (proof p), file ∙ ap (λ (v : List ℕ). file_of g (m h) (bs h) (σ h) v (π p)) (word h))
