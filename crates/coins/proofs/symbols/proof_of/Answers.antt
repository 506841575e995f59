use mathlib.Core.Path.{◌≡◌, sym, ◌∙◌, subst}
use mathlib.Core.List.{List}
use Prim.Native.Nat.{ℕ, ◌+◌, ◌≤◌}
use native.Mathlib.Omega.{arith}
use lib.ListN.{length, take}
use lib.Seq.{length-take-le}
use Rattle.stored.specs.Bytes.{packed_size}
use Rattle.stored.proofs.CheckLaws.{read_laid}
use Rattle.stored.specs.Packed.{front_length, front-numbers}
use Rattle.stored.specs.declared.Reading.{Reading}
use Rattle.coins.proofs.FileSymbols.{short}
use Rattle.coins.proofs.symbols.proof_of.Goals.{Start, After-no_proof-proof, After-numbers_at}
use Rattle.coins.proofs.symbols.proof_of.Goals as goal

pub proof_length-s-requires : goal.proof_length-s-requires
proof_length-s-requires c = let s = (goal.at.proof_length-s-requires c).Start in (read_laid s.args.file.now s.args.r s.requires.0).few

-- the part that is lent
module _ (c : goal.After-no_proof-proof) where
  abbrev start : goal.Start
  start = (goal.at.After-no_proof-proof c).Start

  abbrev bytes : List ℕ
  bytes = start.args.file.now

  abbrev found : Reading
  found = start.args.r

  abbrev n : ℕ
  n = c.proof_length-s.result

  abbrev zeros : List ℕ
  zeros = c.no_proof-proof.result

  fits : n ≤ length zeros
  fits = omega (arith, short bytes found start.requires.0 start.requires.1, c.proof_length-s.ensures, c.no_proof-proof.ensures)

  part : length (take n zeros) ≡ n
  part = length-take-le n zeros fits

pub slice_bounds-proof-end : goal.slice_bounds-proof-end
slice_bounds-proof-end c = fits c

pub slice_bounds-numbers_at-end : goal.slice_bounds-numbers_at-end
slice_bounds-numbers_at-end c = sym (part (goal.at.slice_bounds-numbers_at-end c).After-no_proof-proof)

pub numbers_at-requires : goal.numbers_at-requires
numbers_at-requires c = let t = (goal.at.numbers_at-requires c).After-no_proof-proof in
    let s = start t in
    subst (λ (m : ℕ). (found t).proof + packed_size (found t).narrow m ≤ length (bytes t)) (sym (part t ∙ t.proof_length-s.ensures))
    (read_laid (bytes t) (found t) s.requires.0).proof-fits

pub returns : goal.returns
returns c = let e = (goal.at.returns c).After-numbers_at in
    let t = (goal.at.After-numbers_at e).After-no_proof-proof in
    let new : List ℕ = e.numbers_at.new.out in (
      front_length (found t).narrow (bytes t) (found t).proof (n t) (zeros t) new (fits t) e.numbers_at.ensures ∙ t.no_proof-proof.ensures,
      front-numbers (found t).narrow (bytes t) (found t).proof (n t) (zeros t) new (fits t) e.numbers_at.ensures t.proof_length-s.ensures,
    )
