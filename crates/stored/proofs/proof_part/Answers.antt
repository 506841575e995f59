use mathlib.Core.Path.{◌≡◌, ap₂}
use Prim.Native.Nat.{ℕ, ◌-◌}
use native.Mathlib.Omega.{arith}
use lib.ListN.{take, drop}
use Rattle.std.proofs.lemmas.Result.{err_from_is_err_and}
use Rattle.proximity.specs.Dim.{S}
use Rattle.stored.specs.Accepted.{Places}
use Rattle.stored.proofs.Accepted.{read_places}
use Rattle.stored.specs.Bytes.{packed_size}
use Rattle.stored.specs.File.{dim_in, narrow_in}
use Rattle.stored.proofs.proof_part.Goals.{In_ok-r}
use Rattle.stored.proofs.proof_part.Goals as goal

pub returns-in_err-r : goal.returns-in_err-r
returns-in_err-r c = let out = err_from_is_err_and c.from_residual.result c.from_residual.ensures.1 in
    rw (out.1, out.2) c.in_err-r.ensures

-- the file is accepted
places : (c : goal.In_ok-r) → Places c.args.file.now c.in_ok-r.r
places c = read_places c.args.file.now c.in_ok-r.r c.in_ok-r.ensures

pub slice_bounds-result-count : goal.slice_bounds-result-count
slice_bounds-result-count c = let p = places (goal.at.slice_bounds-result-count c).In_ok-r in omega (arith, p.word, p.proof, p.end)

pub slice_bounds-result-start : goal.slice_bounds-result-start
slice_bounds-result-start c = let p = places (goal.at.slice_bounds-result-start c).In_ok-r in omega (arith, p.word, p.proof, p.end)

pub slice_bounds-result-end : goal.slice_bounds-result-end
slice_bounds-result-end c = let p = places (goal.at.slice_bounds-result-end c).In_ok-r in omega (arith, p.word, p.proof, p.end, p.whole)

pub returns : goal.returns
returns c = let o = (goal.at.returns c).In_ok-r in
    let f = o.args.file.now in
    let r = o.in_ok-r.r in
    let p = places o in
    let count : r.end - r.proof ≡ packed_size (narrow_in f) (S (dim_in f)) = omega (arith, p.word, p.proof, p.end) in
    (o.in_ok-r.ensures.0, ap₂ (λ (n s : ℕ). take n (drop s f)) count p.proof)
