use mathlib.Core.Path.{◌≡◌, ap₂}
use Prim.Native.Nat.{ℕ, ◌-◌, ◌^◌}
use native.Mathlib.Omega.{arith}
use lib.ListN.{take, drop}
use Rattle.std.proofs.lemmas.Result.{err_from_is_err_and}
use Rattle.stored.specs.Accepted.{Places}
use Rattle.stored.proofs.Accepted.{read_places}
use Rattle.stored.specs.Bytes.{packed_size}
use Rattle.stored.specs.File.{dim_in, narrow_in}
use Rattle.stored.proofs.word_part.Goals.{In_ok-places}
use Rattle.stored.proofs.word_part.Goals as goal

pub returns-in_err-places : goal.returns-in_err-places
returns-in_err-places c = let out = err_from_is_err_and c.from_residual.result c.from_residual.ensures.1 in
    rw (out.1, out.2) c.in_err-places.ensures

-- the file is accepted
places : (c : goal.In_ok-places) → Places c.args.file.now c.in_ok-places.places
places c = read_places c.args.file.now c.in_ok-places.places c.in_ok-places.ensures

pub overflow_sub-end : goal.overflow_sub-end
overflow_sub-end c = let p = places (goal.at.overflow_sub-end c).In_ok-places in omega (arith, p.proof)

pub slice_bounds-result-count : goal.slice_bounds-result-count
slice_bounds-result-count c = let p = places (goal.at.slice_bounds-result-count c).In_ok-places in omega (arith, p.word, p.proof, p.end)

pub slice_bounds-result-start : goal.slice_bounds-result-start
slice_bounds-result-start c = let p = places (goal.at.slice_bounds-result-start c).In_ok-places in omega (arith, p.word, p.proof, p.end)

pub slice_bounds-result-end : goal.slice_bounds-result-end
slice_bounds-result-end c = let p = places (goal.at.slice_bounds-result-end c).In_ok-places in omega (arith, p.word, p.proof, p.end, p.whole)

pub returns : goal.returns
returns c = let o = (goal.at.returns c).In_ok-places in
    let f = o.args.file.now in
    let r = o.in_ok-places.places in
    let p = places o in
    let count : r.proof - 6 - r.word ≡ packed_size (narrow_in f) (2 ^ dim_in f) = omega (arith, p.word, p.proof, p.end) in
    (o.in_ok-places.ensures.0, ap₂ (λ (n s : ℕ). take n (drop s f)) count p.word)
