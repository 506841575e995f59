use mathlib.Core.Path.{◌≡◌, ap, ◌∙◌, subst}
use mathlib.Core.List.{List}
use Prim.Native.Nat.{ℕ, ◌/◌, ◌^◌, ◌≤◌, ◌<◌}
use native.Mathlib.Omega.{arith}
use borrow.Author.Tests.{eq-eqb, ne_eqb}
use Rattle.std.proofs.lemmas.Result.{err_from_is_err_and}
use Rattle.lists.specs.Decides.{decides_true, decides_false}
use Rattle.field.specs.Checks.{not-less}
use Rattle.field.specs.Ranges.{high-bits_test}
use Rattle.proximity.specs.Dim.{R}
use Rattle.proximity.specs.LineLaws.{R-small}
use Rattle.refusals.specs.Refusal.{number}
use Rattle.stored.proofs.CheckLaws.{refused_file, refused_coin, read-passes, read_dimension, read-basis, read-images, read_space, read_laid, read_answer}
use Rattle.stored.specs.File.{dim_in, basis_in}
use Rattle.stored.specs.declared.Reading.{Reading}
use Rattle.space.specs.Sizes.{max_dim}
use Rattle.stored.proofs.check_file.Goals.{In_ok-found, After-coin_bits}
use Rattle.stored.proofs.check_file.Goals as goal

pub returns-in_err-found : goal.returns-in_err-found
returns-in_err-found c = let out = err_from_is_err_and c.from_residual.result c.from_residual.ensures.1 in
    rw (out.1, out.2) (refused_file c.args.file.now c.args.coin (number c.in_err-found.field-0.0) c.in_err-found.ensures)

-- the file is accepted
module _ (c : goal.In_ok-found) where
  abbrev bytes : List ℕ
  bytes = c.args.file.now

  abbrev coin : ℕ
  coin = c.args.coin

  abbrev found : Reading
  found = c.in_ok-found.found

  dimension : found.setting.space.k ≡ dim_in bytes
  dimension = read_dimension bytes found c.in_ok-found.ensures

  few : found.setting.space.k ≤ max_dim
  few = (read_laid bytes found c.in_ok-found.ensures).few

pub coin_bits-requires : goal.coin_bits-requires
coin_bits-requires c = few (goal.at.coin_bits-requires c).In_ok-found

pub overflow_shr-coin : goal.overflow_shr-coin
overflow_shr-coin c = let o = (goal.at.overflow_shr-coin c).In_ok-found in
    omega (arith, c.coin_bits.ensures, R-small (found o).setting.space.k (omega (arith, few o)))

-- the test of the coin
module _ (c : goal.After-coin_bits) where
  abbrev here : goal.In_ok-found
  here = (goal.at.After-coin_bits c).In_ok-found

  bits : c.coin_bits.result ≡ R (dim_in (bytes here))
  bits = c.coin_bits.ensures ∙ ap R (dimension here)

  high : (coin here / 2 ^ c.coin_bits.result ≡ 0 → ⊥) → 2 ^ R (dim_in (bytes here)) ≤ coin here
  high n =
      subst (λ (l : ℕ). 2 ^ l ≤ coin here) bits
      (not-less (decides_false (coin here < 2 ^ c.coin_bits.result) (high-bits_test (coin here) c.coin_bits.result) (ne_eqb (coin here / 2 ^ c.coin_bits.result) 0 n)))

  low : coin here / 2 ^ c.coin_bits.result ≡ 0 → coin here < 2 ^ R (dim_in (bytes here))
  low e =
      subst (λ (l : ℕ). coin here < 2 ^ l) bits
      (decides_true (coin here < 2 ^ c.coin_bits.result) (high-bits_test (coin here) c.coin_bits.result) (eq-eqb (coin here / 2 ^ c.coin_bits.result) 0 e))

pub returns-then-coin-coin_bits-ne0 : goal.returns-then-coin-coin_bits-ne0
returns-then-coin-coin_bits-ne0 c = let t = (goal.at.returns-then-coin-coin_bits-ne0 c).After-coin_bits in
    let h = here t in
    refused_coin (bytes h) (coin h) (read-passes (bytes h) (found h) h.in_ok-found.ensures) (high t c.if-coin-coin_bits-ne0.true)

pub verdict-requires : goal.verdict-requires
verdict-requires c = let h = (goal.at.verdict-requires c).In_ok-found in
    let t = h.in_ok-found.ensures in
    (read_space (bytes h) (found h) t, read_laid (bytes h) (found h) t)

pub returns : goal.returns
returns c = let t = (goal.at.returns c).After-coin_bits in
    let h = here t in
    let f = bytes h in
    let o = h.in_ok-found.ensures in
    read_answer f (found h) o (coin h) (low t c.if-coin-coin_bits-ne0.false) c.verdict.result
    (c.verdict.ensures (basis_in f) (read-basis f (found h) o) (read-images f (found h) o))
