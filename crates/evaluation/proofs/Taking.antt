-- Numbers from a place on, in an array of their own. Assumes nothing.
use mathlib.Core.Path.{◌≡◌, sym, ap, ◌∙◌}
use mathlib.Core.List.{List, ◌++◌}
use Prim.Native.Nat.{ℕ, ◌+◌, ◌-◌, ◌≤◌}
use native.Mathlib.Omega.{arith}
use lib.ListN.{length, take, drop, length-append, length-drop}
use lib.Seq.{take_at, length-take-le}
use Rattle.lists.specs.Overwrite.{copy-whole}
use Rattle.lists.specs.Stretch.{stretch}
use Rattle.space.specs.Sizes.{max_coefficients}
use Rattle.evaluation.specs.Words.{Taken}

module _ (at d : ℕ) (from room : List ℕ) (lr : length room ≡ max_coefficients) (fits : at + d ≤ length from) (few : d ≤ max_coefficients) where
  abbrev cut : List ℕ
  cut = take (at + d - at) (drop at from)

  pub length_cut : length cut ≡ d
  length_cut = length-take-le (at + d - at) (drop at from) (omega (arith, length-drop at from)) ∙ omega arith

  pub length_front : length (take d room) ≡ d
  length_front = length-take-le d room (omega arith)

  cut-is : cut ≡ stretch d at from
  unfolding stretch
  cut-is = ap (λ (m : ℕ). take m (drop at from)) {x = at + d - at} {y = d} (omega arith)

  pub taken_is : (after : List ℕ) → after ≡ cut ++ drop (length cut) (take d room) → Taken at d from (after ++ drop d room)
  taken_is after e =
      let whole : after ≡ cut = e ∙ copy-whole cut (take d room) (length_cut ∙ sym length_front) in
      record {
        count = length-append after (drop d room) ∙ omega (arith, ap length whole, length_cut, length-drop d room);
        right = take_at after (drop d room) d (ap length whole ∙ length_cut) ∙ whole ∙ cut-is;
      }
