-- The numbers that come with a reject: the bounds of the degree and of the dimension. Assumes nothing.
use Rattle.std.specs.Prelude.{◌≡◌, Ok, List, ◌++◌, ℕ, ◌-◌, ◌^◌, ◌≤◌, length}
use Rattle.std.proofs.Common.{sym, ap, ◌∙◌, subst, arith}
use Rattle.lists.specs.Answers.{Passes, passes-each, numbered_append}
use Rattle.field.specs.Symbols.{symbols}
use Rattle.space.specs.Setting.{setting_checks}
use Rattle.space.specs.Sound.{Sound, sound, sound_field, setting_numbered}
use Rattle.proximity.specs.Dim.{dim}
use Rattle.proximity.specs.LeafTable.{leaf_low}
use Rattle.proximity.specs.Reads.{leaf_small, length_positions}
use Rattle.proximity.specs.Verdict.{degree_range}
use Rattle.proximity.specs.Verifier.{leaf_dim}
use Rattle.verifier.specs.Checker.{delivery_checks, read_checks, Told}
use Rattle.verifier.specs.Verdicts.{Right, right_of, delivery_numbered}
use Rattle.verifier.specs.declared.Rejection.{Rejection}
use Rattle.verifier.specs.declared.Verdict.TheVariants.{Reject}

-- the degree is an eighth of the symbols read at least, and below their number; these are those of a space of dimension 3 to 6
pub record InBounds (r : Rejection) : Type 0 where
  pub low : 2 ^ (r.dimension - 3) ≤ r.degree
  pub high : r.degree ≤ 2 ^ r.dimension - 1
  pub three : 3 ≤ r.dimension
  pub six : r.dimension ≤ 6
  pub count : r.reads ≡ 2 ^ r.dimension

module _ (m : ℕ) (bs : List ℕ) (σ : ℕ) (w π : List ℕ) (coin : ℕ) (r : Rejection) (t : Told m bs σ w π coin (Ok (Reject r))) where
  both : Passes (setting_checks m bs σ ++ delivery_checks (length bs) (length w) (length π) coin)
  both =
      (passes-each (setting_checks m bs σ ++ delivery_checks (length bs) (length w) (length π) coin) (read_checks (symbols m) (length bs) w π coin)
      (numbered_append (setting_checks m bs σ) (delivery_checks (length bs) (length w) (length π) coin) (setting_numbered m bs σ) (delivery_numbered (length bs) (length w) (length π) coin)) t.0).0

  each : Passes (setting_checks m bs σ) × Passes (delivery_checks (length bs) (length w) (length π) coin)
  each = passes-each (setting_checks m bs σ) (delivery_checks (length bs) (length w) (length π) coin) (setting_numbered m bs σ) both

  setting : Sound m bs σ
  setting = sound m bs σ each.0

  right : Right (length bs) (length w) (length π) coin
  right = right_of (length bs) (length w) (length π) coin each.1

  pub told_bounds : InBounds r
  told_bounds =
      let d = degree_range (sound_field setting) (dim (length bs)) bs w π setting.basis right.word right.proof coin r.degree t.1.1 t.1.2 in
      let e : r.dimension ≡ leaf_dim (dim (length bs)) coin = t.1.3 in
      record {
        low = subst (λ (j : ℕ). 2 ^ (j - 3) ≤ r.degree) (sym e) d.0;
        high = subst (λ (j : ℕ). r.degree ≤ 2 ^ j - 1) (sym e) d.1;
        three = omega (arith, e, leaf_low (dim (length bs)) coin setting.low);
        six = omega (arith, e, leaf_small (dim (length bs)) coin);
        count = t.1.0 ∙ length_positions (dim (length bs)) coin ∙ ap (λ (j : ℕ). 2 ^ j) (sym e);
      }
