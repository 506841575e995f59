-- Checks 1 to 7 as one table. Assumes nothing.
use Rattle.std.specs.Prelude.{List, ◌++◌, ℕ, length}
use Rattle.std.proofs.Common.{arith}
use Rattle.lists.specs.Answers.{Checks, Numbered}
use Rattle.space.specs.Setting.{setting_checks}
use Rattle.codec.specs.Calls.{length_checks}

module _ (m : ℕ) (bs : List ℕ) (σ a b s : ℕ) where
  abbrev pub early_checks : Checks
  early_checks = setting_checks m bs σ ++ length_checks (length bs) a b s

  pub early_numbered : Numbered early_checks
  early_numbered = (omega arith, (omega arith, (omega arith, (omega arith, (omega arith, (omega arith, (omega arith, (omega arith, tt))))))))
