-- Checks 1 to 7 of a call, as one table: those of the setting, and then those of the lengths, cs. Assumes nothing.
use Rattle.std.specs.Prelude.{List, ◌++◌, ℕ}
use Rattle.lists.specs.Answers.{Checks, Passes, Refuses, answers-after, refused_first}
use Rattle.lists.specs.Calls.{RefusedWith, Within, refused_early}
use Rattle.space.specs.Setting.{setting_checks}
use Rattle.space.specs.Sound.{setting_numbered}

module _ (m : ℕ) (bs : List ℕ) (σ : ℕ) (cs : Checks) where
  pub early-passes : Passes (setting_checks m bs σ) → Passes cs → Passes (setting_checks m bs σ ++ cs)
  early-passes p q = answers-after (setting_checks m bs σ) cs 0 (setting_numbered m bs σ) p q

  -- a refusal by these checks leaves output and scratch
  module _ (w : Within 7 (setting_checks m bs σ ++ cs)) (ds : Checks) (n : ℕ) (old scratch : List ℕ) where
    pub setting_refused : Refuses (setting_checks m bs σ) n → RefusedWith (setting_checks m bs σ ++ cs ++ ds) n old old scratch scratch
    setting_refused (l, a) = refused_early (setting_checks m bs σ ++ cs) ds n old scratch w l (refused_first (setting_checks m bs σ) cs n l a)

    pub length_refused : Passes (setting_checks m bs σ) → Refuses cs n → RefusedWith (setting_checks m bs σ ++ cs ++ ds) n old old scratch scratch
    length_refused p (l, a) = refused_early (setting_checks m bs σ ++ cs) ds n old scratch w l (answers-after (setting_checks m bs σ) cs n (setting_numbered m bs σ) p a)
