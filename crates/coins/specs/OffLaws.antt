-- How far a word is off is one answer. Assumes nothing.
use Rattle.std.specs.Prelude.{◌≡◌, refl, Option, Some, None, List, ℕ, ◌^◌, length}
use Rattle.std.proofs.Common.{sym, ap, ◌∙◌}
use Rattle.space.specs.Sound.{Sound, sound_field}
use Rattle.correction.specs.Differences.{differences}
use Rattle.correction.specs.Near.{one_near}
use Rattle.coins.specs.Totals.{Off}

module _ (m : ℕ) (bs : List ℕ) {σ : ℕ} (s : Sound m bs σ) (w : List ℕ) (lw : length w ≡ 2 ^ length bs) where
  pub off_one : (d e : Option ℕ) → Off m bs w d → Off m bs w e → d ≡ e
  off_one (Some i) (Some j) (c, x) (v, y) =
      let same : c ≡ v = one_near (sound_field s) (length bs) s.low bs s.basis w lw c v x.near y.near in
      ap Some (x.count ∙ ap (differences w) same ∙ sym y.count)
  off_one (Some i) None (c, x) none = absurd (none c x.near)
  off_one None (Some j) none (v, y) = absurd (none v y.near)
  off_one None None x y = refl
