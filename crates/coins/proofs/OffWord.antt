-- How far a word of symbols is off, from the answer of its correction. Assumes nothing.
use mathlib.Core.Logic.{inl, inr}
use mathlib.Core.List.{List}
use Prim.Native.Nat.{ℕ, ◌^◌}
use Rattle.std.specs.Prelude.{Result, Ok, Err}
use Rattle.std.specs.Result.{result_ok}
use Rattle.lists.specs.All.{Below}
use Rattle.field.specs.Binary.{degree}
use Rattle.refusals.specs.declared.Refusal.{Refusal}
use Rattle.space.specs.Ready.{Ready}
use Rattle.space.specs.declared.Setting.{Setting}
use Rattle.correction.specs.Nearest.{CorrectedWith}
use Rattle.coins.specs.Totals.{Off}

module _ (s : Setting) (w old new : List ℕ) (symbols : Below (2 ^ degree s.field.modulus) w) where
  pub off_found : (r : Result ℕ Refusal) → CorrectedWith s w old new r → (bs : List ℕ) → Ready s.field.modulus bs s → Off s.field.modulus bs w (result_ok r)
  off_found (Ok n) (inl (h, (near, count))) bs y = (new, record { near = near bs y; count = count })
  off_found (Err e) (inl (h, (is, none, same))) bs y = none bs y
  off_found (Ok n) (inr (is, h, same)) bs y = absurd (h symbols)
  off_found (Err e) (inr (is, h, same)) bs y = absurd (h symbols)
