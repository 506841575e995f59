-- The ranges of a setting that passed its checks, and its field and basis. Assumes nothing.
use Rattle.std.proofs.Common.{sym, subst, arith}
use Rattle.std.specs.Prelude.{List, ℕ, ◌^◌, ◌≤◌, ◌<◌}
use Rattle.lists.specs.All.{Below}
use Rattle.field.specs.Binary.{degree, Irreducible}
use Rattle.field.specs.Laws.{Ops, IsField}
use Rattle.field.specs.Products.{Sized}
use Rattle.field.specs.Symbols.{symbols}
use Rattle.poly.specs.Codeword.{Basis}
use Rattle.space.specs.Ready.{Ready, steps-below, inverses_below}
use Rattle.space.specs.Sizes.{max_dim}
use Rattle.space.specs.Sound.{sound_field}
use Rattle.space.specs.declared.Setting.{Setting}

-- the ranges of a setting that passed its checks
pub record Usable (s : Setting) : Type 0 where
  pub sized : Sized s.field
  pub irreducible : Irreducible s.field.modulus
  pub low : 3 ≤ s.space.k
  pub high : s.space.k ≤ max_dim
  pub images : Below (2 ^ degree s.field.modulus) s.space.images
  pub steps : Below (2 ^ degree s.field.modulus) s.steps
  pub inverses : Below (2 ^ degree s.field.modulus) s.inverses
  pub shift : s.shift < 2 ^ degree s.field.modulus

module _ {s : Setting} {bs : List ℕ} (r : Ready s.field.modulus bs s) where
  abbrev K : Ops
  K = symbols s.field.modulus

  pub ready_field : IsField K
  ready_field = sound_field r.sound

  pub usable : Usable s
  usable =
      record {
        sized = r.sized;
        irreducible = r.sound.modulus.irreducible;
        low = omega (arith, r.dimension, r.sound.low);
        high = omega (arith, r.dimension, r.sound.high);
        images = r.images.elements;
        steps = steps-below r;
        inverses = inverses_below r;
        shift = r.sound.shift;
      }

  pub ready_basis : Basis K s.space.k bs
  ready_basis = subst (λ (k : ℕ). Basis K k bs) (sym r.dimension) r.sound.basis

-- the setting by its own modulus
pub own_ready : {m : ℕ} {bs : List ℕ} {s : Setting} → Ready m bs s → Ready s.field.modulus bs s
own_ready {m} {bs} {s} r = subst (λ (i : ℕ). Ready i bs s) (sym r.modulus) r
