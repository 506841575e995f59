-- The steps of a setting that passed its checks, for 2^m coefficients. Assumes nothing.
use Rattle.std.specs.Prelude.{◌≡◌, List, ℕ, ◌≤◌, ◌<◌, get_or}
use Rattle.std.proofs.Common.{ap, ◌∙◌, arith}
use Rattle.lists.specs.Tables.{get_or_tab}
use Rattle.field.specs.Laws.{Ops}
use Rattle.field.specs.Symbols.{symbols}
use Rattle.poly.specs.Novel.{step}
use Rattle.space.specs.Ready.{Ready}
use Rattle.space.specs.Usable.{Usable, usable}
use Rattle.space.specs.declared.Setting.{Setting}
use Rattle.novel.specs.Novel.{Stepped, StepsOf}

module _ {s : Setting} (u : Usable s) (m : ℕ) (h : m ≤ s.space.k) where
  pub stepped : Stepped s.field m s.steps
  stepped = record { sized = u.sized; irreducible = u.irreducible; few = omega (arith, u.high); below = u.steps }

  pub stepped_inverses : Stepped s.field m s.inverses
  stepped_inverses = record { sized = u.sized; irreducible = u.irreducible; few = omega (arith, u.high); below = u.inverses }

module _ {s : Setting} {bs : List ℕ} (r : Ready s.field.modulus bs s) (m : ℕ) (h : m ≤ s.space.k) where
  abbrev K : Ops
  K = symbols s.field.modulus

  pub steps_of : StepsOf s.field.modulus bs m s.steps
  steps_of =
      record {
        elements = r.sound.basis.elements;
        independent = r.sound.basis.independent;
        enough = omega (arith, r.dimension);
        right = λ j l. ap (λ (l : List ℕ). get_or l j 0) r.steps ∙ get_or_tab 16 (step K bs) j 0 (omega (arith, (usable r).high));
      }

  pub inverses_of_lem : (j : ℕ) → j < m → get_or s.inverses j 0 ≡ K.inv (step K bs j)
  inverses_of_lem j l = ap (λ (l : List ℕ). get_or l j 0) r.inverses ∙ get_or_tab 16 (λ i. K.inv (step K bs i)) j 0 (omega (arith, (usable r).high))
