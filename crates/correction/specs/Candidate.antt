-- The scratch before the first step, and the only polynomial whose word can be near.
use Rattle.std.specs.Prelude.{◌≡◌, ◌⊎◌, List, ℕ, ◌+◌, ◌-◌, ◌*◌, ◌^◌, ◌≤◌, ◌<◌, length, get_or}
use Rattle.lists.specs.All.{All, Below, IsZero}
use Rattle.lists.specs.Stretch.{stretch}
use Rattle.field.specs.Binary.{degree}
use Rattle.field.specs.Symbols.{symbols}
use Rattle.field.specs.declared.Field.{Field}
use Rattle.poly.specs.Span.{elem}
use Rattle.space.specs.Ready.{Ready}
use Rattle.space.specs.declared.Setting.{Setting}
use Rattle.novel.specs.Novel.{Stepped}
use Rattle.poly.specs.Coefficients.{coeff}
use Rattle.correction.specs.Near.{NearPoly}
use Rattle.correction.specs.Pairs.{Pairs, Held}
use Rattle.correction.specs.Start.{Vanishing, ThroughWord}

-- the polynomial through the word at 2 n, with room of its length before it, and zeros elsewhere
pub record Loaded (s : Setting) (word old new : List ℕ) : Type 0 where
  pub kept : length new ≡ length old
  pub below : Below (2 ^ degree s.field.modulus) new
  pub through : ThroughWord s word (stretch (length word + length word) (length word) new)
  pub rest : (p : ℕ) → (p < length word) ⊎ (3 * length word ≤ p) → get_or new p 0 ≡ 0

-- what the polynomial that vanishes takes
pub record Beginning (f : Field) (steps : List ℕ) (k n : ℕ) (work : List ℕ) : Type 0 where
  pub stepped : Stepped f k steps
  pub size : n ≡ 2 ^ k
  pub room : 10 * n ≤ length work
  pub below : Below (2 ^ degree f.modulus) work
  pub zero : All IsZero (stretch (2 * n) (4 * n) work)

-- it stands at 4 n, with the factor 1 of the other polynomial behind it
pub record Begun (q : ℕ) (steps : List ℕ) (k n : ℕ) (old new : List ℕ) : Type 0 where
  pub kept : length new ≡ length old
  pub below : Below (2 ^ degree q) new
  pub vanishing : Vanishing q steps k (stretch (2 * n) (4 * n) new)
  pub one : get_or new (6 * n) 0 ≡ 1
  pub rest : (p : ℕ) → (p < 4 * n) ⊎ (6 * n < p) → get_or new p 0 ≡ get_or old p 0

-- the first remainders
pub record Prepared (s : Setting) (word old new : List ℕ) : Type 0 where
  pub kept : length new ≡ length old
  pub held : Held s.field (length word) (length word) (length word) (4 * length word) new
  pub pairs : (bs : List ℕ) → Ready s.field.modulus bs s
      → Pairs s.field.modulus (length word) (elem (symbols s.field.modulus) bs) (coeff word) (length word) (length word) (4 * length word) new

-- where the coefficients of the near polynomial stand, if there is one
pub record Found (s : Setting) (word old new : List ℕ) (at : ℕ) : Type 0 where
  pub kept : length new ≡ length old
  pub below : Below (2 ^ degree s.field.modulus) new
  pub fits : at + 2 ^ (s.space.k - 3) ≤ length new
  pub right : (bs : List ℕ) → Ready s.field.modulus bs s → (p : List ℕ) → NearPoly (symbols s.field.modulus) s.space.k bs word p
      → (i : ℕ) → i < 2 ^ (s.space.k - 3) → get_or new (at + i) 0 ≡ coeff p i
