-- The polynomial through a word of a setting that passed its checks. Assumes nothing.
use mathlib.Core.Path.{◌≡◌, refl, sym, ap, ◌∙◌, subst}
use mathlib.Core.List.{List, ◌++◌}
use Prim.Native.Nat.{ℕ, ◌+◌, ◌^◌, ◌≤◌, ◌<◌}
use native.Mathlib.Nat.{le_refl}
use native.Mathlib.Omega.{arith}
use lib.ListN.{length, get_or, take, drop, length-append, length-drop}
use lib.Pow.{pow_pos}
use lib.Seq.{take_at, drop_at}
use Rattle.lists.specs.All.{All, Below, IsZero, All-append, All-drop, zeros-below}
use Rattle.lists.specs.Stretch.{stretch}
use Rattle.field.specs.Binary.{degree}
use Rattle.field.specs.Laws.{Ops}
use Rattle.field.specs.Symbols.{symbols}
use Rattle.poly.specs.Poly.{eval}
use Rattle.poly.specs.Span.{elem}
use Rattle.poly.proofs.Span.{elem_sym}
use Rattle.space.specs.Ready.{Ready}
use Rattle.space.specs.declared.Setting.{Setting}
use Rattle.transform.specs.Blocks.{InBlocks}
use Rattle.novel.specs.Novel.{PowersOf}
use Rattle.novel.specs.Settings.{steps_of, inverses_of_lem}
use Rattle.novel.proofs.NovelLaws.{zeros-behind}
use Rattle.space.specs.Usable.{usable, ready_field, ready_basis}
use Rattle.correction.specs.Start.{WordInterpolated, InSetting, ThroughWord}

module _ {s : Setting} {bs : List ℕ} (r : Ready s.field.modulus bs s) where
  abbrev K : Ops
  K = symbols s.field.modulus

  abbrev k : ℕ
  k = s.space.k

  through_values : (word d after : List ℕ) → WordInterpolated s.field.modulus s.space.images k word d → PowersOf s.field.modulus s.steps s.inverses k d after
      → (i : ℕ) → i < 2 ^ k → eval K (stretch (2 ^ k) (2 ^ k) after) (elem K bs i) ≡ get_or word i 0
  through_values word d after w p i h =
      p.values bs (steps_of r k (le_refl k)) (inverses_of_lem r k (le_refl k)) (elem K bs i) (elem_sym (ready_field r) bs i r.sound.basis.elements) ∙ w.values bs (ready_basis r) r.images i h

module _ {s : Setting} {word : List ℕ} (g : InSetting s word) where
  abbrev q : ℕ
  q = s.field.modulus

  abbrev n : ℕ
  n = length word

  pub word_blocks : InBlocks s.field s.space.images s.space.k word
  word_blocks =
      let u = usable g.ready in
      record { sized = u.sized; irreducible = u.irreducible; low = u.low; high = u.high; long = g.whole; image-symbols = u.images; symbols = g.symbols }

  module _ (work copied : List ℕ) (z : All IsZero work) (lw : length work ≡ n + n) (e : copied ≡ word ++ drop n work) where
    pub front-is : take n copied ≡ word
    front-is = ap (take n) e ∙ take_at word (drop n work) n refl

    back_is : drop n copied ≡ drop n work
    back_is = ap (drop n) e ∙ drop_at word (drop n work) n refl

    back-zero : All IsZero (drop n copied)
    back-zero = subst (All IsZero) (sym back_is) (All-drop IsZero n work z)

    length_back : length (drop n copied) ≡ n
    length_back = ap length back_is ∙ length-drop n work ∙ omega arith

    module _ (d : List ℕ) (w : WordInterpolated q s.space.images s.space.k (take n copied) d) where
      ld : length d ≡ n
      ld = w.kept ∙ ap length front-is

      interpolated : WordInterpolated q s.space.images s.space.k word d
      interpolated = subst (λ (l : List ℕ). WordInterpolated q s.space.images s.space.k l d) front-is w

      abbrev mid : List ℕ
      mid = d ++ drop n copied

      pub mid-below : Below (2 ^ degree q) mid
      mid-below = All-append (λ (x : ℕ). x < 2 ^ degree q) d (drop n copied) w.below (zeros-below (2 ^ degree q) (drop n copied) (pow_pos (degree q)) back-zero)

      pub mid-room : 2 ^ s.space.k + 2 ^ s.space.k ≤ length mid
      mid-room = omega (arith, length-append d (drop n copied), ld, length_back, g.whole)

      pub mid-zero : All IsZero (stretch (2 ^ s.space.k) (2 ^ s.space.k) mid)
      mid-zero = zeros-behind q (usable g.ready).irreducible s.space.k d (drop n copied) (ld ∙ g.whole) back-zero

      pub through_word : (after : List ℕ) → PowersOf q s.steps s.inverses s.space.k (take (2 ^ s.space.k) mid) after → ThroughWord s word after
      through_word after p =
          record {
            below = p.below;
            values = λ bs r i h. through_values r word d after interpolated
                (subst (λ (l : List ℕ). PowersOf q s.steps s.inverses s.space.k l after) (take_at d (drop n copied) (2 ^ s.space.k) (ld ∙ g.whole)) p) i h;
          }
