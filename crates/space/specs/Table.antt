-- The table of a sound setting is that of its space. Assumes nothing.
use Rattle.std.specs.Prelude.{◌≡◌, List, ℕ, ◌+◌, ◌*◌, ◌/◌, ◌%◌, ◌<◌, get_or}
use Rattle.std.proofs.Common.{ap₂, ◌∙◌, arith}
use Rattle.lists.specs.Tables.{length_tab, get_or_tab, All-tab}
use Rattle.field.specs.Laws.{IsField}
use Rattle.field.specs.Symbols.{symbols}
use Rattle.poly.specs.Novel.{image}
use Rattle.poly.proofs.Novel.{image_sym, get_or_sym}
use Rattle.space.specs.Images.{Images}
use Rattle.space.specs.Setting.{images_of}
use Rattle.space.specs.Sound.{Sound, sound_field}
use Rattle.space.specs.Sizes.{cells}

pub sound_images : {m : ℕ} {bs : List ℕ} {σ : ℕ} → Sound m bs σ → Images (symbols m) bs (images_of (symbols m) bs)
sound_images {m} {bs} s =
    record {
      count = length_tab cells entry;
      elements = All-tab (symbols m).Sym cells entry (λ p h. image_sym F bs s.basis.elements (p % 16) (get_or bs (p / 16) 0) (get_or_sym F bs (p / 16) s.basis.elements));
      right = λ i j hi hj.
          get_or_tab cells entry (16 * i + j) 0 (omega (arith, s.high))
          ∙ place i j (omega (arith, s.high));
    }
  where
    F : IsField (symbols m)
    F = sound_field s

    entry : ℕ → ℕ
    entry p = image (symbols m) bs (p % 16) (get_or bs (p / 16) 0)

    place : (i j : ℕ) → j < 16 → entry (16 * i + j) ≡ image (symbols m) bs j (get_or bs i 0)
    place i j h =
        let number : (16 * i + j) % 16 ≡ j = omega arith in
        let row : (16 * i + j) / 16 ≡ i = omega arith in
        ap₂ (λ (a b : ℕ). image (symbols m) bs a (get_or bs b 0)) number row
