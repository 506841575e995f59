-- The change of basis by halves: `Monomials` of 2^m coefficients from those of its halves. Assumes nothing.
use mathlib.Core.Path.{◌≡◌, refl, sym, ap, ap₂, ◌∙◌}
use mathlib.Core.Bool.{Bool}
use mathlib.Core.List.{List, [], ◌∷◌, ◌++◌}
use Prim.Native.Nat.{ℕ, suc, ◌+◌, ◌-◌, ◌/◌, ◌^◌, ◌≤◌, ◌<◌}
use native.Mathlib.Omega.{arith}
use lib.ListN.{length, get_or, length-append}
use lib.Seq.{take_at, drop_at}
use Rattle.lists.specs.All.{Below, All-append}
use Rattle.field.specs.Binary.{degree, Irreducible}
use Rattle.field.specs.Laws.{Ops, IsField, ⊗_0, ⊕_0}
use Rattle.field.specs.Symbols.{symbols, symbols-field}
use Rattle.field.specs.declared.Field.{Field}
use Rattle.poly.specs.Poly.{eval}
use Rattle.transform.proofs.Halves.{half_pow}
use Rattle.novel.specs.Convert.{eval_by, Tabled, Expanded, Monomials}

pub tabled_fewer : {b : Bool} {f : Field} {none table : List ℕ} {m : ℕ} (n : ℕ) → n ≤ m → Tabled b f none table m → Tabled b f none table n
tabled_fewer n h t =
    record { sized = t.sized; irreducible = t.irreducible; zeros = t.zeros; few = omega (arith, t.few); below = t.below; lead = λ e j l. t.lead e j (omega arith) }

-- half of 2^m
pub half_power : (m n : ℕ) → (m ≡ 0 → ⊥) → n ≡ 2 ^ m → (n / 2 ≡ 2 ^ (m - 1)) × (n ≡ 2 ^ (m - 1) + 2 ^ (m - 1))
half_power m n h e =
    let two : n ≡ 2 ^ (m - 1) + 2 ^ (m - 1) = e ∙ half_pow m (omega arith) in
    (omega arith, two)

module _ (q : ℕ) (irr : Irreducible q) (g : ℕ → ℕ → ℕ) where
  abbrev K : Ops
  K = symbols q

  abbrev F : IsField K
  F = symbols-field q irr

  infixl 60 ◌⊕◌
  infixl 70 ◌⊗◌
  open K use {◌⊕◌, ◌⊗◌}

  pub one-coefficient : (xs : List ℕ) (x : ℕ) → length xs ≡ 1 → eval K xs x ≡ get_or xs 0 0
  one-coefficient [] x e = refl
  one-coefficient (c ∷ []) x e = ap (λ (t : ℕ). c ⊕ t) (⊗_0 F x) ∙ ⊕_0 F c
  one-coefficient (c ∷ d ∷ xs) x e = absurd (omega arith)

  pub monomials-none : (m : ℕ) (xs : List ℕ) → m ≡ 0 → length xs ≡ 2 ^ m → Below (2 ^ degree q) xs → Monomials q g m xs xs
  unfolding eval_by
  monomials-none m xs z l b =
      record {
        kept = refl;
        below = (b, b);
        values = λ x sx. one-coefficient xs x (l ∙ ap (λ (k : ℕ). 2 ^ k) z) ∙ ap (λ (k : ℕ). eval_by K (λ j. g j x) k xs) (sym z);
      }

  -- the value over the products, by halves
  by_halves : (h : ℕ → ℕ) (j m : ℕ) (lo hi : List ℕ) → m ≡ suc j → length lo ≡ 2 ^ j → eval_by K h m (lo ++ hi) ≡ eval_by K h j lo ⊕ h j ⊗ eval_by K h j hi
  unfolding eval_by
  by_halves h j m lo hi e l =
      ap (λ (k : ℕ). eval_by K h k (lo ++ hi)) e
      ∙ ap₂ (λ (u v : List ℕ). eval_by K h j u ⊕ h j ⊗ eval_by K h j v) (take_at lo hi (2 ^ j) l) (drop_at lo hi (2 ^ j) l)

  -- low and high of the products with low and high of an expansion
  pub monomials_halves : (j m : ℕ) (lo hi lo' hi' whole : List ℕ) → m ≡ suc j → length lo ≡ 2 ^ j → length hi ≡ 2 ^ j
      → Monomials q g j lo lo' → Monomials q g j hi hi' → Expanded q g j (lo' ++ hi') whole → Monomials q g m (lo ++ hi) whole
  monomials_halves j m lo hi lo' hi' whole e ll lh s t w =
      record {
        kept = w.kept ∙ length-append lo' hi' ∙ ap₂ ◌+◌ s.kept t.kept ∙ sym (length-append lo hi);
        below = (All-append (λ (x : ℕ). x < 2 ^ degree q) lo hi s.below.0 t.below.0, w.below.1);
        values = λ x sx. w.values x sx
            ∙ ap₂ (λ (u v : List ℕ). eval K u x ⊕ g j x ⊗ eval K v x) (take_at lo' hi' (2 ^ j) (s.kept ∙ ll)) (drop_at lo' hi' (2 ^ j) (s.kept ∙ ll))
            ∙ ap₂ (λ (u v : ℕ). u ⊕ g j x ⊗ v) (s.values x sx) (t.values x sx)
            ∙ sym (by_halves (λ i. g i x) j m lo hi e ll);
      }
