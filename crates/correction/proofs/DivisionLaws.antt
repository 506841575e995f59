-- A step of the division, and the division once it ends. Assumes nothing.
use mathlib.Core.Path.{◌≡◌, sym, ap, ap₂, ◌∙◌, subst}
use mathlib.Core.Logic.{◌⊎◌, inl, inr}
use mathlib.Core.List.{List}
use Prim.Native.Nat.{ℕ, suc, ◌+◌, ◌*◌, ◌≤◌, ◌<◌, ◌^◌}
use native.Mathlib.Decide.{dec_lt}
use native.Mathlib.Omega.{arith}
use lib.ListN.{length, get_or, set, length-set}
use lib.Seq.{ext_get_or, get_or-set_same, get_or-set_other}
use Rattle.lists.specs.All.{All, Below, All-of}
use Rattle.lists.specs.Stretch.{Apart, length_stretch}
use Rattle.field.specs.Binary.{◌⊕◌, degree, product, Irreducible}
use Rattle.field.specs.Laws.{IsField}
use Rattle.field.specs.Symbols.{symbols, symbols-field}
use Rattle.field.specs.declared.Field.{Field}
use Rattle.poly.specs.Coefficients.{coeff}
use Rattle.correction.specs.Division.{Dividing, Step, dividing_next}
use Rattle.correction.specs.Pairs.{poly_at}
use Rattle.correction.specs.Quotient.{Divides, DividedStep, FactorOf, Divided}
use Rattle.correction.specs.Rows.{Added}
use Rattle.correction.proofs.PairLaws.{coeff-poly, poly-low}

module _ {f : Field} {n e v at : ℕ} (j : ℕ) {work : List ℕ} (h : Divides f n e v at (j + 1) work) where
  abbrev q : ℕ
  q = f.modulus

  pub place_inside : at + (j + e) < length work
  place_inside = omega (arith, h.room, h.fits)

  pub step-apart : (new : List ℕ) → length new ≡ length work → Apart e (at + 4 * n) (at + j) (length new)
  step-apart new l = record { first = omega (arith, h.room, h.fits); second = omega (arith, h.room, h.fits); apart = inr (omega (arith, h.fits)) }

  -- a symbol in place of another
  pub set_below : (b p c : ℕ) → Below b work → c < b → Below b (set work p c)
  set_below b p c s l = All-of (λ (x : ℕ). x < b) (set work p c) 0 (λ i k. by i k (native.Mathlib.Decide.ℕ_discrete i p))
    where
      by : (i : ℕ) → i < length (set work p c) → Dec (i ≡ p) → get_or (set work p c) i 0 < b
      by i k (yes r) = subst (λ (t : ℕ). t < b) (sym (ap (λ (t : ℕ). get_or (set work p c) t 0) r ∙ get_or-set_same work p c 0 (omega (arith, length-set work p c)))) l
      by i k (no r) =
          subst (λ (t : ℕ). t < b) (sym (get_or-set_other work p i c 0 r)) (Rattle.lists.specs.All.All-inside (λ (x : ℕ). x < b) work 0 s i (omega (arith, length-set work p c)))

  module _ (c : ℕ) (ec : c ≡ product q (get_or work (at + (j + e)) 0) v) (new : List ℕ) (g : Added q c (at + 4 * n) (at + j) e (set work (at + (j + e)) c) new) where
    abbrev put : List ℕ
    put = set work (at + (j + e)) c

    lp : length put ≡ length work
    lp = length-set work (at + (j + e)) c

    ln : length new ≡ length work
    ln = g.kept ∙ lp

    poly-fits : at + 2 * n ≤ length work
    poly-fits = omega (arith, h.room)

    new-fits : at + 2 * n ≤ length new
    new-fits = omega (arith, h.room, ln)

    factor-fits : at + 4 * n + 2 * n ≤ length work
    factor-fits = omega (arith, h.room)

    -- a number that neither is
    elsewhere : (p : ℕ) → (p ≡ at + (j + e) → ⊥) → (p < at + j) ⊎ (at + j + e ≤ p) → get_or new p 0 ≡ get_or work p 0
    elsewhere p ne o = g.outside p o ∙ get_or-set_other work (at + (j + e)) p c 0 ne

    factor-kept : poly_at n (at + 4 * n) new ≡ poly_at n (at + 4 * n) work
    factor-kept =
        ext_get_or 0 (poly_at n (at + 4 * n) new) (poly_at n (at + 4 * n) work)
        (length_stretch (2 * n) (at + 4 * n) new (omega (arith, factor-fits, ln)) ∙ sym (length_stretch (2 * n) (at + 4 * n) work factor-fits))
        (λ i l. let k : i < 2 * n = omega (arith, length_stretch (2 * n) (at + 4 * n) new (omega (arith, factor-fits, ln))) in
        coeff-poly n (at + 4 * n) new (omega (arith, factor-fits, ln)) i k
        ∙ elsewhere (at + 4 * n + i) (λ r. omega (arith, h.fits)) (inr (omega (arith, h.fits)))
        ∙ sym (coeff-poly n (at + 4 * n) work factor-fits i k))

    poly-kept : (i : ℕ) → (i < j) ⊎ (j + e < i) → coeff (poly_at n at new) i ≡ coeff (poly_at n at work) i
    poly-kept i o = by (dec_lt i (2 * n)) o
      where
        by : Dec (i < 2 * n) → (i < j) ⊎ (j + e < i) → coeff (poly_at n at new) i ≡ coeff (poly_at n at work) i
        by (no k) b = poly-low n at new new-fits i (omega arith) ∙ sym (poly-low n at work poly-fits i (omega arith))
        by (yes k) (inl b) = coeff-poly n at new new-fits i k ∙ elsewhere (at + i) (λ r. omega arith) (inl (omega arith)) ∙ sym (coeff-poly n at work poly-fits i k)
        by (yes k) (inr b) = coeff-poly n at new new-fits i k ∙ elsewhere (at + i) (λ r. omega arith) (inr (omega arith)) ∙ sym (coeff-poly n at work poly-fits i k)

    factor-at : (i : ℕ) → i < e → get_or put (at + 4 * n + i) 0 ≡ coeff (poly_at n (at + 4 * n) work) i
    factor-at i l = get_or-set_other work (at + (j + e)) (at + 4 * n + i) c 0 (λ r. omega (arith, h.fits)) ∙ sym (coeff-poly n (at + 4 * n) work factor-fits i (omega (arith, h.fits)))

    taken : (i : ℕ) → i < e → coeff (poly_at n at new) (j + i) ≡ coeff (poly_at n at work) (j + i) ⊕ product q c (coeff (poly_at n (at + 4 * n) work) i)
    taken i l =
        let same : at + j + i ≡ at + (j + i) = omega arith in
        coeff-poly n at new new-fits (j + i) (omega (arith, h.fits)) ∙ ap (λ (t : ℕ). get_or new t 0) (sym same) ∙ g.inside i l
        ∙ ap₂ (λ (x y : ℕ). x ⊕ product q c y)
        (ap (λ (t : ℕ). get_or put t 0) same ∙ get_or-set_other work (at + (j + e)) (at + (j + i)) c 0 (λ r. omega arith) ∙ sym (coeff-poly n at work poly-fits (j + i) (omega (arith, h.fits))))
        (factor-at i l)

    left : coeff (poly_at n at new) (j + e) ≡ c
    left =
        coeff-poly n at new new-fits (j + e) (omega (arith, h.fits)) ∙ g.outside (at + (j + e)) (inr (omega arith))
        ∙ get_or-set_same work (at + (j + e)) c 0 place_inside

    same-factor : c ≡ product q (coeff (poly_at n at work) (j + e)) v
    same-factor = ec ∙ ap (λ (t : ℕ). product q t v) (sym (coeff-poly n at work poly-fits (j + e) (omega (arith, h.fits))))

    pub divided_step : DividedStep q n e v at j work new
    divided_step =
        record {
          kept = ln;
          below = g.below;
          factor = factor-kept;
          step =
              subst (λ (t : ℕ). Step (symbols q) e j t (poly_at n (at + 4 * n) work) (poly_at n at work) (poly_at n at new)) same-factor
              (record { taken = taken; left = left; kept = poly-kept });
        }

-- ---- the whole division: j coefficients are left to find

pub record Dividing_at (q n e v at d : ℕ) (old : List ℕ) (j : ℕ) (new : List ℕ) : Type 0 where
  pub kept : length new ≡ length old
  pub below : Below (2 ^ degree q) new
  pub factor : poly_at n (at + 4 * n) new ≡ poly_at n (at + 4 * n) old
  pub dividing : (p : List ℕ) → FactorOf q n e v at d old p → Dividing (symbols q) e d p (poly_at n (at + 4 * n) old) j (poly_at n at new)

module _ (q : ℕ) (irr : Irreducible q) (n e v at d : ℕ) (old : List ℕ) where
  abbrev F : IsField (symbols q)
  F = symbols-field q irr

  pub division_next : (j : ℕ) → j < d → (new next : List ℕ) → Dividing_at q n e v at d old (suc j) new → DividedStep q n e v at j new next → Dividing_at q n e v at d old j next
  division_next j hj new next h g =
      record {
        kept = g.kept ∙ h.kept;
        below = g.below;
        factor = g.factor ∙ h.factor;
        dividing = λ p k.
            dividing_next F e d p (poly_at n (at + 4 * n) old) k.count k.elements k.low v k.unit j hj (poly_at n at new) (h.dividing p k) (poly_at n at next)
            (subst (λ (l : List ℕ). Step (symbols q) e j (product q (coeff (poly_at n at new) (j + e)) v) l (poly_at n at new) (poly_at n at next)) h.factor g.step);
      }

  pub division_ends : at + 6 * n ≤ length old → d + e ≤ 2 * n → (new : List ℕ) → Dividing_at q n e v at d old 0 new → Divided q n e v at d old new
  division_ends room fits new h =
      record {
        kept = h.kept;
        below = h.below;
        quotient = λ p g i l.
            ap (λ (t : ℕ). get_or new t 0) {x = at + e + i} {y = at + (i + e)} (omega arith) ∙ sym (coeff-poly n at new (omega (arith, h.kept)) (i + e) (omega arith))
            ∙ (h.dividing p g).found i (omega arith) l;
      }
