-- The three kinds of a step. Assumes nothing.
use mathlib.Core.Path.{◌≡◌, refl, sym, ap₂, ◌∙◌, subst}
use mathlib.Core.Logic.{◌⊎◌, inl, inr, ◌≢◌}
use mathlib.Core.List.{List}
use Prim.Native.Nat.{ℕ, suc, ◌+◌, ◌-◌, ◌*◌, ◌≤◌, ◌<◌, ◌^◌}
use native.Mathlib.Omega.{arith}
use lib.ListN.{length, get_or}
use Rattle.field.specs.Binary.{degree, product}
use Rattle.field.specs.Laws.{Ops, IsField}
use Rattle.field.specs.Symbols.{symbols, symbols-field}
use Rattle.field.specs.declared.Field.{Field}
use Rattle.poly.specs.Coefficients.{coeff, low-le}
use Rattle.correction.specs.Remainders.{Remainders, skip, reduce, turn}
use Rattle.correction.specs.Pairs.{poly_at, Pairs, Held, Advanced, Places, Cancels, Cancelled}
use Rattle.correction.proofs.PairLaws.{coeff-poly, poly-symbols, from-kept, factor-kept, to_mixed, factor_mixed, number-kept}

module _ {f : Field} {n k b at : ℕ} {work : List ℕ} (h : Held f n k b at work) (pos : 0 < k) where
  abbrev q : ℕ
  q = f.modulus

  abbrev K : Ops
  K = symbols q

  abbrev F : IsField K
  F = symbols-field q h.irreducible

  abbrev a : ℕ
  a = k - 1

  abbrev next : ℕ
  next = 6 * n - at

  places : Places n at next
  places = by h.place
    where
      by : (at ≡ 2 * n) ⊎ (at ≡ 4 * n) → Places n at next
      by (inl e) = inl (e, omega arith)
      by (inr e) = inr (e, omega arith)

  back : Places n next at
  back = by places
    where
      by : Places n at next → Places n next at
      by (inl e) = inr (e.1, e.0)
      by (inr e) = inl (e.1, e.0)

  next_place : (next ≡ 2 * n) ⊎ (next ≡ 4 * n)
  next_place = by places
    where
      by : Places n at next → (next ≡ 2 * n) ⊎ (next ≡ 4 * n)
      by (inl e) = inr e.1
      by (inr e) = inl e.1

  fits : at + 2 * n ≤ length work
  fits = by h.place
    where
      by : (at ≡ 2 * n) ⊎ (at ≡ 4 * n) → at + 2 * n ≤ length work
      by (inl e) = omega (arith, h.room)
      by (inr e) = omega (arith, h.room)

  next_fits : next + 2 * n ≤ length work
  next_fits = by next_place
    where
      by : (next ≡ 2 * n) ⊎ (next ≡ 4 * n) → next + 2 * n ≤ length work
      by (inl e) = omega (arith, h.room)
      by (inr e) = omega (arith, h.room)

  positive : 0 < n
  positive = omega (arith, h.small)

  pub at_most : at ≤ 6 * n
  at_most = by h.place
    where
      by : (at ≡ 2 * n) ⊎ (at ≡ 4 * n) → at ≤ 6 * n
      by (inl e) = omega arith
      by (inr e) = omega arith

  pub read-inside : next + a < length work
  read-inside = omega (arith, next_fits, h.small)

  coeff-next : coeff (poly_at n next work) a ≡ get_or work (next + a) 0
  coeff-next = coeff-poly n next work next_fits a (omega (arith, h.small))

  coeff-last : coeff (poly_at n at work) b ≡ get_or work (at + b) 0
  coeff-last = coeff-poly n at work fits b (omega (arith, h.large, positive))

  at_suc : (x w : ℕ → ℕ) → Pairs q n x w k b at work → Pairs q n x w (suc a) b at work
  at_suc x w p = subst (λ (t : ℕ). Pairs q n x w t b at work) {x = k} {y = suc a} (omega arith) p

  -- ---- the coefficient is 0

  pub step_skip : get_or work (next + a) 0 ≡ 0 → Advanced f n k b at work a b at work
  step_skip z =
      record {
        held =
            record {
              sized = h.sized;
              irreducible = h.irreducible;
              small = omega (arith, h.small);
              large = h.large;
              place = h.place;
              room = h.room;
              below = h.below;
              lead = h.lead;
            };
        kept = refl;
        pairs = λ x w p. skip F n x w a b (poly_at n at work) (poly_at n (at + 4 * n) work) (poly_at n next work) (poly_at n (next + 4 * n) work) (at_suc x w p) (coeff-next ∙ z);
      }

  -- ---- a multiple of the last remainder takes it away

  pub reduces : b ≤ a → Cancels f n at b next a (n - a) work
  reduces le =
      record {
        sized = h.sized;
        irreducible = h.irreducible;
        below = h.below;
        places = places;
        room = h.room;
        order = le;
        fits = omega (arith, h.small);
        factor-fits = omega (arith, h.small);
        lead = h.lead;
      }

  module _ (le : b ≤ a) (new : List ℕ) (g : Cancelled q n at b next a (n - a) work new) where
    abbrev c : ℕ
    c = g.factor

    fr : a - b + (b + 1) ≤ 2 * n
    fr = omega (arith, h.small, positive)

    fv : a - b + (n - a) ≤ 2 * n
    fv = omega (arith, h.small)

    abbrev kept : poly_at n at new ≡ poly_at n at work
    kept = from-kept q h.irreducible n c at next (a - b) (b + 1) (n - a) work new places h.room fr fv g.added

    abbrev kept_factor : poly_at n (at + 4 * n) new ≡ poly_at n (at + 4 * n) work
    kept_factor = factor-kept q h.irreducible n c at next (a - b) (b + 1) (n - a) work new places h.room fr fv g.added

    new-fits : next + 4 * n + 2 * n ≤ length new
    new-fits = by next_place
      where
        by : (next ≡ 2 * n) ⊎ (next ≡ 4 * n) → next + 4 * n + 2 * n ≤ length new
        by (inl e) = omega (arith, h.room, g.added.kept)
        by (inr e) = omega (arith, h.room, g.added.kept)

    pairs_reduced : (x w : ℕ → ℕ) → Pairs q n x w k b at work → Pairs q n x w a b at new
    pairs_reduced x w p =
        let r = reduce F n x w a b (poly_at n at work) (poly_at n (at + 4 * n) work) (poly_at n next work) (poly_at n (next + 4 * n) work) (at_suc x w p) c
        (poly_at n next new) (poly_at n (next + 4 * n) new) le
        (poly-symbols n next new (omega (arith, next_fits, g.added.kept)) (2 ^ degree q) g.added.below)
        (poly-symbols n (next + 4 * n) new new-fits (2 ^ degree q) g.added.below)
        (ap₂ (λ (u v : ℕ). K.◌⊕◌ u (product q c v)) coeff-next coeff-last ∙ g.zero)
        (to_mixed q h.irreducible n c at next (a - b) (b + 1) (n - a) work new places h.room fr fv g.added
        (low-le (suc b) (b + 1) (poly_at n at work) p.last-low (omega arith)))
        (factor_mixed q h.irreducible n c at next (a - b) (b + 1) (n - a) work new places h.room fr fv g.added
        (low-le (suc (n - k)) (n - a) (poly_at n (at + 4 * n) work) p.last-factor (omega (arith, h.small))))
        in
        subst (λ (l : List ℕ). Remainders K n x w a b l (poly_at n (at + 4 * n) new) (poly_at n next new) (poly_at n (next + 4 * n) new)) (sym kept)
        (subst (λ (l : List ℕ). Remainders K n x w a b (poly_at n at work) l (poly_at n next new) (poly_at n (next + 4 * n) new)) (sym kept_factor) r)

    pub step-reduce : Advanced f n k b at work a b at new
    step-reduce =
        record {
          held =
              record {
                sized = h.sized;
                irreducible = h.irreducible;
                small = omega (arith, h.small);
                large = h.large;
                place = h.place;
                room = omega (arith, h.room, g.added.kept);
                below = g.added.below;
                lead = λ z. h.lead (sym (number-kept q h.irreducible n c at next (a - b) (b + 1) (n - a) work new places h.room fr fv g.added b (omega (arith, h.large, positive))) ∙ z);
              };
          kept = g.added.kept;
          pairs = pairs_reduced;
        }

  -- ---- the last remainder is the longer one

  pub turns : a < b → get_or work (next + a) 0 ≢ 0 → Cancels f n next a at b (n - b + 1) work
  turns lt ne =
      record {
        sized = h.sized;
        irreducible = h.irreducible;
        below = h.below;
        places = back;
        room = h.room;
        order = omega arith;
        fits = omega (arith, h.large, positive);
        factor-fits = omega (arith, h.large, positive);
        lead = ne;
      }

  module _ (lt : a < b) (ne : get_or work (next + a) 0 ≢ 0) (new : List ℕ) (g : Cancelled q n next a at b (n - b + 1) work new) where
    abbrev d : ℕ
    d = g.factor

    tr : b - a + (a + 1) ≤ 2 * n
    tr = omega (arith, h.large, positive)

    tv : b - a + (n - b + 1) ≤ 2 * n
    tv = omega (arith, h.large, positive)

    new-at : at + 4 * n + 2 * n ≤ length new
    new-at = by h.place
      where
        by : (at ≡ 2 * n) ⊎ (at ≡ 4 * n) → at + 4 * n + 2 * n ≤ length new
        by (inl e) = omega (arith, h.room, g.added.kept)
        by (inr e) = omega (arith, h.room, g.added.kept)

    other : 6 * n - next ≡ at
    other = omega (arith, at_most)

    pairs-turned : (x w : ℕ → ℕ) → Pairs q n x w k b at work → Pairs q n x w b a next new
    pairs-turned x w p =
        let r = turn F n x w a b (poly_at n at work) (poly_at n (at + 4 * n) work) (poly_at n next work) (poly_at n (next + 4 * n) work) (at_suc x w p) d
        (poly_at n at new) (poly_at n (at + 4 * n) new) lt
        (poly-symbols n at new (omega (arith, fits, g.added.kept)) (2 ^ degree q) g.added.below)
        (poly-symbols n (at + 4 * n) new new-at (2 ^ degree q) g.added.below)
        g.symbol (λ z. ne (sym coeff-next ∙ z))
        (ap₂ (λ (u v : ℕ). K.◌⊕◌ u (product q d v)) coeff-last coeff-next ∙ g.zero)
        (to_mixed q h.irreducible n d next at (b - a) (a + 1) (n - b + 1) work new back h.room tr tv g.added
        (low-le k (a + 1) (poly_at n next work) p.next_low (omega arith)))
        (factor_mixed q h.irreducible n d next at (b - a) (a + 1) (n - b + 1) work new back h.room tr tv g.added
        (low-le (suc (n - b)) (n - b + 1) (poly_at n (next + 4 * n) work) p.next-factor (omega arith)))
        in
        subst (λ (t : ℕ). Remainders K n x w b a (poly_at n next new) (poly_at n (next + 4 * n) new) (poly_at n t new) (poly_at n (t + 4 * n) new)) (sym other)
        (subst (λ (l : List ℕ). Remainders K n x w b a l (poly_at n (next + 4 * n) new) (poly_at n at new) (poly_at n (at + 4 * n) new))
        (sym (from-kept q h.irreducible n d next at (b - a) (a + 1) (n - b + 1) work new back h.room tr tv g.added))
        (subst (λ (l : List ℕ). Remainders K n x w b a (poly_at n next work) l (poly_at n at new) (poly_at n (at + 4 * n) new))
        (sym (factor-kept q h.irreducible n d next at (b - a) (a + 1) (n - b + 1) work new back h.room tr tv g.added)) r))

    pub step-turn : Advanced f n k b at work b a next new
    step-turn =
        record {
          held =
              record {
                sized = h.sized;
                irreducible = h.irreducible;
                small = h.large;
                large = omega (arith, h.small);
                place = next_place;
                room = omega (arith, h.room, g.added.kept);
                below = g.added.below;
                lead = λ z. ne (sym (number-kept q h.irreducible n d next at (b - a) (a + 1) (n - b + 1) work new back h.room tr tv g.added a (omega (arith, h.small))) ∙ z);
              };
          kept = g.added.kept;
          pairs = pairs-turned;
        }

-- ---- steps one after the other

pub advanced_none : {f : Field} {n a b at : ℕ} {work : List ℕ} → Held f n a b at work → Advanced f n a b at work a b at work
advanced_none h = record { held = h; kept = refl; pairs = λ x w p. p }

pub advanced_then : {f : Field} {n a b at a' b' at' a'' b'' at'' : ℕ} {work work' work'' : List ℕ} → Advanced f n a b at work a' b' at' work' → Advanced f n a' b' at' work' a'' b'' at'' work''
    → Advanced f n a b at work a'' b'' at'' work''
advanced_then s t = record { held = t.held; kept = t.kept ∙ s.kept; pairs = λ x w p. t.pairs x w (s.pairs x w p) }
