-- The loops of one layer: `Scaled` after each turn of `add_scaled`. Assumes nothing.
use mathlib.Core.Path.{◌≡◌, refl, sym, ap, ap₂, ◌∙◌}
use mathlib.Core.Logic.{inl, inr}
use mathlib.Core.List.{List}
use Prim.Native.Nat.{ℕ, ◌+◌, ◌*◌, ◌/◌, ◌≤◌, ◌<◌}
use native.Mathlib.Decide.{dec_lt}
use native.Mathlib.Nat.{add-mul}
use native.Mathlib.Omega.{arith}
use lib.ListN.{length, get_or}
use Rattle.lists.specs.Overwrite.{mul_next}
use Rattle.lists.specs.Stretch.{Apart}
use Rattle.lists.specs.Tables.{part-fits}
use Rattle.lists.specs.Lanes.{place-fits}
use Rattle.field.specs.Binary.{◌⊕◌, product}
use Rattle.field.specs.Products.{accumulated}
use Rattle.field.proofs.Accumulate.{length_accumulated, accumulated-at, accumulated_outside, accumulated-below}
use Rattle.transform.specs.Layers.{Scaled}

module _ (q c : ℕ) (ts : List ℕ) (k : ℕ) (old : List ℕ) (lx : length old ≡ (k + k) * length ts) where
  abbrev s : ℕ
  s = length ts

  two_halves : length old ≡ k * s + k * s
  two_halves = lx ∙ add-mul k k s

  pub half_length : length old / 2 ≡ k * s
  half_length = omega (arith, two_halves)

  module _ (j p half : ℕ) (v : List ℕ) (h : j < k) (ep : p ≡ j * s) (eh : half ≡ k * s) (sv : Scaled q c ts k j old v) where
    inside : j * s + s ≤ k * s
    inside = part-fits {i = j} {n = k} s h

    pub turn-apart : Apart s (half + p) p (length v)
    turn-apart =
        record {
          first = omega (arith, two_halves, sv.kept, inside);
          second = omega (arith, two_halves, sv.kept, inside);
          apart = inr (omega (arith, inside));
        }

    abbrev next : List ℕ
    next = accumulated q c ts (half + p) p v

    -- a list that is done
    before : (o r : ℕ) → o < j → r < s → get_or next (o * s + r) 0 ≡ get_or v (o * s + r) 0
    before o r ho hr = accumulated_outside q c ts (half + p) p v turn-apart (o * s + r) (inl (omega (arith, place-fits ho hr)))

    -- the list of the turn
    here : (r : ℕ) → r < s → get_or next (j * s + r) 0 ≡ get_or old (j * s + r) 0 ⊕ product q (get_or ts r 0 ⊕ c) (get_or old ((k + j) * s + r) 0)
    here r hr =
        let place : half + p + r ≡ (k + j) * s + r = omega (arith, add-mul k j s) in
        accumulated-at q c ts (half + p) p v turn-apart r (j * s + r) (half + p + r) hr (omega arith) refl
        ∙ ap₂ (λ (x y : ℕ). x ⊕ product q (get_or ts r 0 ⊕ c) y) (sv.high (j * s + r) (omega arith))
        (sv.high (half + p + r) (omega (arith, inside)) ∙ ap (λ (t : ℕ). get_or old t 0) place)

    pub scaled_next : 0 < q → Scaled q c ts k (j + 1) old next
    scaled_next pos =
        record {
          kept = length_accumulated q c ts (half + p) p v turn-apart ∙ sv.kept;
          below = accumulated-below q c pos ts (half + p) p v turn-apart sv.below;
          low = λ o r ho hr. at o r ho hr (dec_lt o j);
          high = λ i hi.
              let step = mul_next j s in
              accumulated_outside q c ts (half + p) p v turn-apart i (inr (omega (arith, step))) ∙ sv.high i (omega (arith, step));
        }
      where
        at : (o r : ℕ) → o < j + 1 → r < s → Dec (o < j)
            → get_or next (o * s + r) 0 ≡ get_or old (o * s + r) 0 ⊕ product q (get_or ts r 0 ⊕ c) (get_or old ((k + o) * s + r) 0)
        at o r ho hr (yes l) = before o r l hr ∙ sv.low o r l hr
        at o r ho hr (no l) =
            let same : j ≡ o = omega arith in
            rw (sym same) (here r hr)
