-- The word of the candidate is the near codeword, or there is none. Assumes nothing.
use mathlib.Core.Path.{◌≡◌, refl, sym, ap, ◌∙◌, subst}
use mathlib.Core.Bool.{Bool, true}
use mathlib.Core.List.{List}
use Prim.Native.Nat.{ℕ, ◌+◌, ◌-◌, ◌/◌, ◌^◌, ◌≤◌, ◌<◌}
use native.Mathlib.Omega.{arith}
use lib.ListN.{length, get_or, take, drop}
use lib.Seq.{ext_get_or}
use Rattle.std.specs.Prelude.{Ok, Err}
use Rattle.lists.specs.All.{Below, All-take, All-drop}
use Rattle.lists.specs.Decides.{decides_true}
use Rattle.lists.specs.Stretch.{stretch, length_stretch, get_or_stretch}
use Rattle.field.specs.Binary.{degree}
use Rattle.field.specs.Laws.{Ops}
use Rattle.field.specs.Symbols.{symbols}
use Rattle.poly.specs.Codeword.{word_of, Codeword}
use Rattle.poly.specs.Blocks.{eighths}
use Rattle.refusals.specs.declared.Refusal.TheVariants.{Far}
use Rattle.space.specs.Ready.{Ready}
use Rattle.space.specs.declared.Setting.{Setting}
use Rattle.space.specs.Usable.{usable, ready_basis}
use Rattle.transform.specs.Blocks.{Tested}
use Rattle.transform.specs.Slices.{Transposed}
use Rattle.evaluation.specs.Lanes.{in_order}
use Rattle.evaluation.specs.Words.{Taken, WordLanes}
use Rattle.evaluation.proofs.WordLaws.{lanes_transposed, lanes_in_order}
use Rattle.correction.specs.Candidate.{Found}
use Rattle.correction.specs.Differences.{differences, differences_self}
use Rattle.correction.specs.Near.{radius, Near, NoneNear, NearPoly, near_poly}
use Rattle.correction.specs.Nearest.{NearestWith}
use Rattle.correction.specs.Start.{InSetting}

module _ {s : Setting} {word : List ℕ} (g : InSetting s word) (old work : List ℕ) (at : ℕ) (f : Found s word old work at) (room : List ℕ) (t : Taken at (length word / 8) work room) where
  abbrev k : ℕ
  k = s.space.k

  abbrev q : ℕ
  q = s.field.modulus

  abbrev size : ℕ
  size = 2 ^ (k - 3)

  pub eighth : length word / 8 ≡ size
  eighth = omega (arith, g.whole, eighths k (usable g.ready).low)

  abbrev p : List ℕ
  p = take (length word / 8) room

  fits : at + length word / 8 ≤ length work
  fits = omega (arith, f.fits, eighth)

  pub length_p : length p ≡ size
  length_p = ap length t.right ∙ length_stretch (length word / 8) at work fits ∙ eighth

  pub symbols-p : Below (2 ^ degree q) p
  unfolding stretch
  symbols-p =
      subst (Below (2 ^ degree q)) (sym t.right)
      (All-take (λ (x : ℕ). x < 2 ^ degree q) (length word / 8) (drop at work) (All-drop (λ (x : ℕ). x < 2 ^ degree q) at work f.below))

  -- a near polynomial is the candidate
  near_is : (bs : List ℕ) → Ready q bs s → (r : List ℕ) → NearPoly (symbols q) k bs word r → p ≡ r
  near_is bs y r near =
      ext_get_or 0 p r (length_p ∙ sym near.count)
      (λ i l. let m : i < size = omega (arith, length_p) in
      ap (λ (u : List ℕ). get_or u i 0) t.right ∙ get_or_stretch (length word / 8) at work i (omega (arith, eighth)) ∙ f.right bs y r near i m)

  -- its word stands in lanes, and so many differences are counted
  module _ (scratch : List ℕ) (l : WordLanes s p scratch) (count : ℕ) (e : count ≡ differences word (in_order (length word / 8) (take (length word) scratch))) where
    module _ (bs : List ℕ) (y : Ready q bs s) where
      abbrev K : Ops
      K = symbols q

      abbrev w : List ℕ
      w = word_of K (length bs) bs p

      long : length word ≡ 2 ^ length bs
      long = g.whole ∙ ap (λ (i : ℕ). 2 ^ i) y.dimension

      counted : count ≡ differences word w
      counted =
          e ∙ ap (λ (i : ℕ). differences word (in_order i (take (length word) scratch))) eighth
          ∙ ap (λ (i : ℕ). differences word (in_order size (take i scratch))) g.whole
          ∙ ap (differences word) (lanes_in_order y p scratch l)

      near_word : count ≤ radius (length word) → Near K (length bs) bs word w
      near_word h =
          record {
            codeword = (p, length_p ∙ ap (λ (i : ℕ). 2 ^ (i - 3)) y.dimension, symbols-p, refl);
            close = subst (λ (i : ℕ). differences word w ≤ radius i) long (omega (arith, counted));
          }

      near_none : radius (length word) < count → NoneNear K (length bs) bs word
      near_none h c near = by near.codeword
        where
          by : Codeword K (length bs) bs c → ⊥
          by (r, lr, sr, er) =
              let same : p ≡ r =
              near_is bs y r
              (subst (λ (i : ℕ). NearPoly K i bs word r) (sym y.dimension)
              (near_poly K (length bs) bs word long r lr sr (subst (λ (l : List ℕ). differences word l ≤ radius (2 ^ length bs)) er near.close)))
              in
              let equal : w ≡ c = ap (word_of K (length bs) bs) same ∙ sym er in
              omega (arith, subst (λ (l : List ℕ). differences word l ≤ radius (2 ^ length bs)) (sym equal) near.close, long, counted)

    pub nearest_found : count ≤ radius (length word) → (output new : List ℕ) → Transposed (length word / 8) 8 (take (length word) scratch) output new → length output ≡ length word
        → NearestWith s word output new (Ok count)
    nearest_found h output new t lo = (
      (λ bs y. subst (Near (symbols q) (length bs) bs word) (sym (new_is bs y)) (near_word bs y h)),
      counted g.basis g.ready ∙ ap (differences word) (sym (new_is g.basis g.ready)),
    )
      where
        new_is : (bs : List ℕ) → Ready q bs s → new ≡ word_of (symbols q) (length bs) bs p
        new_is bs y =
            lanes_transposed y p scratch l output new
            (subst (λ (i : ℕ). Transposed i 8 (take (2 ^ k) scratch) output new) eighth
            (subst (λ (i : ℕ). Transposed (length word / 8) 8 (take i scratch) output new) g.whole t))
            (t.kept ∙ lo ∙ g.whole)

    pub nearest_none : radius (length word) < count → (output : List ℕ) → NearestWith s word output output (Err Far)
    nearest_none h output = (refl, (λ bs y. near_none bs y h), refl)

-- a codeword is its own
pub nearest_self : {s : Setting} {answer : Bool} (word work : List ℕ) → Tested s.field.modulus s.space.images s.space.k word answer work → answer ≡ true
    → (output new : List ℕ) → new ≡ word → NearestWith s word output new (Ok 0)
nearest_self {s} word work t e output new w =
    ((λ bs r. subst (Near (symbols q) (length bs) bs word) (sym w) (near bs r)), sym (ap (differences word) w ∙ differences_self word))
  where
    q : ℕ
    q = s.field.modulus

    near : (bs : List ℕ) → Ready q bs s → Near (symbols q) (length bs) bs word word
    near bs r =
        record {
          codeword =
              subst (λ (i : ℕ). Codeword (symbols q) i bs word) r.dimension
              (decides_true (Codeword (symbols q) s.space.k bs word) (t.decides bs (ready_basis r) r.images) e);
          close = omega (arith, differences_self word);
        }
