-- The products of steps as `scales` makes them: each turn doubles the list. Assumes nothing.
use mathlib.Core.Path.{◌≡◌, refl, sym, ap, ap₂, ◌∙◌, subst}
use mathlib.Core.Logic.{inl}
use mathlib.Core.List.{List, [], ◌∷◌, ◌++◌, append_assoc}
use Prim.Native.Nat.{ℕ, suc, ◌+◌, ◌^◌, ◌≤◌, ◌<◌, ◌-◌}
use native.Mathlib.Nat.{two-pow-succ}
use native.Mathlib.Numerals.{add-one}
use native.Mathlib.Omega.{arith}
use lib.ListN.{length, get_or, take, drop, set, replicate, length-append, length-set, length-replicate}
use lib.Seq.{take_at, drop_at}
use Rattle.space.specs.Sizes.{max_dim, max_word}
use Rattle.lists.specs.All.{All, Below, IsZero, All-take, All-drop, All-replicate}
use Rattle.lists.specs.Stretch.{Apart, stretch, length_stretch}
use Rattle.field.specs.Binary.{degree, Irreducible}
use Rattle.field.specs.Laws.{Ops, IsField}
use Rattle.field.specs.Product.{positive}
use Rattle.field.specs.Products.{add_products, accumulated}
use Rattle.field.specs.Symbols.{symbols, symbols-field}
use Rattle.field.proofs.Accumulate.{length_accumulated, accumulated-below}
use Rattle.poly.specs.Poly.{add_p, scale_p, length_scale_p}
use Rattle.novel.specs.Scales.{scales_of, zero_room, Scales}
use Rattle.novel.proofs.Evaluate.{multiples}

module _ (q : ℕ) (irr : Irreducible q) (steps : List ℕ) where
  abbrev K : Ops
  K = symbols q

  abbrev F : IsField K
  F = symbols-field q irr

  abbrev s : ℕ → ℕ
  s j = get_or steps j 0

  -- a sum with zeros
  pub zeros-add_p : (zs ys : List ℕ) → All IsZero zs → length zs ≡ length ys → add_p K zs ys ≡ ys
  zeros-add_p [] ys z e = refl
  zeros-add_p (x ∷ zs) [] z e = absurd (omega arith)
  zeros-add_p (x ∷ zs) (y ∷ ys) z e = ap₂ ◌∷◌ (ap (λ (t : ℕ). K.◌⊕◌ t y) z.0 ∙ F.zero-sum y) (zeros-add_p zs ys z.1 (omega arith))

  -- the products of the first j steps, and zeros behind
  pub record Doubled (j : ℕ) (out : List ℕ) : Type 0 where
    pub count : length out ≡ max_word
    pub below : Below (2 ^ degree q) out
    pub right : take (2 ^ j) out ≡ scales_of K s j
    pub rest : All IsZero (drop (2 ^ j) out)

  one-first : (n : ℕ) → All IsZero (replicate {A = ℕ} n 0)
  one-first n = All-replicate IsZero n 0 refl

  pub doubled_start : (out : List ℕ) → out ≡ zero_room → Doubled 0 (set out 0 1)
  unfolding zero_room scales_of
  doubled_start out e =
      subst (λ (l : List ℕ). Doubled 0 (set l 0 1)) (sym e)
      (record {
        count = length-set (replicate {A = ℕ} max_word 0) 0 1 ∙ length-replicate {A = ℕ} max_word 0;
        below = (F.sym_one, All-replicate (λ (x : ℕ). x < 2 ^ degree q) (max_word - 1) 0 F.sym_zero);
        right = refl;
        rest = one-first (max_word - 1);
      })

  module _ (j : ℕ) (out ts : List ℕ) (few : j < max_dim) (z : All IsZero ts) (lt : length ts ≡ 2 ^ j) (d : Doubled j out) where
    abbrev n : ℕ
    n = length ts

    fits : n + n ≤ max_word
    fits = omega (arith, two-pow-succ j, lib.Pow.pow_mono {i = suc j} {j = max_dim} (omega arith))

    pub double_apart : Apart n 0 n (length out)
    double_apart = record { first = omega (arith, fits, d.count); second = omega (arith, fits, d.count); apart = inl (omega arith) }

    abbrev done : List ℕ
    done = scales_of K s j

    factors_are : stretch n 0 out ≡ done
    unfolding stretch
    factors_are = ap (λ (k : ℕ). take k out) lt ∙ d.right

    length_done : length done ≡ n
    length_done = ap length (sym factors_are) ∙ length_stretch n 0 out double_apart.first

    room-zero : All IsZero (stretch n n out)
    unfolding stretch
    room-zero = All-take IsZero n (drop n out) (subst (λ (k : ℕ). All IsZero (drop k out)) (sym lt) d.rest)

    new_are : add_products q (s j) ts (stretch n 0 out) (stretch n n out) ≡ scale_p K (s j) done
    new_are =
        multiples q irr (s j) ts (stretch n 0 out) (stretch n n out) z (length_stretch n 0 out double_apart.first) (length_stretch n n out double_apart.second)
        ∙ zeros-add_p (stretch n n out) (scale_p K (s j) (stretch n 0 out)) room-zero
        (length_stretch n n out double_apart.second ∙ sym (length_scale_p K (s j) (stretch n 0 out) ∙ length_stretch n 0 out double_apart.first))
        ∙ ap (scale_p K (s j)) factors_are

    whole : accumulated q (s j) ts 0 n out ≡ (done ++ scale_p K (s j) done) ++ drop (n + n) out
    unfolding accumulated
    whole =
        ap₂ (λ (u v : List ℕ). u ++ (v ++ drop (n + n) out)) (ap (λ (k : ℕ). take k out) lt ∙ d.right) new_are
        ∙ sym (append_assoc done (scale_p K (s j) done) (drop (n + n) out))

    length_both : length (done ++ scale_p K (s j) done) ≡ n + n
    length_both = length-append done (scale_p K (s j) done) ∙ ap₂ ◌+◌ length_done (length_scale_p K (s j) done ∙ length_done)

    power : 2 ^ (j + 1) ≡ n + n
    power = ap (λ (k : ℕ). 2 ^ k) (add-one j) ∙ two-pow-succ j ∙ ap₂ ◌+◌ (sym lt) (sym lt)

    pub doubled_next : Doubled (j + 1) (accumulated q (s j) ts 0 n out)
    unfolding scales_of
    doubled_next =
        record {
          count = length_accumulated q (s j) ts 0 n out double_apart ∙ d.count;
          below = accumulated-below q (s j) (positive q irr) ts 0 n out double_apart d.below;
          right = ap₂ (λ (k : ℕ) (l : List ℕ). take k l) power whole ∙ take_at (done ++ scale_p K (s j) done) (drop (n + n) out) (n + n) length_both ∙ ap (scales_of K s) (sym (add-one j));
          rest = subst (All IsZero) (sym (ap₂ (λ (k : ℕ) (l : List ℕ). drop k l) power whole ∙ drop_at (done ++ scale_p K (s j) done) (drop (n + n) out) (n + n) length_both))
              (subst (All IsZero) (sym (split_drop out)) (All-drop IsZero n (drop n out) (subst (λ (k : ℕ). All IsZero (drop k out)) (sym lt) d.rest)));
        }
      where
        split_drop : (xs : List ℕ) → drop (n + n) xs ≡ drop n (drop n xs)
        split_drop xs = sym (lib.Seq.drop-drop n n xs)

  pub scales_all : {j m : ℕ} {out : List ℕ} → j ≡ m → Doubled j out → Scales q steps m out
  scales_all {j} {m} {out} e d = record { count = d.count; below = d.below; right = subst (λ (k : ℕ). take (2 ^ k) out ≡ scales_of K s k) e d.right }
