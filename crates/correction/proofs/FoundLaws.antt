-- The near polynomial is the last remainder over its factor. Assumes nothing.
use mathlib.Core.Path.{◌≡◌, sym, ap₂, ◌∙◌, subst}
use mathlib.Core.Logic.{◌⊎◌, inl, inr, ◌≢◌}
use mathlib.Core.List.{List}
use Prim.Native.Nat.{ℕ, ◌+◌, ◌-◌, ◌*◌, ◌/◌, ◌^◌, ◌≤◌, ◌<◌}
use native.Mathlib.Omega.{arith}
use lib.ListN.{length, get_or}
use lib.Pow.{pow_pos}
use Rattle.lists.specs.All.{All-at}
use Rattle.field.specs.Binary.{degree, product, inverse}
use Rattle.field.specs.Laws.{Ops, IsField}
use Rattle.field.specs.Symbols.{symbols}
use Rattle.poly.specs.Span.{elem}
use Rattle.poly.proofs.Span.{elem_sym}
use Rattle.poly.proofs.Codeword.{basis_distinct}
use Rattle.poly.specs.Blocks.{eighths}
use Rattle.space.specs.Ready.{Ready}
use Rattle.space.specs.declared.Setting.{Setting}
use Rattle.space.specs.Usable.{usable, ready_field, ready_basis}
use Rattle.poly.specs.Coefficients.{coeff}
use Rattle.correction.specs.Near.{radius, NearPoly}
use Rattle.correction.specs.Candidate.{Prepared, Found}
use Rattle.correction.specs.Pairs.{poly_at, Pairs, Advanced}
use Rattle.correction.specs.Quotient.{Divides, FactorOf, Divided}
use Rattle.correction.specs.Remainders.{multiple}
use Rattle.correction.specs.Start.{InSetting}
use Rattle.correction.proofs.PairLaws.{coeff-poly}

module _ {s : Setting} {word : List ℕ} (g : InSetting s word) (old first : List ℕ) (pr : Prepared s word old first) (a b at : ℕ) (work : List ℕ)
    (st : Advanced s.field (length word) (length word) (length word) (4 * length word) first a b at work)
    (la : a ≤ length word - radius (length word)) (lb : length word - radius (length word) ≤ b) where
  abbrev n : ℕ
  n = length word

  abbrev k : ℕ
  k = s.space.k

  abbrev q : ℕ
  q = s.field.modulus

  abbrev K : Ops
  K = symbols q

  abbrev e : ℕ
  e = n - b

  abbrev next : ℕ
  next = 6 * n - at

  abbrev factor : List ℕ
  factor = poly_at n (next + 4 * n) work

  pub sizes : (n ≡ 8 * 2 ^ (k - 3)) × (b ≤ n) × (0 < n)
  sizes = (g.whole ∙ eighths k (usable g.ready).low, st.held.large, omega (arith, g.whole, pow_pos k))

  pub at_most : at ≤ 6 * n
  at_most = by st.held.place
    where
      by : (at ≡ 2 * n) ⊎ (at ≡ 4 * n) → at ≤ 6 * n
      by (inl h) = omega arith
      by (inr h) = omega arith

  pub next-room : next + 6 * n ≤ length work
  next-room = by st.held.place
    where
      by : (at ≡ 2 * n) ⊎ (at ≡ 4 * n) → next + 6 * n ≤ length work
      by (inl h) = omega (arith, st.held.room)
      by (inr h) = omega (arith, st.held.room)

  pub lead-inside : next + 4 * n + e < length work
  lead-inside = omega (arith, next-room, sizes.2)

  pairs : (bs : List ℕ) → Ready q bs s → Pairs q n (elem K bs) (coeff word) a b at work
  pairs bs r = st.pairs (elem K bs) (coeff word) (pr.pairs bs r)

  coeff-lead : coeff factor e ≡ get_or work (next + 4 * n + e) 0
  coeff-lead = coeff-poly n (next + 4 * n) work (omega (arith, next-room)) e (omega (arith, sizes.2))

  pub lead_nonzero : get_or work (next + 4 * n + e) 0 ≢ 0
  lead_nonzero z = (pairs g.basis g.ready).next-lead (coeff-lead ∙ z)

  pub lead_symbol : get_or work (next + 4 * n + e) 0 < 2 ^ degree q
  lead_symbol = All-at (λ (x : ℕ). x < 2 ^ degree q) work 0 st.held.below (pow_pos (degree q)) (next + 4 * n + e)

  module _ (v : ℕ) (ev : v ≡ inverse q (get_or work (next + 4 * n + e) 0)) where
    F : IsField K
    F = ready_field g.ready

    pub divides : Divides s.field n e v next (n / 8) work
    divides =
        record {
          sized = st.held.sized;
          irreducible = st.held.irreducible;
          below = st.held.below;
          symbol = subst (λ (t : ℕ). t < 2 ^ degree q) (sym ev) (F.sym_inv lead_symbol);
          room = next-room;
          fits = omega arith;
        }

    factor_of : (bs : List ℕ) → Ready q bs s → (p : List ℕ) → NearPoly K k bs word p → FactorOf q n e v next (n / 8) work p
    factor_of bs r p near =
        record {
          count = near.count ∙ omega (arith, sizes.0);
          elements = near.elements;
          low = (pairs bs r).next-factor;
          unit = ap₂ (product q) coeff-lead ev ∙ F.prod_inv (get_or work (next + 4 * n + e) 0) lead_symbol lead_nonzero;
          multiple =
              multiple F n (elem K bs) (coeff word) (2 ^ (k - 3)) (radius n) (n - radius n) (pow_pos (k - 3)) (λ j h. elem_sym F bs j r.sound.basis.elements)
              (subst (λ (m : ℕ). Rattle.poly.specs.Poly.Distinct m (elem K bs)) (sym g.whole) (basis_distinct F k bs (ready_basis r)))
              (omega arith)
              (omega (arith, sizes.0))
              a b (poly_at n at work) (poly_at n (at + 4 * n) work) (poly_at n next work) factor (pairs bs r) la lb p near.count near.elements
              (subst (λ (m : ℕ). Rattle.correction.specs.Differences.differing m (coeff word) (λ i. Rattle.poly.specs.Poly.eval K p (elem K bs i)) ≤ radius m) (sym g.whole) near.close);
        }

    pub found : (new : List ℕ) → Divided q n e v next (n / 8) work new → Found s word old new (next + e)
    found new d =
        record {
          kept = d.kept ∙ st.kept ∙ pr.kept;
          below = d.below;
          fits = omega (arith, d.kept, next-room, sizes.0);
          right = λ bs r p near i h. d.quotient p (factor_of bs r p near) i (omega (arith, sizes.0));
        }
