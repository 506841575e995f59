-- The loops that write the images of a span. Assumes nothing.
use mathlib.Core.Path.{◌≡◌, sym, ap, ap₂, ◌∙◌, subst}
use mathlib.Core.Logic.{inl, inr}
use mathlib.Core.List.{List}
use Prim.Native.Nat.{ℕ, ◌+◌, ◌-◌, ◌*◌, ◌^◌, ◌≤◌, ◌<◌}
use native.Mathlib.Decide.{dec_lt}
use native.Mathlib.Omega.{arith}
use borrow.Rule.Slice.PartMut.{put_mid}
use lib.ListN.{length, get_or, set}
use lib.Seq.{get_or-set_same}
use Rattle.lists.specs.Filled.{Filled, put-filled}
use Rattle.lists.specs.Overwrite.{mul_next}
use Rattle.lists.specs.Tables.{length_tab, get_or_tab}
use Rattle.lists.specs.Lanes.{place-fits}
use Rattle.field.specs.Binary.{◌⊕◌, Irreducible}
use Rattle.field.specs.Symbols.{symbols, symbols-field}
use Rattle.poly.specs.Span.{elem}
use Rattle.poly.proofs.Span.{elem-zero}
use Rattle.poly.proofs.Novel.{elem-high}
use Rattle.space.specs.Sizes.{lane_cells}
use Rattle.transform.proofs.Halves.{next_pow}
use Rattle.transform.specs.Lanes.{image_at}
use Rattle.transform.specs.Spans.{image_list, SpanList, SpanLanes}

-- ---- one list

module _ (images : List ℕ) (from c j : ℕ) where
  pub length_images : length (image_list images from c j) ≡ c
  unfolding image_list
  length_images = length_tab c (λ i. image_at images (from + i) j)

  pub images-at : (i : ℕ) → i < c → get_or (image_list images from c j) i 0 ≡ image_at images (from + i) j
  unfolding image_list
  images-at i h = get_or_tab c (λ i. image_at images (from + i) j) i 0 h

  pub span_none : (xs : List ℕ) → 0 < length xs → SpanList images from c j (2 ^ 0) (set xs 0 0)
  span_none xs h q irr e l =
      let z : e ≡ 0 = omega arith in
      rw z (get_or-set_same xs 0 0 0 h ∙ sym (elem-zero (symbols-field q irr) (image_list images from c j)))

  -- one more basis element
  pub span_next : (i n : ℕ) (v w : List ℕ) → i < c → n ≡ 2 ^ i → SpanList images from c j (2 ^ i) v
      → Filled n n (λ e. get_or v e 0 ⊕ image_at images (from + i) j) v w → SpanList images from c j (2 ^ (i + 1)) w
  span_next i n v w h en s f q irr e l = by (dec_lt e n)
    where
      by : Dec (e < n) → get_or w e 0 ≡ elem (symbols q) (image_list images from c j) e
      by (yes k) = f.outside e (inl k) ∙ s q irr e (omega arith)
      by (no k) =
          let r : ℕ = e - n in
          let low : r < 2 ^ i = omega (arith, next_pow i) in
          ap (λ (t : ℕ). get_or w t 0) {x = e} {y = n + r} (omega arith) ∙ f.inside r (omega arith)
          ∙ ap₂ (λ (x y : ℕ). x ⊕ y) (s q irr r low) (sym (images-at i h))
          ∙ sym (elem-high (symbols-field q irr) (image_list images from c j) i r (omega (arith, length_images)) low)
          ∙ ap (elem (symbols q) (image_list images from c j)) {x = r + 2 ^ i} {y = e} (omega arith)

-- ---- the lists one after the other

module _ (images : List ℕ) (from c : ℕ) where
  -- one more list, as the code puts it
  pub lanes_next : (m n : ℕ) (v ys : List ℕ) → n ≡ 2 ^ c → m * n + n ≤ lane_cells → SpanLanes images from c m v → length ys ≡ n → SpanList images from c m (2 ^ c) ys
      → SpanLanes images from c (m + 1) (put_mid (m * n) (m * n + n - m * n) v ys)
  lanes_next m n v ys en h s ly sy =
      record {
        count = f.kept ∙ s.count;
        inside = λ j hj q irr e he. at j hj q irr e he (dec_lt j m);
        outside = λ p hp.
            let step = mul_next m (2 ^ c) in
            f.outside p (inr (omega (arith, step, same))) ∙ s.outside p (omega (arith, step));
      }
    where
      same : m * n ≡ m * 2 ^ c
      same = ap (λ (t : ℕ). m * t) en

      count-is : m * n + n - m * n ≡ n
      count-is = omega arith

      f : Filled (m * n) n (λ i. get_or ys i 0) v (put_mid (m * n) (m * n + n - m * n) v ys)
      f =
          subst (λ (k : ℕ). Filled (m * n) n (λ i. get_or ys i 0) v (put_mid (m * n) k v ys)) (sym count-is)
          (put-filled (m * n) n v ys (omega (arith, s.count)) ly)

      at : (j : ℕ) → j < m + 1 → (q : ℕ) → Irreducible q → (e : ℕ) → e < 2 ^ c → Dec (j < m)
          → get_or (put_mid (m * n) (m * n + n - m * n) v ys) (j * 2 ^ c + e) 0 ≡ elem (symbols q) (image_list images from c j) e
      at j hj q irr e he (yes l) = f.outside (j * 2 ^ c + e) (inl (omega (arith, same, place-fits l he))) ∙ s.inside j l q irr e he
      at j hj q irr e he (no l) =
          let last : m ≡ j = omega arith in
          subst (λ (k : ℕ). get_or (put_mid (m * n) (m * n + n - m * n) v ys) (k * 2 ^ c + e) 0 ≡ elem (symbols q) (image_list images from c k) e) last
          (ap (λ (t : ℕ). get_or (put_mid (m * n) (m * n + n - m * n) v ys) (t + e) 0) (sym same) ∙ f.inside e (omega arith) ∙ sy q irr e he)
