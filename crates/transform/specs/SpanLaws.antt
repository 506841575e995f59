-- The lanes of a span hold symbols. Assumes nothing.
use Rattle.std.proofs.Common.{sym, ap, ◌∙◌, subst, div-lt_iff_lt-mul, mod-lt, div-add-mod', arith, pow_pos}
use Rattle.std.specs.Prelude.{List, ℕ, ◌+◌, ◌*◌, ◌/◌, ◌%◌, ◌^◌, ◌<◌, get_or}
use Rattle.std.proofs.Math.Decide.{dec_lt}
use Rattle.lists.specs.All.{All, Below, All-at, All-of}
use Rattle.lists.specs.Tables.{All-tab}
use Rattle.field.specs.Binary.{degree, Irreducible}
use Rattle.field.specs.Laws.{Ops, IsField}
use Rattle.field.specs.Symbols.{symbols, symbols-field}
use Rattle.poly.proofs.Span.{elem_sym}
use Rattle.transform.specs.Lanes.{image_at}
use Rattle.transform.specs.Spans.{image_list, SpanLanes}

module _ (q : ℕ) (irr : Irreducible q) (images : List ℕ) where
  abbrev K : Ops
  K = symbols q

  abbrev F : IsField K
  F = symbols-field q irr

  listed : Below (2 ^ degree q) images → (from c j : ℕ) → All K.Sym (image_list images from c j)
  unfolding image_list
  listed b from c j =
      All-tab K.Sym c (λ i. image_at images (from + i) j) (λ i h. All-at K.Sym images 0 b (pow_pos (degree q)) (16 * (from + i) + j))

  pub span_below : (from c m : ℕ) (lanes : List ℕ) → SpanLanes images from c m lanes → Below (2 ^ degree q) images → Below (2 ^ degree q) lanes
  span_below from c m lanes s b = All-of K.Sym lanes 0 (λ p h. at p (dec_lt p (m * 2 ^ c)))
    where
      at : (p : ℕ) → Dec (p < m * 2 ^ c) → get_or lanes p 0 < 2 ^ degree q
      at p (no z) = subst K.Sym (sym (s.outside p (omega arith))) (pow_pos (degree q))
      at p (yes z) =
          let j : ℕ = p / 2 ^ c in
          let e : ℕ = p % 2 ^ c in
          subst K.Sym
          (sym (s.inside j ((div-lt_iff_lt-mul (pow_pos c)).1 z) q irr e (mod-lt p (pow_pos c))) ∙ ap (λ (i : ℕ). get_or lanes i 0) (div-add-mod' p (2 ^ c)))
          (elem_sym F (image_list images from c j) e (listed b from c j))
