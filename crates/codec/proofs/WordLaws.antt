-- From a codeword to its coefficients, in a setting that passed its checks. Assumes nothing.
use mathlib.Core.Path.{◌≡◌, sym, ap, ◌∙◌, subst}
use mathlib.Core.Bool.{Bool, true, false}
use mathlib.Core.List.{List, ◌++◌}
use Prim.Native.Nat.{ℕ, ◌+◌, ◌-◌, ◌*◌, ◌^◌, ◌<◌}
use native.Mathlib.Omega.{arith}
use lib.ListN.{length, get_or-append}
use Rattle.lists.specs.All.{Below}
use Rattle.lists.specs.Decides.{decides_true, decides_false}
use Rattle.lists.specs.Lanes.{lane_ext, lane_each, place-fits, lane}
use Rattle.lists.specs.Stretch.{stretch}
use Rattle.field.specs.Binary.{degree}
use Rattle.field.specs.Laws.{IsField}
use Rattle.field.specs.Symbols.{symbols}
use Rattle.poly.specs.Poly.{eval}
use Rattle.poly.specs.Novel.{eval_x}
use Rattle.poly.specs.Codeword.{word_of, Codeword}
use Rattle.poly.specs.Span.{elem}
use Rattle.poly.proofs.Span.{elem_sym}
use Rattle.poly.specs.Shift.{word_at}
use Rattle.poly.proofs.Shift.{word-at-back, word-at-zero}
use Rattle.poly.proofs.Blocks.{codeword_values}
use Rattle.space.specs.Ready.{Ready}
use Rattle.space.specs.Usable.{Usable, usable, ready_field, ready_basis}
use Rattle.space.specs.declared.Setting.{Setting}
use Rattle.transform.specs.Blocks.{block, Tested}
use Rattle.transform.proofs.BlockLaws.{eight}
use Rattle.novel.specs.Novel.{PowersOf}
use Rattle.novel.specs.Settings.{steps_of, inverses_of_lem}
use Rattle.evaluation.proofs.WordLaws.{same_word}
use Rattle.novel.specs.Shift.{Shifted}
use Rattle.codec.specs.Words.{InBlockZero}
use Rattle.codec.specs.Calls.{CoefficientsAt}

module _ {s : Setting} {bs : List ℕ} (r : Ready s.field.modulus bs s) where
  abbrev q : ℕ
  q = s.field.modulus

  abbrev k : ℕ
  k = s.space.k

  abbrev size : ℕ
  size = 2 ^ (k - 3)

  pub read : (word d work p : List ℕ) → InBlockZero s bs word work → d ≡ block k 0 work → (after : List ℕ) → PowersOf q s.steps s.inverses (k - 3) d after
      → p ≡ stretch size size after → length p ≡ size → Below (2 ^ degree q) p → CoefficientsAt q bs 0 word p
  read word d work p (bw, lw, cw, e0) ed after w ep lp sp =
      record { count = lp ∙ ap (λ (i : ℕ). 2 ^ (i - 3)) r.dimension; elements = sp; word-is = from cw }
    where
      from : Codeword (symbols q) k bs word → word ≡ word_at (symbols q) 0 (length bs) bs p
      from (p', l', s', e) =
          e
          ∙ same_word (ready_field r) k bs (ready_basis r) p' p
          (λ x sx. sym (ap (λ (l : List ℕ). eval (symbols q) l x) ep ∙ w.values bs (steps_of r (k - 3) (omega arith)) (inverses_of_lem r (k - 3) (omega arith)) x sx
          ∙ ap (λ (l : List ℕ). eval_x (symbols q) bs (k - 3) l x) (ed ∙ e0)
          ∙ codeword_values (ready_field r) k (usable r).low bs (ready_basis r) word lw bw p' l' s' e x sx))
          ∙ ap (λ (i : ℕ). word_of (symbols q) i bs p) r.dimension
          ∙ sym (word-at-zero (ready_field r) (length bs) bs p)

-- ---- the codeword test

module _ {s : Setting} {bs : List ℕ} (r : Ready s.field.modulus bs s) (word : List ℕ) {answer : Bool} {work : List ℕ} (t : Tested s.field.modulus s.space.images s.space.k word answer work) where
  pub tested_code : answer ≡ true → Codeword (symbols s.field.modulus) s.space.k bs word
  tested_code = decides_true (Codeword (symbols s.field.modulus) s.space.k bs word) (t.decides bs (ready_basis r) r.images)

  pub tested_none : answer ≡ false → Codeword (symbols s.field.modulus) (length bs) bs word → ⊥
  tested_none e c =
      decides_false (Codeword (symbols s.field.modulus) s.space.k bs word) (t.decides bs (ready_basis r) r.images) e
      (subst (λ (i : ℕ). Codeword (symbols s.field.modulus) i bs word) (sym r.dimension) c)

module _ {s : Setting} (u : Usable s) (word work rest : List ℕ) (lw : length work ≡ 2 ^ s.space.k) where
  -- the lanes stand in front
  front-block : block s.space.k 0 (work ++ rest) ≡ block s.space.k 0 work
  front-block =
      lane_ext 8 0 (2 ^ (s.space.k - 3)) (work ++ rest) work
      (λ o h. get_or-append work rest 0 (o * 8 + 0) (omega (arith, place-fits {count = 8} {n = 2 ^ (s.space.k - 3)} {o = o} {r = 0} h (omega arith), eight s.space.k u.low)))

  pub front_below : Below (2 ^ degree s.field.modulus) work → Below (2 ^ degree s.field.modulus) (lane 8 0 (2 ^ (s.space.k - 3)) (work ++ rest))
  front_below b =
      subst (Below (2 ^ degree s.field.modulus)) (sym front-block)
      (lane_each (λ (x : ℕ). x < 2 ^ degree s.field.modulus) 8 0 (2 ^ (s.space.k - 3)) work (lib.Pow.pow_pos (degree s.field.modulus)) b)

  pub tested_zero : {answer : Bool} → Tested s.field.modulus s.space.images s.space.k word answer work → {bs : List ℕ} → Ready s.field.modulus bs s
      → Below (2 ^ degree s.field.modulus) word → length word ≡ 2 ^ s.space.k → answer ≡ true → InBlockZero s bs word (work ++ rest)
  tested_zero t {bs} r b l e = (b, l, tested_code r word t e, front-block ∙ t.coeffs bs (ready_basis r) r.images 0 (omega arith))

-- ---- the shift

-- coefficients of P(x + σ), and then those of P
pub coefficients_at_lem : {q : ℕ} → IsField (symbols q) → (σ : ℕ) → (symbols q).Sym σ → (bs : List ℕ) → Below (2 ^ degree q) bs → (word p new : List ℕ) → Shifted q σ p new → CoefficientsAt q bs 0 word p
    → CoefficientsAt q bs σ word new
coefficients_at_lem {q} F σ sσ bs sb word p new t c =
    record {
      count = t.kept ∙ c.count;
      elements = t.below;
      word-is = c.word-is ∙ word-at-zero F (length bs) bs p ∙ word-at-back F σ (length bs) bs p new (λ i. t.values ((symbols q).◌⊕◌ σ (elem (symbols q) bs i)) (F.sym_sum sσ (elem_sym F bs i sb)));
    }
