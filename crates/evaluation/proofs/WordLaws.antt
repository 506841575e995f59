-- From coefficients to the word, in a setting that passed its checks. Assumes nothing.
use mathlib.Core.Path.{◌≡◌, sym, ap, ◌∙◌}
use mathlib.Core.List.{List}
use Prim.Native.Nat.{ℕ, ◌+◌, ◌-◌, ◌*◌, ◌^◌, ◌≤◌, ◌<◌}
use native.Mathlib.Omega.{arith}
use lib.ListN.{length, get_or, take}
use lib.Seq.{ext_get_or}
use Rattle.lists.specs.Lanes.{lane, get_or_lane, length_lane}
use Rattle.lists.specs.Stretch.{stretch}
use Rattle.lists.specs.Tables.{part, part_ext, part-fits, length_part, get_d_part, length_tab, tab_ext}
use Rattle.field.specs.Binary.{degree}
use Rattle.field.specs.Laws.{Ops, IsField}
use Rattle.field.specs.Symbols.{symbols}
use Rattle.poly.specs.Poly.{eval}
use Rattle.poly.specs.Span.{elem}
use Rattle.poly.proofs.Span.{elem_sym}
use Rattle.poly.specs.Degree.{monomials}
use Rattle.poly.proofs.Degree.{eval-monomials}
use Rattle.poly.specs.Codeword.{Basis, word_of}
use Rattle.poly.specs.Blocks.{eighths}
use Rattle.space.specs.Ready.{Ready}
use Rattle.space.specs.Usable.{usable, ready_field, ready_basis}
use Rattle.space.specs.declared.Setting.{Setting}
use Rattle.transform.specs.Slices.{Transposed}
use Rattle.transform.specs.Blocks.{block, InBlocks, BlocksEvaluated}
use Rattle.transform.proofs.BlockLaws.{eight}
use Rattle.novel.specs.Novel.{NovelOf}
use Rattle.novel.specs.Settings.{steps_of}
use Rattle.evaluation.specs.Lanes.{in_order, in_order_word}
use Rattle.evaluation.specs.Words.{spread_of, Filling, LanesOf, WordLanes}
use Rattle.evaluation.proofs.Spreading.{length_spread, spread_each, spread_lane}

module _ {f : _} {images : List ℕ} {k : ℕ} {d : List ℕ} (g : Filling f images k d) where
  pub filling_blocks : (n : ℕ) → n ≡ 2 ^ k → InBlocks f images k (spread_of n d)
  filling_blocks n e =
      record {
        sized = g.sized;
        irreducible = g.irreducible;
        low = g.low;
        high = g.high;
        long = length_spread n d ∙ e;
        image-symbols = g.image-symbols;
        symbols = spread_each n d (λ (x : ℕ). x < 2 ^ degree f.modulus) (lib.Pow.pow_pos (degree f.modulus)) g.symbols;
      }

  pub lanes_filled : (n : ℕ) (new : List ℕ) → n ≡ 2 ^ k → BlocksEvaluated f.modulus images k (spread_of n d) new → LanesOf f.modulus images k d new
  lanes_filled n new e v b B I r h =
      v.word b B I d
      (λ r h. ap (λ (i : ℕ). lane 8 r i (spread_of n d)) (sym g.count) ∙ spread_lane n d (e ∙ eight k g.low ∙ ap (λ (i : ℕ). i * 8) (sym g.count)) r h)
      r h

-- eight lanes, one after the other
pub transposed_word : (size : ℕ) (lanes old new w : List ℕ) → Transposed size 8 lanes old new → length new ≡ 8 * size → length w ≡ 8 * size
    → ((r : ℕ) → r < 8 → lane 8 r size lanes ≡ part size r w) → new ≡ w
transposed_word size lanes old new w t ln lw e = part_ext 8 size new w ln lw (λ r h. same r h ∙ e r h)
  where
    same : (r : ℕ) → r < 8 → part size r new ≡ lane 8 r size lanes
    same r h =
        let fits : r * size + size ≤ length new = omega (arith, part-fits {i = r} {n = 8} size h) in
        ext_get_or 0 (part size r new) (lane 8 r size lanes) (length_part size r new fits ∙ sym (length_lane 8 r size lanes))
        (λ o l. let k : o < size = omega (arith, length_part size r new fits) in
        get_d_part size r o new 0 k
        ∙ sym (get_or_lane size o 8 new r h)
        ∙ ap (λ (xs : List ℕ). get_or xs r 0) (t.lanes o k)
        ∙ get_d_part 8 o r lanes 0 h
        ∙ sym (get_or_lane 8 r size lanes o k))

module _ {K : Ops} (F : IsField K) (k : ℕ) (b : List ℕ) (B : Basis K k b) where
  -- words of polynomials with the same values
  pub same_word : (p p' : List ℕ) → ((x : ℕ) → K.Sym x → eval K p x ≡ eval K p' x) → word_of K k b p ≡ word_of K k b p'
  same_word p p' e = tab_ext (2 ^ k) (λ i. eval K p (elem K b i)) (λ i. eval K p' (elem K b i)) (λ i h. e (elem K b i) (elem_sym F b i B.elements))

module _ {s : Setting} {bs : List ℕ} (r : Ready s.field.modulus bs s) where
  abbrev q : ℕ
  q = s.field.modulus

  abbrev k : ℕ
  k = s.space.k

  abbrev size : ℕ
  size = 2 ^ (k - 3)

  eight_sizes : 2 ^ k ≡ 8 * size
  eight_sizes = eighths k (usable r).low

  abbrev word : List ℕ → List ℕ
  word p = word_of (symbols q) (length bs) bs p

  length_word : (p : List ℕ) → length (word p) ≡ 8 * size
  length_word p = length_tab (2 ^ length bs) (λ i. eval (symbols q) p (elem (symbols q) bs i)) ∙ ap (λ (i : ℕ). 2 ^ i) (sym r.dimension) ∙ eight_sizes

  -- the lanes are the blocks of the word of p
  pub blocks_written : (p work lanes : List ℕ) → NovelOf q s.steps (k - 3) p work → LanesOf q s.space.images k (stretch size size work) lanes
      → (i : ℕ) → i < 8 → block k i lanes ≡ part size i (word p)
  blocks_written p work lanes n l i h =
      let d : List ℕ = stretch size size work in
      l bs (ready_basis r) r.images i h
      ∙ ap (part size i)
      (same_word (ready_field r) k bs (ready_basis r) (monomials (symbols q) bs (k - 3) d) p
      (λ x sx. eval-monomials (ready_field r) bs (k - 3) d x sx ∙ n.values bs (steps_of r (k - 3) (omega arith)) x sx)
      ∙ ap (λ (i : ℕ). word_of (symbols q) i bs p) r.dimension)

  -- one after the other they are the word
  module _ (p scratch : List ℕ) (l : WordLanes s p scratch) where
    pub lanes_transposed : (old new : List ℕ) → Transposed size 8 (take (2 ^ k) scratch) old new → length new ≡ 2 ^ k → new ≡ word p
    lanes_transposed old new t ln = transposed_word size (take (2 ^ k) scratch) old new (word p) t (ln ∙ eight_sizes) (length_word p) (l bs r)

    pub lanes_in_order : in_order size (take (2 ^ k) scratch) ≡ word p
    lanes_in_order = in_order_word size (take (2 ^ k) scratch) (word p) (length_word p) (l bs r)
