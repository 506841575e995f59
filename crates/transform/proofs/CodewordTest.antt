-- The codeword test: equal lanes of coefficients, exactly for a codeword. Assumes nothing.
use mathlib.Core.Path.{◌≡◌, sym, ap, ◌∙◌, subst}
use mathlib.Core.Bool.{Bool}
use mathlib.Core.List.{List}
use Prim.Native.Nat.{ℕ, ◌+◌, ◌-◌, ◌*◌, ◌/◌, ◌%◌, ◌^◌, ◌≤◌, ◌<◌}
use native.Mathlib.Nat.{mul_comm, div-lt_iff_lt-mul, mod-lt, div-add-mod'}
use native.Mathlib.Omega.{arith}
use lib.ListN.{length, get_or, drop}
use lib.Pow.{pow_pos}
use Rattle.lists.specs.All.{All, Below, All-at, All-of, All-take, All-drop}
use Rattle.lists.specs.Decides.{Decides, decides_same}
use Rattle.lists.specs.Tables.{part, get_d_part}
use Rattle.lists.specs.Lanes.{lane, get_or_lane, lanes_each}
use Rattle.field.specs.Binary.{degree, Irreducible}
use Rattle.field.specs.Symbols.{symbols, symbols-field}
use Rattle.field.specs.declared.Field.{Field}
use Rattle.poly.specs.Transform.{inverse}
use Rattle.poly.specs.Values.{table, images_of}
use Rattle.poly.specs.Codeword.{Basis, Codeword}
use Rattle.poly.specs.Blocks.{block_shift, block_coeffs}
use Rattle.poly.proofs.Blocks.{codeword_blocks}
use Rattle.space.specs.Images.{Images}
use Rattle.transform.specs.Slices.{Transposed}
use Rattle.transform.specs.Blocks.{InBlocks, block, BlocksInterpolated, EqualLanes, Tested}
use Rattle.transform.proofs.BlockLaws.{eight}

-- the size of a block
pub eighth : (k : ℕ) → 3 ≤ k → (xs : List ℕ) → length xs ≡ 2 ^ k → length xs / 8 ≡ 2 ^ (k - 3)
eighth k h xs e = omega (arith, eight k h)

module _ (q : ℕ) (irr : Irreducible q) (images : List ℕ) (k : ℕ) (hk : 3 ≤ k) (old new : List ℕ) (bo : Below (2 ^ degree q) old)
    (t : BlocksInterpolated q images k old new) (b : List ℕ) (B : Basis (symbols q) k b) (I : Images (symbols q) b images)
    (word : List ℕ) (lw : length word ≡ 2 ^ k) (e : (r : ℕ) → r < 8 → block k r old ≡ part (2 ^ (k - 3)) r word) where
  abbrev n : ℕ
  n = 2 ^ (k - 3)

  -- the word of the blocks has symbols
  pub word_below : Below (2 ^ degree q) word
  word_below = All-of (λ x. x < 2 ^ degree q) word 0 (λ p h. at p (omega (arith, eight k hk, mul_comm n 8)))
    where
      at : (p : ℕ) → p < 8 * n → get_or word p 0 < 2 ^ degree q
      at p h =
          let r : ℕ = p / n in
          let o : ℕ = p % n in
          let hr : r < 8 = (div-lt_iff_lt-mul (pow_pos (k - 3))).1 h in
          let ho : o < n = mod-lt p (pow_pos (k - 3)) in
          subst (λ (x : ℕ). x < 2 ^ degree q)
          (sym (get_or_lane 8 r n old o ho) ∙ ap (λ (l : List ℕ). get_or l o 0) (e r hr) ∙ get_d_part n r o word 0 ho ∙ ap (λ (i : ℕ). get_or word i 0) (div-add-mod' p n))
          (All-at (λ x. x < 2 ^ degree q) old 0 bo (pow_pos (degree q)) (o * 8 + r))

  pub block_coeffs_lem : (r : ℕ) → r < 8 → block k r new ≡ block_coeffs (symbols q) k b word r
  block_coeffs_lem r h =
      t.coeffs b B I r h ∙ ap (inverse (symbols q) (table (symbols q) b) (k - 3) (images_of (symbols q) b (block_shift (symbols q) k b r))) (e r h)

  pub codeword_test : (answer : Bool) → Decides answer (EqualLanes n new) → Decides answer (Codeword (symbols q) k b word)
  codeword_test answer d =
      let test = codeword_blocks (symbols-field q irr) k hk b B word lw word_below in
      decides_same (EqualLanes n new) (Codeword (symbols q) k b word)
      (λ h. test.1 (λ r l. sym (block_coeffs_lem r l) ∙ h r l ∙ block_coeffs_lem 0 (omega arith)))
      (λ c r l. block_coeffs_lem r l ∙ test.0 c r l ∙ sym (block_coeffs_lem 0 (omega arith)))
      d

-- ---- the word in lanes, as `is_codeword` has it

module _ (f : Field) (images : List ℕ) (k : ℕ) (word : List ℕ) (pre : InBlocks f images k word) (old work : List ℕ) (lo : length old ≡ length word)
    (t : Transposed 8 (length word / 8) word old work) where
  abbrev Small : ℕ → Type 0
  Small x = x < 2 ^ degree f.modulus

  blocks_are : (r : ℕ) → r < 8 → block k r work ≡ part (2 ^ (k - 3)) r word
  blocks_are = subst (λ (n : ℕ). (r : ℕ) → r < 8 → lane 8 r n work ≡ part n r word) (eighth k pre.low word pre.long) t.lanes

  pub work_blocks : InBlocks f images k work
  work_blocks =
      record {
        sized = pre.sized;
        irreducible = pre.irreducible;
        low = pre.low;
        high = pre.high;
        long = long;
        image-symbols = pre.image-symbols;
        symbols = lanes_each Small 8 (2 ^ (k - 3)) work (long ∙ eight k pre.low) (λ r h. subst (All Small) (sym (blocks_are r h)) (part_small r));
      }
    where
      long : length work ≡ 2 ^ k
      long = t.kept ∙ lo ∙ pre.long

      part_small : (r : ℕ) → All Small (part (2 ^ (k - 3)) r word)
      part_small r = All-take Small (2 ^ (k - 3)) (drop (r * 2 ^ (k - 3)) word) (All-drop Small (r * 2 ^ (k - 3)) word pre.symbols)

  pub word_tested : (new : List ℕ) (answer : Bool) → BlocksInterpolated f.modulus images k work new → Decides answer (EqualLanes (length new / 8) new)
      → Tested f.modulus images k word answer new
  word_tested new answer s d =
      record {
        decides = λ b B I. codeword_test f.modulus pre.irreducible images k pre.low work new work_blocks.symbols s b B I word pre.long blocks_are answer equal;
        coeffs = λ b B I r h. block_coeffs_lem f.modulus pre.irreducible images k pre.low work new work_blocks.symbols s b B I word pre.long blocks_are r h;
        below = s.below;
      }
    where
      equal : Decides answer (EqualLanes (2 ^ (k - 3)) new)
      equal = subst (λ (n : ℕ). Decides answer (EqualLanes n new)) (eighth k pre.low new (s.kept ∙ work_blocks.long)) d
