-- Element i of a span, one basis element after the other. Assumes nothing.
use mathlib.Core.Path.{◌≡◌, sym, ap, ap₂, ◌∙◌}
use mathlib.Core.List.{List, [], ◌∷◌, ◌++◌}
use Prim.Native.Nat.{ℕ, zero, suc, ◌+◌, ◌*◌, ◌/◌, ◌%◌, ◌^◌, ◌<◌}
use native.Mathlib.Nat.{zero-mul, one-mul, div-one}
use native.Mathlib.Numerals.{add-one}
use native.Mathlib.Omega.{arith}
use lib.ListN.{length, get_or, take}
use lib.Pow.{shr-shr}
use lib.Seq.{take-suc, length-take-le}
use Rattle.field.specs.Binary.{◌⊕◌}
use Rattle.field.specs.Xor.{xor_zero_left, xor_zero_right, xor_assoc}
use Rattle.field.specs.Symbols.{symbols}
use Rattle.poly.specs.Span.{elem, bit_of}

bit_times : (u b : ℕ) → u < 2 → u * b ≡ bit_of u b
bit_times zero b h = zero-mul b
bit_times (suc zero) b h = one-mul b
bit_times (suc (suc u)) b h = absurd (omega arith)

module _ (m : ℕ) where
  -- one more basis element at the end
  elem_snoc : (bs : List ℕ) (b i : ℕ) → elem (symbols m) (bs ++ (b ∷ [])) i ≡ elem (symbols m) bs i ⊕ bit_of (i / 2 ^ length bs % 2) b
  elem_snoc [] b i = xor_zero_right (bit_of (i % 2) b) ∙ ap (λ (k : ℕ). bit_of (k % 2) b) (sym (div-one i)) ∙ sym (xor_zero_left (bit_of (i / 1 % 2) b))
  elem_snoc (x ∷ bs) b i =
      ap (λ (t : ℕ). bit_of (i % 2) x ⊕ t) (elem_snoc bs b (i / 2))
      ∙ sym (xor_assoc (bit_of (i % 2) x) (elem (symbols m) bs (i / 2)) (bit_of (i / 2 / 2 ^ length bs % 2) b))
      ∙ ap (λ (k : ℕ). bit_of (i % 2) x ⊕ elem (symbols m) bs (i / 2) ⊕ bit_of (k % 2) b) (shr-shr i 1 (length bs) ∙ ap (λ (k : ℕ). i / 2 ^ k) (omega arith))

  -- a turn of the loop of `element`
  pub element_next : (bs : List ℕ) (i j s : ℕ) → j < length bs → s ≡ elem (symbols m) (take j bs) i → s ⊕ (i / 2 ^ j % 2 * get_or bs j 0) ≡ elem (symbols m) (take (j + 1) bs) i
  element_next bs i j s h e =
      ap₂ ◌⊕◌ e (bit_times (i / 2 ^ j % 2) (get_or bs j 0) (omega arith) ∙ ap (λ (n : ℕ). bit_of (i / 2 ^ n % 2) (get_or bs j 0)) (sym (length-take-le j bs (omega arith))))
      ∙ sym (elem_snoc (take j bs) (get_or bs j 0) i)
      ∙ ap (λ (l : List ℕ). elem (symbols m) l i) (sym (take-suc bs j 0 h) ∙ ap (λ (n : ℕ). take n bs) (sym (add-one j)))
