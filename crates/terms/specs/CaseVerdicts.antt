-- Cases P5 and P6 of document 01, by the contract of the checker with the shift 0: the checks pass, and the verdict comes with the number of symbols read, a reject with the degree.
-- `proximity/specs/Cases` has the verdicts alone.
use Rattle.std.specs.Prelude.{◌≡◌, refl, Result, Ok, List, [], ◌∷◌, ℕ, zero, suc, ◌+◌, ◌^◌, ◌≤◌, ◌<◌, length, get_or, set}
use Rattle.std.proofs.Common.{sym, subst, inr, arith, length-set, pow_pos}
use Rattle.lists.specs.All.{All, Below, All-inside}
use Rattle.lists.specs.Answers.{Passes}
use Rattle.refusals.specs.declared.Refusal.{Refusal}
use Rattle.lists.specs.Tables.{tab, All-tab}
use Rattle.field.specs.Binary.{◌⊕◌, degree, product}
use Rattle.field.specs.Symbols.{symbols}
use Rattle.poly.specs.Codeword.{word_of, Codeword}
use Rattle.poly.specs.LeastDegree.{LeastDegree}
use Rattle.poly.proofs.LeastDegree.{least_exists, least_range, least_past_limit}
use Rattle.space.specs.Sound.{Sound, sound_field, sound_passes}
use Rattle.correction.specs.Differences.{differences-set}
use Rattle.proximity.specs.Cases.{basis_8, fives, all_five, one-six, basis_16, identity_word, squares}
use Rattle.proximity.specs.Dim.{R}
use Rattle.proximity.specs.Tree.{S_leaf}
use Rattle.verifier.specs.Checker.{Told}
use Rattle.verifier.specs.OnCoin.{By, on-short}
use Rattle.verifier.specs.Verdicts.{told_coin, delivery-passes}
use Rattle.verifier.specs.declared.Verdict.{Verdict}
use Rattle.verifier.specs.declared.Verdict.TheVariants.{Accept, Reject}
use Rattle.terms.specs.Degrees.{degree-and_distance}
use Rattle.terms.specs.Settings.{sound_11, sound_19}

-- ---- a word of symbols of dimension 6 or below, its empty proof and coin 0

module _ (m : ℕ) (bs : List ℕ) (s : Sound m bs 0) (h : length bs ≤ 6) (w : List ℕ) (lw : length w ≡ 2 ^ length bs) (b : Below (2 ^ degree m) w) where
  abbrev k : ℕ
  k = length bs

  read : Passes ((9, (All (symbols m).Sym w → ⊥)) ∷ [])
  read = inr ((λ f. f b), refl)

  told : (v : Result Verdict Refusal) → By (symbols m) (Codeword (symbols m) k bs w) (2 ^ k) k bs w v → Told m bs 0 w [] 0 v
  told v a =
      told_coin m bs 0 w [] 0 (sound_passes m bs 0 s) (delivery-passes k (length w) 0 0 lw (sym (S_leaf k h)) (pow_pos (R k))) v (on-short (symbols m) k h bs w [] lw 0 v a)

  small_accept : Codeword (symbols m) k bs w → Told m bs 0 w [] 0 (Ok (Accept (2 ^ k)))
  small_accept a = told (Ok (Accept (2 ^ k))) (read, (refl, a))

  small_reject : (g : ℕ) → (Codeword (symbols m) k bs w → ⊥) → LeastDegree (symbols m) (word_of (symbols m) k bs) w g → Told m bs 0 w [] 0 (Ok (Reject (record { reads = 2 ^ k; degree = g; dimension = k })))
  small_reject g a l = told (Ok (Reject (record { reads = 2 ^ k; degree = g; dimension = k }))) (read, (refl, a, l, refl))

-- ---- P5: modulus 11, basis 1, 2, 4: all 5 accepted; 5 with one 6, at any position, rejected with the degree 7; 8 symbols read

abbrev pub P5 : Type 0
P5 = Told 11 basis_8 0 fives [] 0 (Ok (Accept 8)) × ((i : ℕ) → i < 8 → Told 11 basis_8 0 (set fives i 6) [] 0 (Ok (Reject (record { reads = 8; degree = 7; dimension = 3 }))))

below_set : (n : ℕ) (xs : List ℕ) (i x : ℕ) → x < n → Below n xs → Below n (set xs i x)
below_set n [] i x h b = tt
below_set n (y ∷ ys) zero x h b = (h, b.1)
below_set n (y ∷ ys) (suc i) x h b = (b.0, below_set n ys i x h b.1)

fives-below : Below (2 ^ degree 11) fives
unfolding degree
fives-below = search (arith) depth 20

six-below : 6 < 2 ^ degree 11
unfolding degree
six-below = omega arith

-- one wrong symbol: the degree is the largest
six-degree : (i : ℕ) → i < 8 → LeastDegree (symbols 11) (word_of (symbols 11) 3 basis_8) (set fives i 6) 7
six-degree i h =
    let s : Sound 11 basis_8 0 = sound_11 0 (omega arith) in
    let w : List ℕ = set fives i 6 in
    let sw : Below (2 ^ degree 11) w = below_set (2 ^ degree 11) fives i 6 six-below fives-below in
    let (g, l) = least_exists (sound_field s) 3 basis_8 s.basis w sw (length-set fives i 6) (one-six i h) in
    let near : 8 ≤ g + 1 = subst (λ (d : ℕ). 8 ≤ g + d) (differences-set fives i 6 h (other i h)) (degree-and_distance (sound_field s) 3 basis_8 s.basis w fives (length-set fives i 6) refl g (one-six i h) l all_five) in
    let most : g ≤ 7 = (least_range (sound_field s) 3 basis_8 s.basis w g (length-set fives i 6) l).0 in
    subst (LeastDegree (symbols 11) (word_of (symbols 11) 3 basis_8) w) {x = g} {y = 7} (omega arith) l
  where
    other : (i : ℕ) → i < 8 → 6 ≡ get_or fives i 0 → ⊥
    other i h e = omega (arith, All-inside (λ (x : ℕ). x ≡ 5) fives 0 (refl, (refl, (refl, (refl, (refl, (refl, (refl, (refl, tt)))))))) i h)

pub p5 : P5
p5 = (
  small_accept 11 basis_8 (sound_11 0 (omega arith)) (omega arith) fives refl fives-below all_five,
  λ i h. small_reject 11 basis_8 (sound_11 0 (omega arith)) (omega arith) (set fives i 6) (length-set fives i 6) (below_set (2 ^ degree 11) fives i 6 six-below fives-below) 7 (one-six i h) (six-degree i h),
)

-- ---- P6: modulus 19, basis 1, 2, 4, 8: symbol i at position i accepted; i·i rejected with the degree 2; 16 symbols read

abbrev pub P6 : Type 0
P6 = Told 19 basis_16 0 (tab 16 (λ i. i)) [] 0 (Ok (Accept 16)) × Told 19 basis_16 0 (tab 16 (λ i. product 19 i i)) [] 0 (Ok (Reject (record { reads = 16; degree = 2; dimension = 4 })))

sixteen : (i : ℕ) → i < 16 → i < 2 ^ degree 19
unfolding degree
sixteen i h = h

square_degree : LeastDegree (symbols 19) (word_of (symbols 19) 4 basis_16) (tab 16 (λ i. product 19 i i)) 2
unfolding ◌⊕◌ product degree
square_degree =
    let s : Sound 19 basis_16 0 = sound_19 0 (omega arith) in
    least_past_limit (sound_field s) 4 basis_16 s.basis (tab 16 (λ i. product 19 i i)) (0 ∷ 0 ∷ 1 ∷ []) refl (omega arith, (omega arith, (omega arith, tt))) refl squares

pub p6 : P6
p6 = (
  small_accept 19 basis_16 (sound_19 0 (omega arith)) (omega arith) (tab 16 (λ i. i)) refl (All-tab (symbols 19).Sym 16 (λ i. i) sixteen) identity_word,
  small_reject 19 basis_16 (sound_19 0 (omega arith)) (omega arith) (tab 16 (λ i. product 19 i i)) refl
      (All-tab (symbols 19).Sym 16 (λ i. product 19 i i) (λ i h. (sound_field (sound_19 0 (omega arith))).sym_prod (sixteen i h) (sixteen i h))) 2 squares square_degree,
)
