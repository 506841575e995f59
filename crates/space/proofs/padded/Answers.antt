use Rattle.std.proofs.Common.{◌≡◌, refl, ap, ℕ, zero, suc, ◌≤◌, List, [], ◌∷◌, ◌++◌, length, get_or, drop, replicate, arith}
use Rattle.lists.specs.Tables.{tab}
use Rattle.space.specs.Setting.{padded_of}
use Rattle.space.proofs.padded.Goals as goal

-- a list with zeros up to n entries
with_zeros : (n : ℕ) (xs : List ℕ) → length xs ≤ n → xs ++ drop (length xs) (replicate n 0) ≡ tab n (λ i. get_or xs i 0)
with_zeros zero [] h = refl
with_zeros (suc n) [] h = ap (λ (ys : List ℕ). 0 ∷ ys) (with_zeros n [] (omega arith))
with_zeros zero (x ∷ xs) h = absurd (omega arith)
with_zeros (suc n) (x ∷ xs) h = ap (λ (ys : List ℕ). x ∷ ys) (with_zeros n xs (omega arith))

pub returns : goal.returns
unfolding padded_of
returns c = rw c.copy_from_slice.ensures.after (with_zeros 16 c.args.basis.now (omega arith))
