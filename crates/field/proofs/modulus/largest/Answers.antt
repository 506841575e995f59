use Rattle.std.proofs.Common.{rules, ◌<◌, ◌≤◌, ◌≡◌, ℕ, length, get_or, List, Option, None, Some, arith}
use Rattle.std.specs.Option.{MatchOption, unwrap_or}
use Rattle.lists.specs.All.{All-of, All-inside}
use Rattle.field.specs.Ranges.{Largest}
use Rattle.field.proofs.modulus.largest.Goals as goal

-- an entry that no other exceeds, or 0 where there is none
largest_of : (xs : List ℕ) (r : Option ℕ) → MatchOption r (length xs ≡ 0) (λ m. (k : ℕ) × (k < length xs) × (get_or xs k 0 ≡ m))
    → MatchOption r (length xs ≡ 0) (λ m. (k : ℕ) → k < length xs → get_or xs k 0 ≤ m) → Largest xs (unwrap_or r 0)
largest_of xs None e f n p = (λ h. All-of (λ x. x < n) xs 0 (λ i l. absurd (omega arith)), λ b. p)
largest_of xs (Some m) (k, l, e) f n p = (λ h. All-of (λ x. x < n) xs 0 (λ i j. omega (arith, f i j)), λ b. omega (arith, All-inside (λ x. x < n) xs 0 b k l, e))

pub returns : goal.returns
returns c = rw c.unwrap_or.ensures (largest_of c.args.s.now c.max.result (search rules) (search rules))
